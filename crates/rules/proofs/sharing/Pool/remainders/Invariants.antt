use Rattle.std.proofs.Common.{◌≡◌, length, map, unsigned_abs}
use Rattle.std.specs.List.{range_with_len}
use Rattle.rules.specs.Sharing.{sizes, remainder}
use Rattle.rules.proofs.sharing.Pool.remainders.Given as goal

abbrev pub invariant-loop-weight : goal.invariant-loop-weight
invariant-loop-weight l =
    (length l.rests.items ≡ l.weight-index)
    × (l.rests.items ≡ map (remainder (unsigned_abs l.self.cents.0) (sizes l.self.weights.now)) (range_with_len 0 l.weight-index))
