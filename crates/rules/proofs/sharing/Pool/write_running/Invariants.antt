use Rattle.std.proofs.Common.{◌≡◌, ◌≤◌, length, sum, take, unsigned_abs}
use Rattle.rules.specs.Sharing.{amounts, reached, running, sizes}
use Rattle.rules.proofs.sharing.Pool.write_running.Given as goal

abbrev pub invariant-loop-i : goal.invariant-loop-i
invariant-loop-i l =
    (l.i ≤ length l.self.weights.now)
    × (l.so_far ≡ sum (take l.i (sizes l.self.weights.now)))
    × (l.given ≡ reached (unsigned_abs l.self.cents.0) (sizes l.self.weights.now) l.i)
    × (take l.i (amounts l.to) ≡ take l.i (running l.self.cents.0 l.self.weights.now))
