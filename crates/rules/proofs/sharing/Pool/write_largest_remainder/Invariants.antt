use Rattle.std.proofs.Common.{◌≡◌, ◌≤◌, length, take}
use Rattle.rules.specs.Sharing.{amounts, largest_remainder}
use Rattle.rules.proofs.sharing.Pool.write_largest_remainder.Given as goal

abbrev pub invariant-loop-i : goal.invariant-loop-i
invariant-loop-i l = (l.i ≤ length l.self.weights.now) × (take l.i (amounts l.to) ≡ take l.i (largest_remainder l.self.cents.0 l.self.weights.now))
