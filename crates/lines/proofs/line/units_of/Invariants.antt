use Rattle.std.proofs.Common.{◌≡◌, length, map, take}
use Rattle.lines.proofs.line.units_of.Given as goal

abbrev pub invariant-loop-weight : goal.invariant-loop-weight
invariant-loop-weight g l = (length l.units.items ≡ l.weight-index) × (l.units.items ≡ map g.L.Weight.WeightUnit.units (take l.weight-index l.weights))
