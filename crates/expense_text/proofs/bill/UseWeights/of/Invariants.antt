use Rattle.std.proofs.Common.{◌≡◌, length, map, take}
use Rattle.expense_text.specs.Bills.{peak_weight, volume_weight}
use Rattle.expense_text.proofs.bill.UseWeights.of.Given as goal

-- the weights of the participants so far
abbrev pub invariant-loop-month_use : goal.invariant-loop-month_use
invariant-loop-month_use l =
    (length l.volumes.items ≡ l.month_use-index)
    × (length l.peaks.items ≡ l.month_use-index)
    × (l.volumes.items ≡ map volume_weight (take l.month_use-index l.uses))
    × (l.peaks.items ≡ map peak_weight (take l.month_use-index l.uses))
