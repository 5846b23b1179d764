use Rattle.std.proofs.Common.{length, vec_items}
use Rattle.expense_text.specs.Months.{UsesBefore}
use Rattle.expense_text.proofs.month.read_uses.Given as goal

-- the lines before the rest are those of the participants read
abbrev pub invariant-loop-rest : goal.invariant-loop-rest
invariant-loop-rest l = UsesBefore (vec_items l.participants) l.input l.rest

abbrev pub decreases-loop-rest : goal.decreases-loop-rest
decreases-loop-rest l = length l.rest
