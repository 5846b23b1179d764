use Rattle.std.proofs.Common.{◌≡◌, ◌++◌, string_bytes}
use Rattle.expense_text.proofs.Rows.{rows_of}
use Rattle.expense_text.proofs.bill.ExpenseShares.write_participants.Given as goal

-- the page has the rows of the participants so far
abbrev pub invariant-loop-i : goal.invariant-loop-i
invariant-loop-i l = string_bytes l.page ≡ string_bytes l.initial.page ++ rows_of l.yielded
