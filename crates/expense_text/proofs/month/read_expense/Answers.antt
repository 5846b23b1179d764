use Rattle.std.proofs.Common.{◌≡◌, ◌≤◌, length, get_or, rules}
use Rattle.expense_text.proofs.Columns.{expense_apart, expense_together, word_held}
use Rattle.expense_text.proofs.month.read_expense.Goals as goal

pub returns-in_err-read_number-in-69 : goal.returns-in_err-read_number-in-69
returns-in_err-read_number-in-69 c = rw c.from_residual.ensures (λ e h. c.in_err-read_number-in-69.ensures e (expense_apart _ e h))

pub returns-in_ok-read_number-in-69 : goal.returns-in_ok-read_number-in-69
returns-in_ok-read_number-in-69 c =
    let long : 2 ≤ length c.args.line.now = search rules in
    let e : get_or c.args.line.now 0 0 ≡ 69 = search rules in
    let x : get_or c.args.line.now 1 0 ≡ 88 = search rules in
    expense_together c.args.line.now _ long e x c.if-amount-ne12.false (word_held _ _ c.in_ok-read_number-in-69.ensures.0)
