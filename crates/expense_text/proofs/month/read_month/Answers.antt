use Rattle.std.proofs.Common.{inl, ◌∙◌}
use Rattle.std.proofs.lemmas.Option.{MatchOption-at_none, MatchOption-at_some}
use Rattle.std.proofs.lemmas.Result.{err_from_is_err_and}
use Rattle.expense_text.proofs.Uses.{not_an_expense, refused_file, refused_so, unended_expense}
use Rattle.expense_text.proofs.month.read_month.Goals as goal

pub returns-in_err-line : goal.returns-in_err-line
returns-in_err-line c =
    let p = err_from_is_err_and c.from_residual.result c.from_residual.ensures.1 in
    let none = c.in_err-line.ensures.ok_part in
    let so = refused_so _ _ _ none c.in_err-line.ensures.value in
    rw (p.1, p.2) (inl (inl (unended_expense _ (MatchOption-at_none _ _ none c.split_line.ensures), so ∙ c.against_layout-refusal.ensures)))

pub returns-in_err-expense : goal.returns-in_err-expense
returns-in_err-expense c =
    let p = err_from_is_err_and c.from_residual-in_err-expense.result c.from_residual-in_err-expense.ensures.1 in
    let first = MatchOption-at_some _ _ _ c.in_ok-line.ensures.ok_part c.split_line.ensures in
    let none = c.in_err-expense.ensures.ok_part in
    let so = refused_so _ _ _ none c.in_err-expense.ensures.value in
    rw (p.1, p.2) (inl (inl (not_an_expense _ _ _ first (MatchOption-at_none _ _ none c.read_expense.ensures), so ∙ c.against_layout-refusal.ensures)))

pub returns-in_err-participants : goal.returns-in_err-participants
returns-in_err-participants c =
    let p = err_from_is_err_and c.from_residual-in_err-participants.result c.from_residual-in_err-participants.ensures.1 in
    let first = MatchOption-at_some _ _ _ c.in_ok-line.ensures.ok_part c.split_line.ensures in
    let stated = MatchOption-at_some _ _ _ c.in_ok-expense.ensures.ok_part c.read_expense.ensures in
    rw (p.1, p.2) (refused_file _ _ _ c.in_ok-expense.expense.0 _ first stated c.in_err-participants.ensures)
