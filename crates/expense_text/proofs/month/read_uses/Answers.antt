use Rattle.std.proofs.Common.{◌≡◌, ◌+◌, ◌<◌, ◌∙◌, [], ◌∷◌, ◌++◌, length, vec_items, rules}
use Rattle.std.proofs.lemmas.Option.{MatchOption-at_none, MatchOption-at_some}
use Rattle.std.proofs.lemmas.Result.{err_from_is_err_and}
use Rattle.expense_text.specs.Months.{layout_fault}
use Rattle.expense_text.proofs.Uses.{not_a_use, one_more, refused_line, refused_so, unended}
use Rattle.expense_text.proofs.month.read_uses.Goals as goal

pub returns-in_err-line : goal.returns-in_err-line
returns-in_err-line c =
    let p = err_from_is_err_and c.from_residual.result c.from_residual.ensures.1 in
    let n : c.len-before.result ≡ length (vec_items c.loop-rest.participants) = search rules in
    let some : 0 < length c.loop-rest.rest.now = search rules in
    let none = c.in_err-line.ensures.ok_part in
    let so = refused_so _ _ _ none c.in_err-line.ensures.value in
    let at-line : c.against_layout-refusal.result ≡ layout_fault (c.len-before.result + 2) = search rules in
    rw (p.1, p.2)
    (refused_line _ _ c.loop-rest.rest.now c.len-before.result _ c.loop-rest.invariant some n (unended _ _ (MatchOption-at_none _ _ none c.split_line.ensures)) (so ∙ at-line))

pub returns-in_err-month_use : goal.returns-in_err-month_use
returns-in_err-month_use c =
    let p = err_from_is_err_and c.from_residual-in_err-month_use.result c.from_residual-in_err-month_use.ensures.1 in
    let n : c.len-before.result ≡ length (vec_items c.loop-rest.participants) = search rules in
    let some : 0 < length c.loop-rest.rest.now = search rules in
    let first = MatchOption-at_some _ _ _ c.in_ok-line.ensures.ok_part c.split_line.ensures in
    let none = c.in_err-month_use.ensures.ok_part in
    let so = refused_so _ _ _ none c.in_err-month_use.ensures.value in
    let at-line : c.against_layout-refusal.result ≡ layout_fault (c.len-before.result + 2) = search rules in
    rw (p.1, p.2)
    (refused_line _ _ c.loop-rest.rest.now c.len-before.result _ c.loop-rest.invariant some n (not_a_use _ _ _ _ first (MatchOption-at_none _ _ none c.read_use.ensures)) (so ∙ at-line))

pub loop-rest-preserved : goal.loop-rest-preserved
loop-rest-preserved c =
    let n : c.len-before.result ≡ length (vec_items c.loop-rest.participants) = search rules in
    let p : vec_items c.push.new.self ≡ vec_items c.loop-rest.participants ++ (c.in_ok-month_use.month_use ∷ []) = search rules in
    let first = MatchOption-at_some _ _ _ c.in_ok-line.ensures.ok_part c.split_line.ensures in
    let stated = MatchOption-at_some _ _ _ c.in_ok-month_use.ensures.ok_part c.read_use.ensures in
    rw p (one_more _ _ _ c.loop-rest.rest.now _ _ c.loop-rest.invariant first (rw (← n) stated))
