use Rattle.std.proofs.Common.{◌++◌, List, ℕ, ap, ◌∙◌, arith}
use Rattle.text.specs.Fields.{right}
use Rattle.expense_text.proofs.Refused.{long_line, short_line}
use Rattle.expense_text.proofs.refusal.push_text_line.Goals as goal

pub returns-then-line-le999999 : goal.returns-then-line-le999999
returns-then-line-le999999 c =
    let before = c.args.row.now.bytes in
    c.push_column.ensures ∙ ap (λ (bs : List ℕ). before ++ right 6 bs) c.format.ensures.text ∙ ap (λ (bs : List ℕ). before ++ bs) (short_line c.args.line (omega (arith, c.if-line-le999999.true)))

pub returns-else-line-le999999 : goal.returns-else-line-le999999
returns-else-line-le999999 c =
    let before = c.args.row.now.bytes in
    c.push_column-else-line-le999999.ensures ∙ ap (λ (bs : List ℕ). before ++ bs) (long_line c.args.line (omega (arith, c.if-line-le999999.false)))
