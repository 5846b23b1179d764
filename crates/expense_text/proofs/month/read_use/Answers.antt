use Rattle.std.proofs.Common.{◌≡◌, ◌≤◌, length, get_or, rules}
use Rattle.expense_text.proofs.Columns.{use_line_read}
use Rattle.expense_text.proofs.month.read_use.Goals as goal

pub returns-in-80 : goal.returns-in-80
returns-in-80 c =
    let long : 2 ≤ length c.args.line.now = search rules in
    let p : get_or c.args.line.now 0 0 ≡ 80 = search rules in
    let a : get_or c.args.line.now 1 0 ≡ 65 = search rules in
    use_line_read _ c.args.line.now _ long p a c.read_columns.ensures
