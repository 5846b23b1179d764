use Rattle.expense_text.proofs.Filed.{filed}
use Rattle.expense_text.proofs.file.bill_of_file.Goals as goal

pub returns : goal.returns
returns g c =
    let month = c.in_ok-month.month in
    filed (g.H.Sharing.shares c.args.rule.now) c.args.input.now month.expense.0 month.participants.items c.expense_bill.result c.map_err.result c.if-input-gt-LONGEST_FILE.false c.in_ok-month.ensures c.expense_bill.ensures c.map_err.ensures.cases
