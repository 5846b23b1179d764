use Rattle.std.proofs.Common.{◌^◌, ◌<◌, rules}
use Rattle.measures.specs.Faults.{number_of}
use Rattle.expense_text.proofs.Told.{row_read}
use Rattle.expense_text.proofs.refusal.refusal_row.Goals as goal

pub returns-clause-reads : goal.returns-clause-reads
returns-clause-reads c =
    let small : number_of c.args.fault.now.cause < 2 ^ 8 = search rules in
    row_read c.args.fault.now small
