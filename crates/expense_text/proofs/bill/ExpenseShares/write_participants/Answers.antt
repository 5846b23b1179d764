use Rattle.std.proofs.Common.{◌≡◌, ◌+◌, ◌++◌, ◌∙◌, string_bytes, rules}
use Rattle.std.proofs.lemmas.Iterator.{YieldsList-from_slice, YieldsList-from_zip}
use Rattle.std.proofs.lemmas.Iterator.Consumers.{YieldsList-end, YieldsList-from_enumerate}
use Rattle.expense_text.specs.Layouts.{laid_row}
use Rattle.expense_text.proofs.Rows.{all_rows, one_more}
use Rattle.expense_text.proofs.bill.ExpenseShares.write_participants.Goals as goal

pub loop-i-preserved : goal.loop-i-preserved
loop-i-preserved c =
    let first : string_bytes c.write_charge.new.page ≡ string_bytes c.loop-i.page ++ laid_row (c.in-Some.i + 1) 21 c.in-Some.by_volume.now.0 = search rules in
    let second : string_bytes c.write_charge-in-loop-i.new.page ≡ string_bytes c.write_charge.new.page ++ laid_row (c.in-Some.i + 1) 22 c.in-Some.by_peak.now.0 = search rules in
    one_more _ _ _ _ c.loop-i.yielded (c.in-Some.i, (c.in-Some.by_volume, c.in-Some.by_peak)) c.loop-i.invariant first second

pub returns : goal.returns
returns c =
    let volumes = YieldsList-from_slice {s = c.into_iter-i-iterator.result.iter.a} c.args.self.now.by_volume.items cc in
    let peaks = YieldsList-from_slice {s = c.into_iter-i-iterator.result.iter.b} c.args.self.now.by_peak.items cc in
    let all = YieldsList-end (YieldsList-from_enumerate {s = c.into_iter-i-iterator.result} (YieldsList-from_zip volumes peaks) (cc)) c.loop-i.yielded c.loop-i.i-iterator c.loop-i.yielded_by c.next.result c.next.new.self c.in-None.is c.next.ensures.steps in
    c.loop-i.invariant ∙ all_rows _ c.loop-i.yielded _ _ all.0
