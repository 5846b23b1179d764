use Rattle.std.proofs.Common.{◌≡◌, ℕ, true, map, length, sym, subst}
use Rattle.std.proofs.lemmas.List.{length-map}
use Rattle.measures.specs.declared.amounts.Kilowatts.{Kilowatts}
use Rattle.measures.specs.declared.amounts.MegawattHours.{MegawattHours}
use Rattle.lines.specs.Expense.{peaks_shareable}
use Rattle.lines.proofs.Peaks.{expense_done}
use Rattle.lines.proofs.expense.share_expense.Goals as goal

pub returns : goal.returns
returns g c =
    let vs = map (λ (w : MegawattHours). w.0) c.args.volumes.now in
    let ps = map (λ (w : Kilowatts). w.0) c.args.peaks.now in
    let many = sym (length-map c.args.volumes.now (λ (w : MegawattHours). w.0)) in
    let passed = subst (λ (n : ℕ). peaks_shareable c.args.expense.0 n ps (length c.args.by_peak.now) ≡ true) many c.in_ok-check_peaks.ensures in
    expense_done (g.H.Sharing.shares c.args.rule.now) c.args.expense.0 vs ps c.args.by_volume.now c.share_line.new.to c.args.by_peak.now c.share_line-2.new.to c.share_line-2.result c.in_ok-check_line.ensures passed (sym c.if-not-is_in_range.ensures) c.in_ok-share_line.ensures c.share_line-2.ensures
