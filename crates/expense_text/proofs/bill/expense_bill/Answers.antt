use Rattle.std.proofs.Common.{◌≡◌, ◌∙◌, string_bytes, arith, rules}
use Rattle.std.proofs.lemmas.List.{length-map}
use Rattle.measures.specs.declared.amounts.Cents.{Cents}
use Rattle.lines.proofs.Peaks.{accepted_few, accepted_range}
use Rattle.expense_text.specs.Bills.{peaks_of, volumes_of}
use Rattle.expense_text.specs.Layouts.{laid_bill}
use Rattle.expense_text.proofs.Fitted.{fitted_shares}
use Rattle.expense_text.proofs.Shown.{peaks_shown, sums_shown, volumes_shown}
use Rattle.expense_text.proofs.Told.{lines_read, participants_read}
use Rattle.expense_text.proofs.bill.expense_bill.Goals as goal

pub returns : goal.returns
returns g c =
    let e = c.args.month.now.expense.0 in
    let shares = c.in_ok-shares.shares in
    let us = c.deref.result.now in
    let h = c.in_ok-shares.ensures in
    let range = accepted_range e (volumes_of us) (peaks_of us) _ _ h.1 in
    let few = accepted_few e (volumes_of us) (peaks_of us) _ _ h.1 in
    let laid : string_bytes c.in_ok-page.page ≡ laid_bill shares.by_volume.items shares.by_peak.items = search rules in
    let volumes = volumes_shown e shares.by_volume.items range h.2.volume_within in
    let peaks = peaks_shown e shares.by_peak.items range h.2.peak_within in
    let sums = sums_shown e range in
    let each = h.2.volume_fair.each in
    let many = length-map shares.by_volume.items (λ (c : Cents). c.0) in
    rw (← c.deref.ensures.value)
    (record {
      by_volume = shares.by_volume.items;
      by_peak = shares.by_peak.items;
      accepted = h.1;
      shared = h.2;
      printed = laid ∙ fitted_shares _ e (volumes_of us) (peaks_of us) shares.by_volume.items shares.by_peak.items few h.2 volumes peaks sums;
      volumes_shown = volumes;
      peaks_shown = peaks;
      participants_read = participants_read shares.by_volume.items (omega arith);
      lines_read = lines_read;
      sums_shown = sums;
    })
