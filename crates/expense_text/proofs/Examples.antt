-- Lines of a month's file, worked out.
use Rattle.std.proofs.Common.{◌≡◌, pos, negsuc, codes, refl}
use Rattle.std.specs.Fmt.{digits}
use Rattle.lines.specs.declared.month_use.MonthUse.{MonthUse}
use Rattle.expense_text.specs.Months.{expense_line, use_line}

an_expense : expense_line (pos 1234567) ≡ codes "EX     1234567"
unfolding digits
an_expense = refl

abbrev used : MonthUse
used = record { load = record { 0 = pos 5200 }; generation = record { 0 = pos 0 }; peak_load = record { 0 = pos 11500 }; peak_generation = record { 0 = negsuc 6 }; figures_ok = refl }

a_use : use_line 12 used ≡ codes "PA  12      5200         0     11500        -7"
unfolding digits
a_use = refl
