-- The month's expense: two shared lines, 21 by month volume and 22 by peak.
use Rattle.std.specs.Prelude.{◌≡◌, ℕ, ◌/◌, Bool, true, false, cond, ◌&&◌, List, length, ℤ, pos, negsuc, ◌+ℤ◌, ◌-ℤ◌, Some, None, Ok, Err, Option, Result, ◌==◌, nat_le}
use Rattle.measures.specs.Faults.{fault, on_charge_line}
use Rattle.measures.specs.declared.amounts.Cents.{Cents}
use Rattle.measures.specs.declared.fault.Cause.TheVariants.{SharingLimits, ExpenseOutOfRange}
use Rattle.measures.specs.declared.fault.Fault.{Fault}
use Rattle.measures.specs.declared.fault.Layer.TheVariants.{Share}
use Rattle.rules.specs.Sharing.{amounts, shareable, total, Fair, Within}
use Rattle.lines.specs.Shared.{line_fault}

-- half of an amount, rounded down
abbrev pub half_down : ℤ → ℤ
half_down (pos n) = pos (n / 2)
half_down (negsuc n) = negsuc (n / 2)

-- line 21 shares the expense less its half rounded down
abbrev pub volume_pool : ℤ → ℤ
volume_pool e = e -ℤ half_down e

-- line 22 shares the rest
abbrev pub peak_pool : ℤ → ℤ
peak_pool e = half_down e

-- 0 to 4,000,000,000 cents
abbrev pub expense_in_range : ℤ → Bool
expense_in_range (pos n) = nat_le n 4000000000
expense_in_range (negsuc n) = false

-- line 22 can be shared, and among as many participants as line 21
abbrev pub peaks_shareable : ℤ → ℕ → List ℤ → ℕ → Bool
peaks_shareable e participants peaks places = length peaks == participants && shareable (peak_pool e) peaks places

-- the refusal where it cannot: with another number of participants it has no place
abbrev pub peaks_fault : ℕ → List ℤ → ℕ → Fault
peaks_fault participants peaks places = cond (length peaks == participants) (line_fault 22 peaks places) (on_charge_line 22 (fault SharingLimits Share None))

-- the test of line 22
abbrev pub PeaksChecked : ℤ → ℕ → List ℤ → ℕ → Result Unit Fault → Type 0
PeaksChecked e participants peaks places (Ok _) = peaks_shareable e participants peaks places ≡ true
PeaksChecked e participants peaks places (Err f) = (peaks_shareable e participants peaks places ≡ false) × (f ≡ peaks_fault participants peaks places)

-- why an expense is not shared: the weights or list of line 21, those of line 22, the expense's range
abbrev pub expense_refusal : ℤ → List ℤ → List ℤ → ℕ → ℕ → Option Fault
expense_refusal e volumes peaks places21 places22 =
    cond (shareable (volume_pool e) volumes places21)
    (cond (peaks_shareable e (length volumes) peaks places22)
    (cond (expense_in_range e) None (Some (fault ExpenseOutOfRange Share None)))
    (Some (peaks_fault (length volumes) peaks places22)))
    (Some (line_fault 21 volumes places21))

-- both lists as the rule shares the two pools, each fairly; nobody charged less than 0 or more than a pool; every cent of the expense in one of them
pub record ExpenseShared (rule : ℤ → List ℤ → List ℤ) (e : ℤ) (volumes peaks : List ℤ) (line21 line22 : List ℤ) : Type 0 where
  pub by_volume : line21 ≡ rule (volume_pool e) volumes
  pub by_peak : line22 ≡ rule (peak_pool e) peaks
  pub volume_fair : Fair (volume_pool e) volumes line21
  pub peak_fair : Fair (peak_pool e) peaks line22
  pub volume_within : Within (volume_pool e) line21
  pub peak_within : Within (peak_pool e) line22
  pub every_cent : total line21 +ℤ total line22 ≡ e

-- both lists are written, or neither
abbrev pub ExpenseAnswered : (ℤ → List ℤ → List ℤ) → ℤ → List ℤ → List ℤ → List Cents → List Cents → List Cents → List Cents → Result Unit Fault → Type 0
ExpenseAnswered rule e volumes peaks before21 after21 before22 after22 (Ok _) =
    (expense_refusal e volumes peaks (length before21) (length before22) ≡ None) × ExpenseShared rule e volumes peaks (amounts after21) (amounts after22)
ExpenseAnswered rule e volumes peaks before21 after21 before22 after22 (Err f) =
    (expense_refusal e volumes peaks (length before21) (length before22) ≡ Some f) × (after21 ≡ before21) × (after22 ≡ before22)
