-- The bill of a month's expense: every byte of it.
use Rattle.std.specs.Prelude.{◌≡◌, ℕ, suc, ◌+◌, ◌<◌, ◌≤◌, ◌⊎◌, List, [], ◌∷◌, ◌++◌, map, length, ℤ, pos, ◌+ℤ◌, Some, None, Ok, Err, string_bytes, codes, Option, Result, String, slice_index_or}
use Rattle.std.specs.declared.alloc.Global.{Global}
use Rattle.measures.specs.declared.amounts.Cents.{Cents}
use Rattle.measures.specs.declared.amounts.Kilowatts.{Kilowatts}
use Rattle.measures.specs.declared.amounts.MegawattHours.{MegawattHours}
use Rattle.measures.specs.declared.fault.Fault.{Fault}
use Rattle.rules.specs.Sharing.{amounts, total}
use Rattle.lines.specs.Expense.{ExpenseShared, expense_refusal, peak_pool, volume_pool}
use Rattle.lines.specs.declared.month_use.MonthUse.{MonthUse}
use Rattle.text.specs.Fields.{Field, dollars_text, number_text}
use Rattle.expense_text.specs.Months.{no_memory}
use Rattle.expense_text.specs.Refusals.{field}

-- an amount in dollars in 15 columns, and a line feed
abbrev pub amount_columns : ℤ → List ℕ
amount_columns amount = field 15 (dollars_text amount) ++ (10 ∷ [])

-- a line's number in 6 columns, and its amount
abbrev pub charge_columns : ℤ → ℤ → List ℕ
charge_columns line amount = field 6 (number_text line) ++ amount_columns amount

-- a participant's two rows, each after its number in 4 columns
abbrev pub two_rows : ℕ → ℤ → ℤ → List ℕ
two_rows n x y = field 4 (number_text (pos n)) ++ (charge_columns (pos 21) x ++ (field 4 (number_text (pos n)) ++ charge_columns (pos 22) y))

-- those of all participants, numbered on from n
abbrev pub participant_rows : ℕ → List Cents → List Cents → List ℕ
participant_rows n [] ys = []
participant_rows n (x ∷ xs) [] = []
participant_rows n (x ∷ xs) (y ∷ ys) = two_rows n x.0 y.0 ++ participant_rows (suc n) xs ys

-- the sums of both lines, each and together
abbrev pub sum_rows : ℤ → ℤ → List ℕ
sum_rows a b = codes "SUM " ++ (charge_columns (pos 21) a ++ (codes "SUM " ++ (charge_columns (pos 22) b ++ (codes "SUM       " ++ amount_columns (a +ℤ b)))))

-- the first row: what each column has
abbrev pub bill_header : List ℕ
bill_header = codes "PART  LINE         AMOUNT\n"

-- the whole bill: header, participants, sums of what the participants' rows show
abbrev pub bill_text : List Cents → List Cents → List ℕ
bill_text xs ys = bill_header ++ (participant_rows 1 xs ys ++ sum_rows (total (amounts xs)) (total (amounts ys)))

-- a participant's weight in line 21: the month's load plus generation
abbrev pub volume_weight : MonthUse → MegawattHours
volume_weight u = record { 0 = u.load.0 +ℤ u.generation.0 }

-- its weight in line 22: peak load plus peak generation
abbrev pub peak_weight : MonthUse → Kilowatts
peak_weight u = record { 0 = u.peak_load.0 +ℤ u.peak_generation.0 }

-- the weights of all participants
abbrev pub volumes_of : List MonthUse → List ℤ
volumes_of us = map (λ w. w.0) (map volume_weight us)

abbrev pub peaks_of : List MonthUse → List ℤ
peaks_of us = map (λ w. w.0) (map peak_weight us)

-- why a month's expense is not billed
abbrev pub bill_refusal : ℤ → List MonthUse → Option Fault
bill_refusal e us = expense_refusal e (volumes_of us) (peaks_of us) (length us) (length us)

-- every amount of a list fits its columns, so that none is blank
abbrev pub AllShown : List Cents → Type 0
AllShown xs = (i : ℕ) → i < length (amounts xs) → length (dollars_text (slice_index_or (amounts xs) i (pos 0))) ≤ 15

-- each participant's number, in the columns of its rows, reads as that number
abbrev pub ParticipantsRead : List Cents → Type 0
ParticipantsRead xs = (i : ℕ) → i < length xs → Field (field 4 (number_text (pos (i + 1)))) (pos (i + 1))

-- and so do the numbers of both lines
abbrev pub LinesRead : Type 0
LinesRead = Field (field 6 (number_text (pos 21))) (pos 21) × Field (field 6 (number_text (pos 22))) (pos 22)

-- the bytes are the bill of this month by a sharing rule: every cent of the expense in one of its rows
pub record IsBill (rule : ℤ → List ℤ → List ℤ) (e : ℤ) (us : List MonthUse) (bs : List ℕ) : Type 0 where
  pub by_volume : List Cents
  pub by_peak : List Cents
  pub accepted : bill_refusal e us ≡ None
  pub shared : ExpenseShared rule e (volumes_of us) (peaks_of us) (amounts by_volume) (amounts by_peak)
  pub printed : bs ≡ bill_text by_volume by_peak
  pub volumes_shown : AllShown by_volume
  pub peaks_shown : AllShown by_peak
  pub participants_read : ParticipantsRead by_volume
  pub lines_read : LinesRead
  pub sums_shown : (length (dollars_text (volume_pool e)) ≤ 15) × (length (dollars_text (peak_pool e)) ≤ 15) × (length (dollars_text e) ≤ 15)

-- what billing a month answers: its bill, or why there is none; want of memory only where nothing else stands against it
abbrev pub BillAnswered : (ℤ → List ℤ → List ℤ) → ℤ → List MonthUse → Result (String Global) Fault → Type 0
BillAnswered rule e us (Ok page) = IsBill rule e us (string_bytes page)
BillAnswered rule e us (Err f) = (bill_refusal e us ≡ Some f) ⊎ ((bill_refusal e us ≡ None) × (f ≡ no_memory))
