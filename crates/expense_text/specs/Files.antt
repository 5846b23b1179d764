-- From the bytes of a file to the text of its bill.
use Rattle.std.specs.Prelude.{◌≡◌, ℕ, ◌+◌, ◌<◌, ◌≤◌, min, ◌⊎◌, List, length, ℤ, None, Some, Ok, Err, string_bytes, Result, String}
use Rattle.std.specs.Option.{option_map_or}
use Rattle.std.specs.declared.alloc.Global.{Global}
use Rattle.measures.specs.Faults.{fault, on_text_line}
use Rattle.measures.specs.declared.fault.Cause.TheVariants.{Layout}
use Rattle.measures.specs.declared.fault.Fault.{Fault}
use Rattle.measures.specs.declared.fault.Layer.TheVariants.{Text}
use Rattle.lines.specs.declared.month_use.MonthUse.{MonthUse}
use Rattle.expense_text.specs.Bills.{IsBill, bill_refusal}
use Rattle.expense_text.specs.Months.{AgainstLayout, IsMonth, no_memory}

-- a refused month names the line of the participant at fault, or the first line; there are no more than 64 participants
abbrev pub at_its_line : Fault → Fault
at_its_line f = on_text_line (option_map_or (λ place. min place 64 + 1) f.place 1) f

-- a file of more than 65,536 bytes is refused at no line
abbrev pub TooLong : List ℕ → Fault → Type 0
TooLong bs f = (65536 < length bs) × (f ≡ fault Layout Text None)

-- the file is a month that is not billed
abbrev pub NotBilled : List ℕ → Fault → Type 0
NotBilled bs f = (e : ℤ) × ((us : List MonthUse) × ((why : Fault) × (IsMonth e us bs × (bill_refusal e us ≡ Some why) × (f ≡ at_its_line why))))

-- there was no memory for the month; or none for the bill of one that nothing else stands against
abbrev pub OutOfMemory : List ℕ → Fault → Type 0
OutOfMemory bs f = (f ≡ no_memory) ⊎ ((e : ℤ) × ((us : List MonthUse) × (IsMonth e us bs × (bill_refusal e us ≡ None) × (f ≡ at_its_line no_memory))))

-- what a file is answered: the bill of the month that it states, or the first cause that it has none
abbrev pub FileAnswered : (ℤ → List ℤ → List ℤ) → List ℕ → Result (String Global) Fault → Type 0
FileAnswered rule bs (Ok page) = (length bs ≤ 65536) × ((e : ℤ) × ((us : List MonthUse) × (IsMonth e us bs × IsBill rule e us (string_bytes page))))
FileAnswered rule bs (Err f) = TooLong bs f ⊎ ((length bs ≤ 65536) × (AgainstLayout bs f ⊎ (NotBilled bs f ⊎ OutOfMemory bs f)))
