-- The file of a month: its lines in fixed columns, and when bytes are that file.
use Rattle.std.specs.Prelude.{◌≡◌, ℕ, suc, ◌+◌, ◌≢◌, ◌⊎◌, List, [], ◌∷◌, ◌++◌, length, ℤ, pos, None, Ok, Err, vec_items, codes, Result, Vec}
use Rattle.std.specs.declared.alloc.Global.{Global}
use Rattle.measures.specs.Faults.{fault, on_text_line}
use Rattle.measures.specs.declared.fault.Cause.TheVariants.{Layout, OutOfMemory}
use Rattle.measures.specs.declared.fault.Fault.{Fault}
use Rattle.measures.specs.declared.fault.Layer.TheVariants.{Text}
use Rattle.lines.specs.declared.month_use.MonthUse.{MonthUse}
use Rattle.text.specs.Fields.{right, number_text}
use Rattle.expense_text.specs.declared.month.ExpenseMonth.{ExpenseMonth}

-- EX, and the expense in cents in columns 3 to 14
abbrev pub expense_line : ℤ → List ℕ
expense_line e = codes "EX" ++ right 12 (number_text e)

-- after PA: the participant's number in columns 3 to 6, its load and generation in MWh and its peak load and peak generation in kW in ten columns each
abbrev pub use_columns : ℕ → MonthUse → List ℕ
use_columns participant u =
    right 4 (number_text (pos participant)) ++ (right 10 (number_text u.load.0) ++ (right 10 (number_text u.generation.0) ++ (right 10 (number_text u.peak_load.0) ++ right 10 (number_text u.peak_generation.0))))

-- PA, and those columns
abbrev pub use_line : ℕ → MonthUse → List ℕ
use_line participant u = codes "PA" ++ use_columns participant u

-- the columns are these: 44 of them, so each number fits its own
abbrev pub AreColumns : List ℕ → ℕ → MonthUse → Type 0
AreColumns columns participant u = (length columns ≡ 44) × (columns ≡ use_columns participant u)

-- a line states this expense: it has 14 columns, so the number fits its own
abbrev pub IsExpense : List ℕ → ℤ → Type 0
IsExpense line e = (length line ≡ 14) × (line ≡ expense_line e)

-- a line states this participant's use: it has 46 columns, so each number fits its own
abbrev pub IsUse : List ℕ → ℕ → MonthUse → Type 0
IsUse line participant u = (length line ≡ 46) × (line ≡ use_line participant u)

-- the bytes are the lines of these participants, numbered on from n, each ended by a line feed
abbrev pub AreUses : ℕ → List MonthUse → List ℕ → Type 0
AreUses n [] bs = bs ≡ []
AreUses n (u ∷ us) bs = (rest : List ℕ) × ((length (use_line n u) ≡ 46) × (bs ≡ use_line n u ++ (10 ∷ rest)) × AreUses (suc n) us rest)

-- the bytes are the file of a month with this expense and these participants, numbered from 1
abbrev pub IsMonth : ℤ → List MonthUse → List ℕ → Type 0
IsMonth e us bs = (rest : List ℕ) × ((length (expense_line e) ≡ 14) × (bs ≡ expense_line e ++ (10 ∷ rest)) × AreUses 1 us rest)

-- the bytes do not begin with the line of an expense
abbrev pub NoExpense : List ℕ → Type 0
NoExpense bs = (e : ℤ) (rest : List ℕ) → length (expense_line e) ≡ 14 → bs ≢ expense_line e ++ (10 ∷ rest)

-- the bytes do not begin with the line of participant n, whatever its use
abbrev pub NoUse : ℕ → List ℕ → Type 0
NoUse n bs = (u : MonthUse) (rest : List ℕ) → length (use_line n u) ≡ 46 → bs ≢ use_line n u ++ (10 ∷ rest)

-- the front of the bytes is the file of a month with this expense and these participants, and after it stands something else than the next participant's line
pub record WrongAfter (e : ℤ) (us : List MonthUse) (bs : List ℕ) : Type 0 where
  pub front : List ℕ
  pub rest : List ℕ
  pub parts : bs ≡ front ++ rest
  pub right_so_far : IsMonth e us front
  pub some_left : rest ≢ []
  pub wrong : NoUse (suc (length us)) rest

-- the lines of these participants stand before the rest
pub record UsesBefore (us : List MonthUse) (bs rest : List ℕ) : Type 0 where
  pub front : List ℕ
  pub parts : bs ≡ front ++ rest
  pub lines : AreUses 1 us front

-- after the lines of these participants stands something else than the next one's line
pub record WrongAmong (us : List MonthUse) (bs : List ℕ) : Type 0 where
  pub rest : List ℕ
  pub before : UsesBefore us bs rest
  pub some_left : rest ≢ []
  pub wrong : NoUse (suc (length us)) rest

-- a line against the layout, by its number
abbrev pub layout_fault : ℕ → Fault
layout_fault line = on_text_line line (fault Layout Text None)

-- a file against the layout is refused at its first wrong line: line 1 is no expense, or the lines before the wrong one are those of a month
abbrev pub AgainstLayout : List ℕ → Fault → Type 0
AgainstLayout bs f =
    (NoExpense bs × (f ≡ layout_fault 1)) ⊎ ((e : ℤ) × ((us : List MonthUse) × (WrongAfter e us bs × (f ≡ layout_fault (length us + 2)))))

-- there was no memory for what is made
abbrev pub no_memory : Fault
no_memory = fault OutOfMemory Text None

-- what reading a file answers: the month that it is, or the refusal of its first wrong line, or want of memory
abbrev pub MonthAnswered : List ℕ → Result ExpenseMonth Fault → Type 0
MonthAnswered bs (Ok month) = IsMonth month.expense.0 (vec_items month.participants) bs
MonthAnswered bs (Err f) = AgainstLayout bs f ⊎ (f ≡ no_memory)

-- the same of the participants' lines alone
abbrev pub UsesAnswered : List ℕ → Result (Vec MonthUse Global) Fault → Type 0
UsesAnswered bs (Ok us) = AreUses 1 (vec_items us) bs
UsesAnswered bs (Err f) = ((us : List MonthUse) × (WrongAmong us bs × (f ≡ layout_fault (length us + 2)))) ⊎ (f ≡ no_memory)
