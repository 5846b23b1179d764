-- What the rows of a bill are written as: each text at the right end of its columns, also where it is longer than these.
-- Where every text fits, as in each bill, this is the bill.
use Rattle.std.specs.Prelude.{ℕ, ◌+◌, List, [], ◌∷◌, ◌++◌, ℤ, pos, ◌+ℤ◌, codes}
use Rattle.std.specs.List.{enumerate_from, flat_map, zip}
use Rattle.measures.specs.declared.amounts.Cents.{Cents}
use Rattle.rules.specs.Sharing.{amounts, total}
use Rattle.text.specs.Fields.{dollars_text, number_text, right}
use Rattle.expense_text.specs.Bills.{bill_header}

-- an amount in dollars in 15 columns, and a line feed
abbrev pub laid_amount : ℤ → List ℕ
laid_amount amount = right 15 (dollars_text amount) ++ (10 ∷ [])

-- a line's number in 6 columns, and its amount
abbrev pub laid_charge : ℕ → ℤ → List ℕ
laid_charge line amount = right 6 (number_text (pos line)) ++ laid_amount amount

-- a participant's row in a line, after its number in 4 columns
abbrev pub laid_row : ℕ → ℕ → ℤ → List ℕ
laid_row n line amount = right 4 (number_text (pos n)) ++ laid_charge line amount

-- a participant's two rows
abbrev pub laid_two_rows : ℕ → ℤ → ℤ → List ℕ
laid_two_rows n x y = laid_row n 21 x ++ laid_row n 22 y

-- those of all participants, numbered from 1
abbrev pub laid_rows : List Cents → List Cents → List ℕ
laid_rows xs ys = flat_map (λ p. laid_two_rows (p.0 + 1) p.1.0.0 p.1.1.0) (enumerate_from 0 (zip xs ys))

-- the sum of a line, and the sum of both
abbrev pub laid_line_sum : ℕ → ℤ → List ℕ
laid_line_sum line amount = codes "SUM " ++ laid_charge line amount

abbrev pub laid_whole_sum : ℤ → List ℕ
laid_whole_sum amount = codes "SUM       " ++ laid_amount amount

-- the sums of both lines, each and together
abbrev pub laid_sums : ℤ → ℤ → List ℕ
laid_sums a b = laid_line_sum 21 a ++ (laid_line_sum 22 b ++ laid_whole_sum (a +ℤ b))

-- the whole bill: header, participants, sums of what the participants' rows show
abbrev pub laid_bill : List Cents → List Cents → List ℕ
laid_bill xs ys = bill_header ++ (laid_rows xs ys ++ laid_sums (total (amounts xs)) (total (amounts ys)))
