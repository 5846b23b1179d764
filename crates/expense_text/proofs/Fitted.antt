-- Where every text fits its columns, what is written is the bill.
use Rattle.std.proofs.Common.{◌≡◌, ℕ, suc, ◌+◌, ◌<◌, ◌≤◌, List, [], ◌∷◌, ◌++◌, length, ℤ, pos, ◌+ℤ◌, codes, sym, refl, subst, ap, ap₂, ◌∙◌, add-one, append_assoc, arith}
use Rattle.std.specs.List.{AllByRecursion, enumerate_from, flat_map, zip}
use Rattle.std.proofs.lemmas.List.{length-map}
use Rattle.measures.specs.declared.amounts.Cents.{Cents}
use Rattle.rules.specs.Sharing.{amounts, total}
use Rattle.lines.specs.Expense.{ExpenseShared, peak_pool, volume_pool}
use Rattle.text.specs.Fields.{dollars_text, number_text}
use Rattle.expense_text.specs.Bills.{AllShown, amount_columns, bill_header, bill_text, charge_columns, participant_rows, sum_rows, two_rows}
use Rattle.expense_text.specs.Layouts.{laid_amount, laid_bill, laid_charge, laid_row, laid_sums, laid_two_rows}
use Rattle.expense_text.specs.Refusals.{field}
use Rattle.expense_text.proofs.Refused.{number_shown, shown}

abbrev Shown : ℤ → Type 0
Shown z = length (dollars_text z) ≤ 15

amount : (z : ℤ) → Shown z → laid_amount z ≡ amount_columns z
amount z h = ap (λ (bs : List ℕ). bs ++ (10 ∷ [])) (shown 15 (dollars_text z) h)

charge : (n : ℕ) (z : ℤ) → n < 1000000 → Shown z → laid_charge n z ≡ charge_columns (pos n) z
charge n z low h = ap₂ (λ (xs ys : List ℕ). xs ++ ys) (number_shown 6 n (omega arith) (omega arith) (omega arith)) (amount z h)

row : (n line : ℕ) (z : ℤ) → n < 10000 → line < 1000000 → Shown z → laid_row n line z ≡ field 4 (number_text (pos n)) ++ charge_columns (pos line) z
row n line z few low h = ap₂ (λ (xs ys : List ℕ). xs ++ ys) (number_shown 4 n (omega arith) (omega arith) (omega arith)) (charge line z low h)

rows_of_one : (n : ℕ) (x y : ℤ) → n < 10000 → Shown x → Shown y → laid_two_rows n x y ≡ two_rows n x y
rows_of_one n x y few h k =
    ap₂ (λ (xs ys : List ℕ). xs ++ ys) (row n 21 x few (omega arith) h) (row n 22 y few (omega arith) k)
    ∙ append_assoc (field 4 (number_text (pos n))) (charge_columns (pos 21) x) (field 4 (number_text (pos n)) ++ charge_columns (pos 22) y)

-- the test of each amount, one after another
each : (xs : List Cents) → AllShown xs → AllByRecursion (λ c. Shown c.0) xs
each [] h = tt
each (x ∷ xs) h = (h 0 (omega arith), each xs (λ i l. h (suc i) (omega arith)))

rows : (k : ℕ) (xs ys : List Cents) → k + length xs ≤ 64 → AllByRecursion (λ c. Shown c.0) xs → AllByRecursion (λ c. Shown c.0) ys →
    flat_map (λ p. laid_two_rows (p.0 + 1) p.1.0.0 p.1.1.0) (enumerate_from k (zip xs ys)) ≡ participant_rows (k + 1) xs ys
rows k [] ys few a b = refl
rows k (x ∷ xs) [] few a b = refl
rows k (x ∷ xs) (y ∷ ys) few a b =
    ap₂ (λ (bs cs : List ℕ). bs ++ cs) (rows_of_one (k + 1) x.0 y.0 (omega arith) a.0 b.0)
    (rows (k + 1) xs ys (omega arith) a.1 b.1 ∙ ap (λ (n : ℕ). participant_rows n xs ys) (add-one (k + 1)))

sums : (a b : ℤ) → Shown a → Shown b → Shown (a +ℤ b) → laid_sums a b ≡ sum_rows a b
sums a b h k l =
    ap₂ (λ (xs ys : List ℕ). xs ++ ys) (ap (λ (xs : List ℕ). codes "SUM " ++ xs) (charge 21 a (omega arith) h))
    (ap₂ (λ (xs ys : List ℕ). xs ++ ys) (ap (λ (xs : List ℕ). codes "SUM " ++ xs) (charge 22 b (omega arith) k)) (ap (λ (xs : List ℕ). codes "SUM       " ++ xs) (amount (a +ℤ b) l)))
    ∙ simp append_assoc refl

pub fitted : (xs ys : List Cents) → length xs ≤ 64 → AllShown xs → AllShown ys → Shown (total (amounts xs)) → Shown (total (amounts ys)) → Shown (total (amounts xs) +ℤ total (amounts ys)) → laid_bill xs ys ≡ bill_text xs ys
fitted xs ys few h k a b c =
    ap₂ (λ (bs cs : List ℕ). bill_header ++ (bs ++ cs)) (rows 0 xs ys (omega arith) (each xs h) (each ys k)) (sums (total (amounts xs)) (total (amounts ys)) a b c)

-- the same of the shares of an expense, which add up to its pools
pub fitted_shares : (rule : ℤ → List ℤ → List ℤ) (e : ℤ) (volumes peaks : List ℤ) (xs ys : List Cents) → length volumes ≤ 64 → ExpenseShared rule e volumes peaks (amounts xs) (amounts ys) → AllShown xs → AllShown ys →
    Shown (volume_pool e) × Shown (peak_pool e) × Shown e → laid_bill xs ys ≡ bill_text xs ys
fitted_shares rule e volumes peaks xs ys few s h k sums =
    let many = s.volume_fair.each in
    let each = length-map xs (λ (c : Cents). c.0) in
    fitted xs ys (omega arith) h k
    (subst Shown (sym s.volume_fair.adds) sums.0)
    (subst Shown (sym s.peak_fair.adds) sums.1)
    (subst Shown (sym s.every_cent) sums.2)
