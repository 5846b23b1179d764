-- The participants' rows of a bill, as a loop writes them.
use Rattle.std.proofs.Common.{◌≡◌, ℕ, ◌+◌, List, [], ◌∷◌, ◌++◌, map, Bor, sym, ap, ◌∙◌, append_assoc}
use Rattle.std.proofs.lemmas.List.{flat_map_more}
use Rattle.std.proofs.lemmas.List.Folds.{flat_map-map}
use Rattle.std.specs.List.{enumerate_from, flat_map, zip}
use Rattle.measures.specs.declared.amounts.Cents.{Cents}
use Rattle.expense_text.specs.Layouts.{laid_row, laid_rows, laid_two_rows}

-- a participant's place, counted from 0, and its two amounts
abbrev pub Charged : Type 0
Charged = ℕ × (Bor Cents × Bor Cents)

abbrev pub rows_of : List Charged → List ℕ
rows_of = flat_map (λ p. laid_two_rows (p.0 + 1) p.1.0.now.0 p.1.1.now.0)

-- one participant more
pub one_more : (start page between after : List ℕ) (ps : List Charged) (p : Charged) → page ≡ start ++ rows_of ps → between ≡ page ++ laid_row (p.0 + 1) 21 p.1.0.now.0 → after ≡ between ++ laid_row (p.0 + 1) 22 p.1.1.now.0 → after ≡ start ++ rows_of (ps ++ (p ∷ []))
one_more start page between after ps p so_far first second =
    let row = laid_row (p.0 + 1) 22 p.1.1.now.0 in
    second
    ∙ ap (λ (bs : List ℕ). bs ++ row) (first ∙ ap (λ (bs : List ℕ). bs ++ laid_row (p.0 + 1) 21 p.1.0.now.0) so_far)
    ∙ append_assoc (start ++ rows_of ps) (laid_row (p.0 + 1) 21 p.1.0.now.0) row
    ∙ flat_map_more (λ (q : Charged). laid_two_rows (q.0 + 1) q.1.0.now.0 q.1.1.now.0) start ps p

-- after the last one
pub all_rows : (start : List ℕ) (ps : List Charged) (xs ys : List Cents) → map (λ p. (p.0, (p.1.0.now, p.1.1.now))) ps ≡ enumerate_from 0 (zip xs ys) → start ++ rows_of ps ≡ start ++ laid_rows xs ys
all_rows start ps xs ys e =
    ap (λ (bs : List ℕ). start ++ bs)
    (sym (flat_map-map (λ (q : ℕ × (Cents × Cents)). laid_two_rows (q.0 + 1) q.1.0.0 q.1.1.0) (λ (p : Charged). (p.0, (p.1.0.now, p.1.1.now))) ps) ∙ ap (flat_map (λ (q : ℕ × (Cents × Cents)). laid_two_rows (q.0 + 1) q.1.0.0 q.1.1.0)) e)
