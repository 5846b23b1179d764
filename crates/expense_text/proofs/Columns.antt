-- Columns side by side: 44 columns are five numbers exactly where each part is a field of its own number.
use Rattle.std.proofs.Common.{◌≡◌, ℕ, suc, ◌+◌, ◌-◌, ◌^◌, ◌<◌, ◌≤◌, false, List, [], ◌∷◌, ◌++◌, length, get_or, take, drop, replicate, ℤ, pos, negsuc, nat_abs, Some, None, Option, sym, ap, ◌∙◌, subst, ap₂, append-nil, arith, w64, to_z, of_z, MatchOption}
use Rattle.std.proofs.lemmas.List.{length-append, length-drop, length-replicate, length-take, drop_all, drop_at, drop-drop, take_all, take-append-drop, take_at}
use lib.Signed.{mag}
use Rattle.std.proofs.lemmas.Int.{to_z-of_z}
use Rattle.std.proofs.lemmas.Bool.{both_ways}
use Rattle.measures.specs.declared.amounts.Kilowatts.{Kilowatts}
use Rattle.measures.specs.declared.amounts.MegawattHours.{MegawattHours}
use Rattle.text.specs.Fields.{Field, number_text, right}
use Rattle.text.proofs.Readings.{field_only}
use Rattle.text.proofs.Sizes.{field_small}
use Rattle.lines.specs.Figures.{figures_fit}
use Rattle.lines.specs.declared.month_use.MonthUse.{MonthUse}
use Rattle.expense_text.specs.Months.{AreColumns, IsExpense, IsUse, use_columns}

-- right-justified text fills its columns at least
right_least : (w : ℕ) (t : List ℕ) → w ≤ length (right w t)
right_least w t = omega (arith, length-append (replicate (w - length t) 32) t, length-replicate {A = ℕ} (w - length t) 32)

right_more : (w n : ℕ) (t more : List ℕ) → n ≤ length more → w + n ≤ length (right w t ++ more)
right_more w n t more h = omega (arith, right_least w t, length-append (right w t) more)

-- the first number taken off its columns, where what follows has columns enough
record Peeled (w : ℕ) (z : ℤ) (rest more : List ℕ) : Type 0 where
  here : Field (take w rest) z
  next : drop w rest ≡ more

peel : (w n : ℕ) (z : ℤ) (rest more : List ℕ) → w ≤ 18 → rest ≡ right w (number_text z) ++ more → length rest ≡ w + n → n ≤ length more → Peeled w z rest more
peel w n z rest more small e l h =
    let t = right w (number_text z) in
    let s : length rest ≡ length t + length more = ap length e ∙ length-append t more in
    let m : w ≤ length t = right_least w (number_text z) in
    let wide : length t ≡ w = omega arith in
    let front : take w rest ≡ t = ap (take w) e ∙ take_at t more w wide in
    let size : length (take w rest) ≡ w = ap length front ∙ wide in
    record { here = record { columns = omega arith; printed = front ∙ ap (λ (k : ℕ). right k (number_text z)) (sym size) }; next = ap (drop w) e ∙ drop_at t more w wide }

-- and put on again
put_on : (w : ℕ) (z : ℤ) (rest more : List ℕ) → w ≤ length rest → Field (take w rest) z → drop w rest ≡ more → rest ≡ right w (number_text z) ++ more
put_on w z rest more h f e =
    let size : length (take w rest) ≡ w = length-take w rest ∙ omega arith in
    sym (take-append-drop w rest) ∙ ap₂ (λ (u v : List ℕ). u ++ v) (f.printed ∙ ap (λ (k : ℕ). right k (number_text z)) size) e

-- one number alone
alone : (w : ℕ) (z : ℤ) (rest : List ℕ) → w ≤ 18 → length rest ≡ w → rest ≡ right w (number_text z) → Field rest z
alone w z rest small l e = record { columns = omega arith; printed = e ∙ ap (λ (k : ℕ). right k (number_text z)) (sym l) }

-- each of the five numbers in its own columns
pub record Five (columns : List ℕ) (p a b c d : ℤ) : Type 0 where
  pub first : Field (take 4 columns) p
  pub second : Field (take 10 (drop 4 columns)) a
  pub third : Field (take 10 (drop 14 columns)) b
  pub fourth : Field (take 10 (drop 24 columns)) c
  pub fifth : Field (take 10 (drop 34 columns)) d

abbrev side_by_side : ℤ → ℤ → ℤ → ℤ → ℤ → List ℕ
side_by_side p a b c d =
    right 4 (number_text p) ++ (right 10 (number_text a) ++ (right 10 (number_text b) ++ (right 10 (number_text c) ++ right 10 (number_text d))))

apart : (columns : List ℕ) (p a b c d : ℤ) → length columns ≡ 44 → columns ≡ side_by_side p a b c d → Five columns p a b c d
apart columns p a b c d l e =
    let at-d = right 10 (number_text d) in
    let at_c = right 10 (number_text c) ++ at-d in
    let at_b = right 10 (number_text b) ++ at_c in
    let at_a = right 10 (number_text a) ++ at_b in
    let d-least : 10 ≤ length at-d = right_least 10 (number_text d) in
    let c-least : 20 ≤ length at_c = right_more 10 10 (number_text c) at-d d-least in
    let b-least : 30 ≤ length at_b = right_more 10 20 (number_text b) at_c c-least in
    let a-least : 40 ≤ length at_a = right_more 10 30 (number_text a) at_b b-least in
    let one = peel 4 40 p columns at_a (omega arith) e (omega arith) a-least in
    let two = peel 10 30 a (drop 4 columns) at_b (omega arith) one.next (omega (arith, length-drop 4 columns)) b-least in
    let three = peel 10 20 b (drop 14 columns) at_c (omega arith) (sym (drop-drop 10 4 columns) ∙ two.next) (omega (arith, length-drop 14 columns)) c-least in
    let four = peel 10 10 c (drop 24 columns) at-d (omega arith) (sym (drop-drop 10 14 columns) ∙ three.next) (omega (arith, length-drop 24 columns)) d-least in
    let five = peel 10 0 d (drop 34 columns) [] (omega arith) (sym (drop-drop 10 24 columns) ∙ four.next ∙ sym (append-nil at-d)) (omega (arith, length-drop 34 columns)) (omega arith) in
    record { first = one.here; second = two.here; third = three.here; fourth = four.here; fifth = five.here }

together : (columns : List ℕ) (p a b c d : ℤ) → length columns ≡ 44 → Five columns p a b c d → columns ≡ side_by_side p a b c d
together columns p a b c d l f =
    let none : drop 10 (drop 34 columns) ≡ [] = drop-drop 10 34 columns ∙ drop_all 44 columns (omega arith) in
    let at-d : drop 34 columns ≡ right 10 (number_text d) = put_on 10 d (drop 34 columns) [] (omega (arith, length-drop 34 columns)) f.fifth none ∙ append-nil (right 10 (number_text d)) in
    let at_c = put_on 10 c (drop 24 columns) _ (omega (arith, length-drop 24 columns)) f.fourth (drop-drop 10 24 columns ∙ at-d) in
    let at_b = put_on 10 b (drop 14 columns) _ (omega (arith, length-drop 14 columns)) f.third (drop-drop 10 14 columns ∙ at_c) in
    let at_a = put_on 10 a (drop 4 columns) _ (omega (arith, length-drop 4 columns)) f.second (drop-drop 10 4 columns ∙ at_b) in
    put_on 4 p columns _ (omega arith) f.first at_a

-- the columns of a participant's use are its number and its four figures, each in its own
pub use_apart : (columns : List ℕ) (participant : ℕ) (u : MonthUse) → AreColumns columns participant u → Five columns (pos participant) u.load.0 u.generation.0 u.peak_load.0 u.peak_generation.0
use_apart columns participant u h = apart columns (pos participant) u.load.0 u.generation.0 u.peak_load.0 u.peak_generation.0 h.0 h.1

pub use_together : (columns : List ℕ) (participant : ℕ) (u : MonthUse) → length columns ≡ 44 → Five columns (pos participant) u.load.0 u.generation.0 u.peak_load.0 u.peak_generation.0 → AreColumns columns participant u
use_together columns participant u l f = (l, together columns (pos participant) u.load.0 u.generation.0 u.peak_load.0 u.peak_generation.0 l f)

-- a field's number is as it was after it went through a word of 64 bits
pub in_word : (bs : List ℕ) (z : ℤ) → Field bs z → to_z w64 (of_z w64 z) ≡ z
in_word bs z f = let s = field_small bs z f in to_z-of_z w64 z (record { sfits = small z s })
  where
    small : (y : ℤ) → nat_abs y < 10 ^ 18 → mag y < 2 ^ 63
    small (pos n) h = omega arith
    small (negsuc n) h = omega arith

pub word_held : (bs : List ℕ) (z : ℤ) → Field bs z → Field bs (to_z w64 (of_z w64 z))
word_held bs z f = subst (λ (y : ℤ). Field bs y) (sym (in_word bs z f)) f

-- what is made of the five numbers read
pub use_read : (r : Option MonthUse) (columns : List ℕ) (participant : ℕ) (a b : MegawattHours) (c d : Kilowatts) → length columns ≡ 44 → Five columns (pos participant) a.0 b.0 c.0 d.0 → MatchOption r (figures_fit a.0 b.0 c.0 d.0 ≡ false) (λ u. (u.load ≡ a) × (u.generation ≡ b) × (u.peak_load ≡ c) × (u.peak_generation ≡ d)) → MatchOption r ((u : MonthUse) → AreColumns columns participant u → ⊥) (λ u. AreColumns columns participant u)
use_read None columns participant a b c d l f not = λ u h.
    let g = use_apart columns participant u h in
    let ea : a.0 ≡ u.load.0 = field_only _ _ _ f.second g.second in
    let eb : b.0 ≡ u.generation.0 = field_only _ _ _ f.third g.third in
    let ec : c.0 ≡ u.peak_load.0 = field_only _ _ _ f.fourth g.fourth in
    let ed : d.0 ≡ u.peak_generation.0 = field_only _ _ _ f.fifth g.fifth in
    let e : figures_fit u.load.0 u.generation.0 u.peak_load.0 u.peak_generation.0 ≡ false = rw (← ea, ← eb, ← ec, ← ed) not in
    both_ways _ e u.figures_ok
use_read (Some u) columns participant a b c d l f h =
    use_together columns participant u l (rw (h.0, h.1, h.2, h.3) f)

-- a line by its two letters and its columns
abbrev columns_of : List ℕ → List ℕ
columns_of line = take (length line - 2) (drop 2 line)

lettered : (a b : ℕ) (line : List ℕ) → 2 ≤ length line → get_or line 0 0 ≡ a → get_or line 1 0 ≡ b → line ≡ a ∷ (b ∷ columns_of line)
lettered a b [] h p q = absurd (omega arith)
lettered a b (x ∷ []) h p q = absurd (omega arith)
lettered a b (x ∷ (y ∷ zs)) h p q =
    ap₂ (λ (u : ℕ) (v : List ℕ). u ∷ v) p (ap₂ (λ (u : ℕ) (v : List ℕ). u ∷ v) q (sym (take_all (suc (suc (length zs)) - 2) zs (omega arith))))

after_letters : (a b : ℕ) (line columns : List ℕ) → line ≡ a ∷ (b ∷ columns) → columns_of line ≡ columns
after_letters a b line columns e = ap columns_of e ∙ take_all (suc (suc (length columns)) - 2) columns (omega arith)

-- an expense's line is EX and a field of twelve columns
pub expense_apart : (line : List ℕ) (e : ℤ) → IsExpense line e → Field (columns_of line) e
expense_apart line e h =
    let same = after_letters 69 88 line (right 12 (number_text e)) h.1 in
    let l : length line ≡ suc (suc (length (right 12 (number_text e)))) = ap length h.1 in
    let n = ap length same in
    alone 12 e (columns_of line) (omega arith) (omega arith) same

pub expense_together : (line : List ℕ) (e : ℤ) → 2 ≤ length line → get_or line 0 0 ≡ 69 → get_or line 1 0 ≡ 88 → length (columns_of line) ≡ 12 → Field (columns_of line) e → IsExpense line e
expense_together line e h p q n f =
    let whole = lettered 69 88 line h p q in
    let l : length line ≡ suc (suc (length (columns_of line))) = ap length whole in
    (omega arith, whole ∙ ap (λ (bs : List ℕ). 69 ∷ (88 ∷ bs)) (f.printed ∙ ap (λ (k : ℕ). right k (number_text e)) n))

-- a participant's line is PA and its columns
pub use_line_read : (r : Option MonthUse) (line : List ℕ) (participant : ℕ) → 2 ≤ length line → get_or line 0 0 ≡ 80 → get_or line 1 0 ≡ 65 → MatchOption r ((u : MonthUse) → AreColumns (columns_of line) participant u → ⊥) (λ u. AreColumns (columns_of line) participant u) → MatchOption r ((u : MonthUse) → IsUse line participant u → ⊥) (λ u. IsUse line participant u)
use_line_read None line participant h p q not = λ u is.
    let same = after_letters 80 65 line (use_columns participant u) is.1 in
    let l : length line ≡ suc (suc (length (use_columns participant u))) = ap length is.1 in
    let n = ap length same in
    not u (omega arith, same)
use_line_read (Some u) line participant h p q is =
    let whole = lettered 80 65 line h p q in
    let l : length line ≡ suc (suc (length (columns_of line))) = ap length whole in
    let n = is.0 in
    (omega arith, whole ∙ ap (λ (bs : List ℕ). 80 ∷ (65 ∷ bs)) is.1)
