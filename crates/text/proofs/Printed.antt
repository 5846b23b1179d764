-- An amount's text, put together from its pieces.
use Rattle.std.proofs.Common.{◌≡◌, ℕ, ◌+◌, ◌/◌, ◌%◌, List, [], ◌∷◌, ◌++◌, ℤ, pos, negsuc, decimal, nat_abs, ap, ◌∙◌, arith, append_assoc, ◌≤ℤ◌, ◌<ℤ◌}
use Rattle.std.proofs.lemmas.Fmt.{decimal_digit}
use Rattle.std.proofs.lemmas.Int.{ints}
use Rattle.text.specs.Fields.{dollars_text, whole_and_cents}

-- the whole dollars, a point, and a digit each for ten cents and a cent
pub pieces : (before : List ℕ) (n : ℕ) → (((before ++ decimal (n / 100)) ++ (46 ∷ [])) ++ decimal (n / 10 % 10)) ++ decimal (n % 10) ≡ before ++ whole_and_cents n
pieces before n =
    let ten : decimal (n / 10 % 10) ≡ (48 + n / 10 % 10) ∷ [] = decimal_digit (n / 10 % 10) (omega arith) in
    let one : decimal (n % 10) ≡ (48 + n % 10) ∷ [] = decimal_digit (n % 10) (omega arith) in
    rw (ten, one) (simp append_assoc)

-- an amount's text is its pieces, after a minus sign where it is negative
pub negative : (z : ℤ) (n : ℕ) (text : List ℕ) → z <ℤ pos 0 → n ≡ nat_abs z → text ≡ ((((45 ∷ []) ++ decimal (n / 100)) ++ (46 ∷ [])) ++ decimal (n / 10 % 10)) ++ decimal (n % 10) → text ≡ dollars_text z
negative (pos m) n text h e same = absurd (omega (arith, ints))
negative (negsuc m) n text h e same = same ∙ pieces (45 ∷ []) n ∙ ap (λ (k : ℕ). 45 ∷ whole_and_cents k) e

pub positive : (z : ℤ) (n : ℕ) (text : List ℕ) → pos 0 ≤ℤ z → n ≡ nat_abs z → text ≡ ((([] ++ decimal (n / 100)) ++ (46 ∷ [])) ++ decimal (n / 10 % 10)) ++ decimal (n % 10) → text ≡ dollars_text z
positive (pos m) n text h e same = same ∙ pieces [] n ∙ ap whole_and_cents e
positive (negsuc m) n text h e same = absurd (omega (arith, ints))
