-- How large a number can be that so many columns hold.
use Rattle.std.proofs.Common.{◌≡◌, ℕ, zero, suc, ◌+◌, ◌-◌, ◌*◌, ◌/◌, ◌%◌, ◌^◌, ◌<◌, ◌≤◌, Bool, true, false, cond, eqb, List, [], ◌∷◌, length, replicate, ℤ, pos, negsuc, nat_abs, decimal, refl, ap, subst, pow-suc, arith}
use native.Mathlib.Nat.{pow-le-pow_right}
use Rattle.std.specs.Fmt.{digits, digits_onto, digit_glyph}
use Rattle.std.proofs.lemmas.Fmt.{length-decimal-le}
use Rattle.std.proofs.lemmas.List.{length-append}
use Rattle.std.proofs.lemmas.Bool.{eqb-true}
use Rattle.text.specs.Fields.{Field, dollars_text, number_text, right, whole_and_cents}

spelled_longer : (f n : ℕ) (acc : List ℕ) → length acc ≤ length (digits_onto f 10 false n acc)
spelled_longer zero n acc = omega arith
spelled_longer (suc f) n acc = go (eqb (n / 10) 0) (spelled_longer f (n / 10) (digit_glyph false (n % 10) ∷ acc))
  where
    go : (t : Bool) → suc (length acc) ≤ length (digits_onto f 10 false (n / 10) (digit_glyph false (n % 10) ∷ acc)) → length acc ≤ length (cond t (digit_glyph false (n % 10) ∷ acc) (digits_onto f 10 false (n / 10) (digit_glyph false (n % 10) ∷ acc)))
    go true h = omega arith
    go false h = omega arith

spelled_size : (f n k : ℕ) (acc : List ℕ) → length (digits_onto f 10 false n acc) ≡ k + length acc → k < f → n < 10 ^ k
spelled_size zero n k acc e h = absurd (omega arith)
spelled_size (suc f) n k acc e h = go (eqb (n / 10) 0) refl e (spelled_longer f (n / 10) (digit_glyph false (n % 10) ∷ acc)) (λ j d l. spelled_size f (n / 10) j (digit_glyph false (n % 10) ∷ acc) d l)
  where
    go : (t : Bool) → eqb (n / 10) 0 ≡ t → length (cond t (digit_glyph false (n % 10) ∷ acc) (digits_onto f 10 false (n / 10) (digit_glyph false (n % 10) ∷ acc))) ≡ k + length acc → suc (length acc) ≤ length (digits_onto f 10 false (n / 10) (digit_glyph false (n % 10) ∷ acc)) → ((j : ℕ) → length (digits_onto f 10 false (n / 10) (digit_glyph false (n % 10) ∷ acc)) ≡ j + suc (length acc) → j < f → n / 10 < 10 ^ j) → n < 10 ^ k
    go true u d l rec =
        let one : 1 ≡ k = omega arith in
        let small : n < 10 = omega (arith, eqb-true (n / 10) 0 u) in
        subst (λ (j : ℕ). n < 10 ^ j) one small
    go false u d l rec =
        let r : n / 10 < 10 ^ (k - 1) = rec (k - 1) (omega arith) (omega arith) in
        let p : 10 ^ suc (k - 1) ≡ 10 ^ (k - 1) * 10 = pow-suc 10 (k - 1) in
        let q : 10 ^ suc (k - 1) ≡ 10 ^ k = ap (λ (j : ℕ). 10 ^ j) (omega arith) in
        omega arith

-- a number of at most k digits is below 10 ^ k
pub decimal_size : (n k : ℕ) → length (decimal n) ≤ k → k < 64 → n < 10 ^ k
unfolding digits
decimal_size n k h l =
    let s : n < 10 ^ length (decimal n) = spelled_size 64 n (length (decimal n)) [] (omega arith) (omega arith) in
    let p : 10 ^ length (decimal n) ≤ 10 ^ k = pow-le-pow_right {n = 10} (omega arith) h in
    omega arith

number_size : (z : ℤ) (k : ℕ) → length (number_text z) ≤ k → k < 64 → nat_abs z < 10 ^ k
number_size (pos n) k h l = decimal_size n k h l
number_size (negsuc n) k h l = decimal_size (suc n) k (omega arith) l

-- the text of a field's number is no longer than the field
pub field_fits : (bs : List ℕ) (z : ℤ) → Field bs z → length (number_text z) ≤ length bs
field_fits bs z f =
    let t = number_text z in
    let e : length bs ≡ length (right (length bs) t) = ap length f.printed in
    let l : length (right (length bs) t) ≡ length (replicate {A = ℕ} (length bs - length t) 32) + length t = length-append (replicate (length bs - length t) 32) t in
    omega arith

-- a field of w columns holds a number of size below 10 ^ w
pub field_size : (bs : List ℕ) (z : ℤ) → Field bs z → nat_abs z < 10 ^ length bs
field_size bs z f = let c = f.columns in number_size z (length bs) (field_fits bs z f) (omega arith)

-- and so below 10 ^ 18
pub field_small : (bs : List ℕ) (z : ℤ) → Field bs z → nat_abs z < 10 ^ 18
field_small bs z f =
    let s = field_size bs z f in
    let p : 10 ^ length bs ≤ 10 ^ 18 = pow-le-pow_right {n = 10} (omega arith) f.columns in
    omega arith

whole_size : (n k : ℕ) → 0 < k → n < 10 ^ k * 100 → n < 2 ^ 64 → length (whole_and_cents n) ≤ k + 3
whole_size n k h l m =
    let d = length-decimal-le k (n / 100) h (omega arith) (omega arith) in
    omega (arith, length-append (decimal (n / 100)) (46 ∷ (48 + n / 10 % 10) ∷ (48 + n % 10) ∷ []))

-- an amount below 10 ^ k dollars takes at most k + 4 columns
pub dollars_size : (z : ℤ) (k : ℕ) → 0 < k → nat_abs z < 10 ^ k * 100 → nat_abs z < 2 ^ 64 → length (dollars_text z) ≤ k + 4
dollars_size (pos n) k h l m = omega (arith, whole_size n k h l m)
dollars_size (negsuc n) k h l m = omega (arith, whole_size (suc n) k h l m)
