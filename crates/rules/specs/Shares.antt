-- From the sizes of shares to signed shares, and from sizes of weights to weights.
use Rattle.std.specs.Prelude.{◌≡◌, ℕ, zero, suc, ◌+◌, ◌*◌, ◌<◌, ◌≤◌, List, [], ◌∷◌, ◌++◌, map, length, take, ℤ, pos, negsuc, ◌+ℤ◌, ◌*ℤ◌, neg_ℤ, sum_by, sum, slice_index, slice_index_or, slice_set, unsigned_abs, is_none, true, refl}
use Rattle.std.proofs.Math.IntN.{neg_ℤ-+ℤ}
use Rattle.std.proofs.Common.{sym, ap, ◌∙◌, zero-mul, arith}
use Rattle.std.proofs.lemmas.Int.{ints}
use Rattle.std.specs.List.{range_with_len}
use Rattle.std.proofs.lemmas.List.FromFn.{length-map-range_with_len, get_or-map-range_with_len}
use Rattle.std.proofs.lemmas.List.{length-map, map-set, take_more, take_more_set, take_all}
use Rattle.std.proofs.lemmas.List.Sums.{sum_by-cons}
use Rattle.measures.specs.declared.amounts.Cents.{Cents}
use Rattle.measures.specs.Signs.{signed}
use Rattle.rules.specs.Rounding.{Near}
use Rattle.rules.specs.Sharing.{total, sizes, first_negative, amounts, Fair, by_place}
use Rattle.rules.specs.Weights.{length_sizes, total_is, weight_is}

signed_add : (x : ℤ) (a b : ℕ) → signed x a +ℤ signed x b ≡ signed x (a + b)
signed_add (pos m) a b = refl
signed_add (negsuc m) a b = sym (neg_ℤ-+ℤ (pos a) (pos b))

signed_zero : (x : ℤ) → pos 0 ≡ signed x 0
signed_zero (pos m) = refl
signed_zero (negsuc m) = refl

signed_size : (x : ℤ) → signed x (unsigned_abs x) ≡ x
signed_size (pos m) = refl
signed_size (negsuc m) = refl

pub total_signed : (x : ℤ) (f : ℕ → ℕ) (is : List ℕ) → total (map (λ i. signed x (f i)) is) ≡ signed x (sum_by f is)
total_signed x f [] = signed_zero x
total_signed x f (i ∷ is) =
    ap (λ z. signed x (f i) +ℤ z) (total_signed x f is) ∙ signed_add x (f i) (sum_by f is) ∙ ap (signed x) (sym (sum_by-cons f i is))

neg_mul : (p w : ℕ) → neg_ℤ (pos p) *ℤ pos w ≡ neg_ℤ (pos (p * w))
neg_mul zero w = ap (λ n. pos n) (zero-mul w) ∙ ap (λ n. neg_ℤ (pos n)) (sym (zero-mul w))
neg_mul (suc p) w = refl

near_pos : (d x y : ℕ) → x < y + d → y < x + d → Near d (pos x) (pos y)
near_pos d x y h k = omega (arith, ints)

near_neg : (d x y : ℕ) → x < y + d → y < x + d → Near d (neg_ℤ (pos x)) (neg_ℤ (pos y))
near_neg d x y h k = omega (arith, ints)

pub near_signed : (t : ℤ) (p w d : ℕ) → p * d < unsigned_abs t * w + d → unsigned_abs t * w < p * d + d → Near d (signed t p *ℤ pos d) (t *ℤ pos w)
near_signed (pos t) p w d h k = near_pos d (p * d) (t * w) h k
near_signed (negsuc t) p w d h k = rw neg_mul (near_neg d (p * d) (suc t * w) h k)

pub length_by_place : (part : ℕ → List ℕ → ℕ → ℕ) (pool : ℤ) (ws : List ℤ) → length (by_place part pool ws) ≡ length ws
length_by_place part pool ws = length-map-range_with_len (λ i. signed pool (part (unsigned_abs pool) (sizes ws) i)) 0 (length ws)

pub get_or_by_place : (part : ℕ → List ℕ → ℕ → ℕ) (pool : ℤ) (ws : List ℤ) (i : ℕ) → i < length ws → slice_index_or (by_place part pool ws) i (pos 0) ≡ signed pool (part (unsigned_abs pool) (sizes ws) i)
get_or_by_place part pool ws i h = get_or-map-range_with_len (λ i. signed pool (part (unsigned_abs pool) (sizes ws) i)) 0 (length ws) i i (pos 0) h (omega arith)

-- a rule by places is fair if its sizes are
pub fair_by_place : (part : ℕ → List ℕ → ℕ → ℕ) (pool : ℤ) (ws : List ℤ) → is_none (first_negative ws) ≡ true → sum_by (part (unsigned_abs pool) (sizes ws)) (range_with_len 0 (length (sizes ws))) ≡ unsigned_abs pool → ((i : ℕ) → i < length (sizes ws) → (part (unsigned_abs pool) (sizes ws) i * sum (sizes ws) < unsigned_abs pool * slice_index (sizes ws) i + sum (sizes ws)) × (unsigned_abs pool * slice_index (sizes ws) i < part (unsigned_abs pool) (sizes ws) i * sum (sizes ws) + sum (sizes ws))) → Fair pool ws (by_place part pool ws)
fair_by_place part pool ws none adds near =
    let ns = sizes ws in
    let size = unsigned_abs pool in
    let e = length_sizes ws in
    let sums : sum_by (part size ns) (range_with_len 0 (length ws)) ≡ size = ap (λ n. sum_by (part size ns) (range_with_len 0 n)) (sym e) ∙ adds in
    record {
      each = length_by_place part pool ws;
      adds = total_signed pool (part size ns) (range_with_len 0 (length ws)) ∙ ap (signed pool) sums ∙ signed_size pool;
      near =
          λ i h.
          let k : i < length ns = omega arith in
          rw (get_or_by_place part pool ws i h, total_is ws none, weight_is ws none i) (near_signed pool (part size ns i) (slice_index ns i) (sum ns) (near i k).0 (near i k).1);
    }

-- the step of a loop that writes the shares ys one after another
pub put_share : (out : List Cents) (i : ℕ) (v : Cents) (ys : List ℤ) → i < length out → i < length ys → take i (amounts out) ≡ take i ys → v.0 ≡ slice_index_or ys i (pos 0) → take (i + 1) (amounts (slice_set out i v)) ≡ take (i + 1) ys
put_share out i v ys h k e w =
    let f : Cents → ℤ = λ c. c.0 in
    let m : i < length (amounts out) = rw (length-map out f) h in
    ap (take (i + 1)) (map-set f out i v) ∙ take_more_set (amounts out) i v.0 m ∙ ap (λ xs. xs ++ v.0 ∷ []) e ∙ ap (λ z. take i ys ++ z ∷ []) w ∙ sym (take_more ys i (pos 0) k)

-- and its end
pub all_put : (out : List Cents) (i : ℕ) (ys : List ℤ) → length out ≤ i → length ys ≤ i → take i (amounts out) ≡ take i ys → amounts out ≡ ys
all_put out i ys h k e =
    let f : Cents → ℤ = λ c. c.0 in
    let m : length (amounts out) ≤ i = rw (length-map out f) h in
    sym (take_all i (amounts out) m) ∙ e ∙ take_all i ys k
