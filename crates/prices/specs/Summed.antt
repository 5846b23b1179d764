-- How large the sums over a group's members, and their means, can be.
use Rattle.std.specs.Prelude.{◌≡◌, ℕ, ◌+◌, ◌*◌, ◌/◌, ◌<◌, ◌≤◌, true, List, [], ◌∷◌, length, ℤ, pos, negsuc, ◌+ℤ◌, ◌*ℤ◌, neg_ℤ, Some, None, Option, nat_le, unsigned_abs, refl}
use Rattle.std.proofs.Common.{div-lt_iff_lt-mul, mul-add, mul-le-mul_right, arith}
use borrow.Author.Differences.{abs_is, neg_is}
use Rattle.std.proofs.lemmas.Int.{ints, unsigned_abs-mul}
use Rattle.std.proofs.lemmas.Bool.{and_parts, leb-true}
use Rattle.measures.specs.Signs.{signed}
use Rattle.prices.specs.Means.{component, nearest_mean, weighted_sum}
use Rattle.prices.specs.Members.{total_weight, weight_in_range, weights_in_range}
use Rattle.prices.specs.Quotes.{Quote}
use Rattle.prices.specs.declared.member.Member.{Member}
use Rattle.prices.specs.declared.price.Market.{Market}
use Rattle.prices.specs.declared.price.Price.{Price}

-- the size of a sum is at most the sum of the sizes
pub abs_add : (a b : ℤ) → unsigned_abs (a +ℤ b) ≤ unsigned_abs a + unsigned_abs b
abs_add a b = omega (arith, ints)

-- a weight from 1 to 1,000
pub weight_bounds : (x : Member) → weight_in_range x ≡ true → (1 ≤ unsigned_abs x.weight) × (unsigned_abs x.weight ≤ 1000)
weight_bounds x h = at x.weight h
  where
    at : (w : ℤ) → weight_in_range (record { code = x.code; weight = w }) ≡ true → (1 ≤ unsigned_abs w) × (unsigned_abs w ≤ 1000)
    at (pos n) k = let p = and_parts (nat_le 1 n) (nat_le n 1000) k in (leb-true 1 n p.0, leb-true n 1000 p.1)
    at (negsuc n) k = let z : ◌≡◌ {A = ℕ} 0 1 = cc in absurd (omega arith)

-- the sum of weights is positive
pub total_positive : (xs : List Member) → 1 ≤ length xs → weights_in_range xs ≡ true → 0 < total_weight xs
total_positive [] h k = absurd (omega arith)
total_positive (x ∷ xs) h k = let b = weight_bounds x (and_parts (weight_in_range x) (weights_in_range xs) k).0 in omega arith

-- a component of a price, or 0, is in range
component_bound : (part : Price → ℤ) → ((p : Price) → unsigned_abs (part p) ≤ 100000) → (o : Option Price) → unsigned_abs (component part o) ≤ 100000
component_bound part b (Some p) = b p
component_bound part b None = omega arith

-- the weighted sum is at most 100,000 times the sum of the weights
pub weighted_bound : (part : Price → ℤ) → ((p : Price) → unsigned_abs (part p) ≤ 100000) → (q : Quote) (m : Market) (xs : List Member) → unsigned_abs (weighted_sum part q m xs) ≤ 100000 * total_weight xs
weighted_bound part b q m [] = omega arith
weighted_bound part b q m (x ∷ xs) =
    let c = component part (q x.code m) in
    let rest = weighted_bound part b q m xs in
    let a = abs_add (c *ℤ x.weight) (weighted_sum part q m xs) in
    let e = unsigned_abs-mul c x.weight in
    let p = mul-le-mul_right (unsigned_abs x.weight) (component_bound part b (q x.code m)) in
    let d = mul-add 100000 (unsigned_abs x.weight) (total_weight xs) in
    omega arith

abs_signed : (x : ℤ) (n : ℕ) → unsigned_abs (signed x n) ≡ n
abs_signed (pos x) n = refl
abs_signed (negsuc x) n = omega (arith, abs_is (neg_ℤ (pos n)), neg_is (pos n))

-- the nearest mean of what is at most 100,000 times the weights is in range
pub nearest_bound : (x : ℤ) (w : ℕ) → 0 < w → unsigned_abs x ≤ 100000 * w → unsigned_abs (nearest_mean x w) ≤ 100000
nearest_bound x w h k =
    let low : (2 * unsigned_abs x + w) / (2 * w) < 100001 = (div-lt_iff_lt-mul {k = 2 * w} {x = 2 * unsigned_abs x + w} {y = 100001} (omega arith)).1 (omega arith) in
    let e = abs_signed x ((2 * unsigned_abs x + w) / (2 * w)) in
    omega arith
