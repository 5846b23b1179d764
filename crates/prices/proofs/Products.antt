-- How large a sum is with one weighted component more.
use Rattle.std.specs.Prelude.{◌≡◌, ℕ, ◌+◌, ◌*◌, ◌^◌, ◌<◌, ◌≤◌, ℤ, ◌+ℤ◌, ◌*ℤ◌, FitsSigned, unsigned_abs}
use Rattle.std.proofs.Common.{mul-add, mul-le-mul, mul-le-mul_right, arith, lit<, to_z, of_z}
use Rattle.std.specs.Int.{w64}
use Rattle.std.proofs.lemmas.Int.{fits_signed_from_abs, fits_signed_mul, to_z-of_z, unsigned_abs-mul}
use Rattle.prices.specs.Summed.{abs_add}

-- by at most 100,000 times 1,000
sum_bound : (s x w : ℤ) → unsigned_abs x ≤ 100000 → unsigned_abs w ≤ 1000 → unsigned_abs (s +ℤ (x *ℤ w)) ≤ unsigned_abs s + 100000000
sum_bound s x w h k =
    let p = mul-le-mul h k in
    let e = unsigned_abs-mul x w in
    let a = abs_add s (x *ℤ w) in
    omega arith

pub product_fits : (x w : ℤ) → unsigned_abs x ≤ 100000 → unsigned_abs w ≤ 1000 → FitsSigned w64 (x *ℤ w)
product_fits x w h k = fits_signed_mul w64 x w 100000 1000 h k (lit< tt)

pub sum_fits : (s x w : ℤ) → unsigned_abs x ≤ 100000 → unsigned_abs w ≤ 1000 → unsigned_abs s ≤ 800000000 → FitsSigned w64 (s +ℤ (x *ℤ w))
sum_fits s x w h k l = fits_signed_from_abs w64 _ (let bound = sum_bound s x w h k in let size : unsigned_abs (s +ℤ (x *ℤ w)) < 2 ^ 63 = omega arith in size)

-- a small number is itself after its bits and back
pub small_through : (z : ℤ) → unsigned_abs z ≤ 800000000 → to_z w64 (of_z w64 z) ≡ z
small_through z h = to_z-of_z w64 z (fits_signed_from_abs w64 z (omega arith))

-- a sum that the weights bound stays so with one weighted component more
pub sum_within : (s x w : ℤ) (n : ℕ) → unsigned_abs s ≤ 100000 * n → unsigned_abs x ≤ 100000 → unsigned_abs (s +ℤ (x *ℤ w)) ≤ 100000 * (n + unsigned_abs w)
sum_within s x w n hs hx =
    let product = mul-le-mul_right (unsigned_abs w) hx in
    let size = unsigned_abs-mul x w in
    let total = abs_add s (x *ℤ w) in
    let apart = mul-add 100000 n (unsigned_abs w) in
    omega arith
