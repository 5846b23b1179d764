-- The rule of the largest remainder is fair.
use Rattle.std.specs.Prelude.{◌≡◌, ℕ, zero, suc, ◌+◌, ◌*◌, ◌<◌, ◌≤◌, true, ltb, List, length, take, ℤ, sum_by, sum, nat_lt, slice_index, unsigned_abs, refl}
use Rattle.std.proofs.Math.Logic.{⊎_elim}
use Rattle.std.proofs.Common.{sym, subst, ◌∙◌, mul-le-mul_left, one-mul, zero-mul, add-one}
use Rattle.std.proofs.Math.Path.{ap}
use Rattle.std.proofs.Math.Nat.{div-add-mod', mod-lt, add-mul, le_of_mul-le-mul_right}
use native.Mathlib.Omega.{arith}
use Rattle.std.specs.List.{range_with_len}
use Rattle.std.proofs.lemmas.List.{take_all}
use Rattle.std.proofs.lemmas.List.Sums.{sum-map, sum_by_more, get_or-le-sum_by}
use Rattle.std.proofs.lemmas.Bool.{cases_lt}
use Rattle.std.proofs.lemmas.Bool.Decides.{nat_tests}
use Rattle.rules.specs.Sharing.{sizes, shareable, Fair, ahead, rank, whole_part, remainder, remainders, left_over, largest_part, largest_remainder}
use Rattle.rules.specs.Ranks.{upto, upto_is, upto_more, upto_grows, upto_le, upto_same, upto_add, upto_mul, mark, marks_le, ranked, below_is}
use Rattle.rules.specs.Shareable.{shareable_facts}
use Rattle.rules.specs.Shares.{fair_by_place}

weights_upto : (ws : List ℕ) (n : ℕ) → n ≤ length ws → upto (λ i. slice_index ws i) n ≡ sum (take n ws)
weights_upto ws zero h = refl
weights_upto ws (suc n) h =
    let more = sum_by_more (λ x. x) ws n 0 (omega arith) in
    let before = weights_upto ws n (omega arith) in
    let P : ℕ → Type 0 = λ m. upto (λ i. slice_index ws i) n + slice_index ws n ≡ sum (take m ws) in
    let at : P (n + 1) = omega arith in
    subst P (add-one n) at

weights_all : (ws : List ℕ) → upto (λ i. slice_index ws i) (length ws) ≡ sum ws
weights_all ws = weights_upto ws (length ws) (omega arith) ∙ ap sum (take_all (length ws) ws (omega arith))

module _ (t : ℕ) (ws : List ℕ) (p : 0 < sum ws) where
  wholes : ℕ
  wholes = upto (whole_part t ws) (length ws)

  rests : ℕ
  rests = upto (remainder t ws) (length ws)

  some_left : ℕ
  some_left = upto (λ i. mark (nat_lt 0 (remainder t ws i))) (length ws)

  -- whole parts and remainders make up the pool
  made_up : wholes * sum ws + rests ≡ t * sum ws
  unfolding wholes rests
  made_up =
      let n = length ws in
      let parts = upto_same (λ i. whole_part t ws i * sum ws + remainder t ws i) (λ i. slice_index ws i * t) n (λ i h. omega (arith, div-add-mod' (t * slice_index ws i) (sum ws))) in
      let apart = upto_add (λ i. whole_part t ws i * sum ws) (remainder t ws) n in
      let scaled = upto_mul (whole_part t ws) (sum ws) n in
      let pooled = upto_mul (λ i. slice_index ws i) t n in
      let e = ap (λ (m : ℕ). m * t) (weights_all ws) in
      omega arith

  wholes_le : wholes ≤ t
  wholes_le = le_of_mul-le-mul_right {m = wholes} {n = t} {k = sum ws} (omega (arith, made_up)) p

  left_is : left_over t ws + wholes ≡ t
  unfolding wholes
  left_is = omega (arith, upto_is (whole_part t ws) (length ws), wholes_le)

  -- there are at least as many places with a remainder as cents left
  left_few : left_over t ws ≤ some_left
  unfolding rests some_left
  left_few =
      let n = length ws in
      let each = upto_le (remainder t ws) (λ i. mark (nat_lt 0 (remainder t ws i)) * sum ws) n (λ i h. let l = mod-lt (t * slice_index ws i) p in small (remainder t ws i) (sum ws) (omega arith)) in
      let scaled = upto_mul (λ i. mark (nat_lt 0 (remainder t ws i))) (sum ws) n in
      let e = add-mul (left_over t ws) wholes (sum ws) in
      let s = ap (λ (m : ℕ). m * sum ws) left_is in
      le_of_mul-le-mul_right {m = left_over t ws} {n = some_left} {k = sum ws} (omega (arith, made_up)) p
    where
      small : (r w : ℕ) → r ≤ w → r ≤ mark (nat_lt 0 r) * w
      small zero w h = omega arith
      small (suc r) w h = let e : mark (nat_lt 0 (suc r)) ≡ 1 = grind (arith, nat_tests) in rw (e, one-mul) h

  rank_is : (i : ℕ) → rank (remainder t ws) (length ws) i ≡ ranked (remainder t ws) (length ws) i
  rank_is i = upto_is (λ j. mark (ahead (remainder t ws) i j)) (length ws)

  abbrev extra : ℕ → ℕ
  extra i = mark (nat_lt (rank (remainder t ws) (length ws) i) (left_over t ws))

  pub largest_adds : sum_by (largest_part t ws) (range_with_len 0 (length ws)) ≡ t
  unfolding wholes some_left
  largest_adds =
      let n = length ws in
      let all = upto_is (largest_part t ws) n in
      let apart = upto_add (whole_part t ws) extra n in
      let same = upto_same extra (λ i. mark (nat_lt (ranked (remainder t ws) n i) (left_over t ws))) n (λ i h. ap (λ (m : ℕ). mark (nat_lt m (left_over t ws))) (rank_is i)) in
      let few = marks_le (λ i. ltb 0 (remainder t ws i)) n in
      let given = below_is (remainder t ws) n (left_over t ws) (omega (arith, left_few)) in
      omega (arith, left_is)

  -- a place that is given a cent more has a remainder
  extra_small : (i : ℕ) → extra i ≤ remainder t ws i
  unfolding some_left
  extra_small i =
      ⊎_elim
      (λ (l : 0 < remainder t ws i). let b : extra i ≤ 1 = grind arith in omega arith)
      (λ (l : remainder t ws i ≤ 0).
      let after = upto_le (λ j. mark (nat_lt 0 (remainder t ws j))) (λ j. mark (ahead (remainder t ws) i j)) (length ws) (λ j h. grind (arith, nat_tests)) in
      let none : extra i ≡ 0 = grind (arith, nat_tests, rank_is i, left_few) in
      omega arith)
      (cases_lt 0 (remainder t ws i))

  pub largest_near : (i : ℕ) → i < length ws → (largest_part t ws i * sum ws < t * slice_index ws i + sum ws) × (t * slice_index ws i < largest_part t ws i * sum ws + sum ws)
  largest_near i h =
      let d = div-add-mod' (t * slice_index ws i) (sum ws) in
      let l = mod-lt (t * slice_index ws i) p in
      let m = add-mul (whole_part t ws i) (extra i) (sum ws) in
      let s = extra_small i in
      let scaled : extra i * sum ws < remainder t ws i + sum ws = product (extra i) (remainder t ws i) (sum ws) (grind arith) s p in
      (omega arith, omega arith)
    where
      product : (e r w : ℕ) → e ≤ 1 → e ≤ r → 0 < w → e * w < r + w
      product zero r w a b c = rw zero-mul (omega arith)
      product (suc zero) r w a b c = rw one-mul (omega arith)
      product (suc (suc e)) r w a b c = absurd (omega arith)

-- the remainders make up the cents left over
pub remainders_are : (t : ℕ) (ws : List ℕ) → 0 < sum ws → sum (remainders t ws) ≡ left_over t ws * sum ws
unfolding wholes rests
remainders_are t ws p =
    let all = sum-map (remainder t ws) (range_with_len 0 (length ws)) in
    let same = upto_is (remainder t ws) (length ws) in
    let apart = add-mul (left_over t ws) (wholes t ws p) (sum ws) in
    let pool = ap (λ (m : ℕ). m * sum ws) (left_is t ws p) in
    omega (arith, made_up t ws p)

-- the whole parts of the first places, with one more, stay within the pool
pub wholes_fit : (t : ℕ) (ws : List ℕ) → 0 < sum ws → (i : ℕ) → i < length ws → upto (whole_part t ws) i + whole_part t ws i ≤ t
unfolding wholes
wholes_fit t ws p i h = omega (arith, upto_more (whole_part t ws) i, upto_grows (whole_part t ws) (i + 1) (length ws) (omega arith), wholes_le t ws p)

-- the pool times one weight is at most the pool times all
pub product_fits : (t : ℕ) (ws : List ℕ) (i : ℕ) → i < length ws → t * slice_index ws i ≤ t * sum ws
product_fits t ws i h = mul-le-mul_left t (get_or-le-sum_by (λ x. x) ws i 0 h)

-- the rank among the first places of a list that has the remainders there
pub rank_agrees : (t : ℕ) (ws rests : List ℕ) (n i : ℕ) → i < n → ((k : ℕ) → k < n → slice_index rests k ≡ remainder t ws k) → rank (λ j. slice_index rests j) n i ≡ rank (remainder t ws) n i
rank_agrees t ws rests n i h same =
    upto_is (λ j. mark (ahead (λ j. slice_index rests j) i j)) n
    ∙ upto_same (λ j. mark (ahead (λ j. slice_index rests j) i j)) (λ j. mark (ahead (remainder t ws) i j)) n (λ j l. let a = same i h in let b = same j l in rw (a, b) refl)
    ∙ sym (upto_is (λ j. mark (ahead (remainder t ws) i j)) n)

pub largest_fair : (pool : ℤ) (ws : List ℤ) → shareable pool ws (length ws) ≡ true → Fair pool ws (largest_remainder pool ws)
largest_fair pool ws ok =
    let f = shareable_facts pool ws (length ws) ok in
    fair_by_place largest_part pool ws f.none_negative (largest_adds (unsigned_abs pool) (sizes ws) f.positive) (largest_near (unsigned_abs pool) (sizes ws) f.positive)
