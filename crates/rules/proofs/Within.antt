-- Fair shares of a pool that is not below 0 lie between 0 and the pool.
use Rattle.std.proofs.Common.{◌≡◌, ℕ, ◌+◌, ◌*◌, ◌<◌, ◌≤◌, true, List, length, get_or, ℤ, pos, negsuc, ◌*ℤ◌, nat_abs, ◌≤ℤ◌, sum, subst, ⊎_elim, mul-le-mul_right, add-mul, mul-le-mul_left, arith}
use borrow.Author.Differences.{ints}
use Rattle.std.proofs.lemmas.List.Sums.{get_or-le-sum_by}
use Rattle.std.proofs.lemmas.Bool.{cases_lt}
use Rattle.rules.specs.Rounding.{Near}
use Rattle.rules.specs.Sharing.{Fair, Within, shareable, sizes}
use Rattle.rules.specs.Shareable.{shareable_facts}
use Rattle.rules.specs.Weights.{length_sizes, total_is, weight_is}

-- a share near t × v, of all weights w, is at most t
at_most : (n t v w : ℕ) → v ≤ w → Near w (pos n *ℤ pos w) (pos t *ℤ pos v) → n ≤ t
at_most n t v w h near =
    ⊎_elim
    (λ (over : t < n).
    let above : t + 1 ≤ n = omega (arith, over) in
    let more : (t + 1) * w ≤ n * w = mul-le-mul_right w above in
    let ahead = add-mul t 1 w in
    let below = mul-le-mul_left t h in
    absurd (omega (arith, ints)))
    (λ (k : n ≤ t). k)
    (cases_lt t n)

one_share : (share : ℤ) (t v w : ℕ) → v ≤ w → Near w (share *ℤ pos w) (pos t *ℤ pos v) → (pos 0 ≤ℤ share) × (share ≤ℤ pos t)
one_share (pos n) t v w h near = let k = at_most n t v w h near in (omega (arith, ints), omega (arith, ints))
one_share (negsuc n) t v w h near = let more = add-mul n 1 w in absurd (omega (arith, ints))

pub fair_within : (t : ℕ) (ws shares : List ℤ) → shareable (pos t) ws (length ws) ≡ true → Fair (pos t) ws shares → Within (pos t) shares
fair_within t ws shares can fair i h =
    let f = shareable_facts (pos t) ws (length ws) can in
    let k : i < length ws = omega (arith, fair.each) in
    let share = get_or shares i (pos 0) in
    let v = get_or (sizes ws) i 0 in
    let w = sum (sizes ws) in
    let near = fair.near i k in
    let all = subst (λ (z : ℤ). Near (nat_abs z) (share *ℤ z) (pos t *ℤ get_or ws i (pos 0))) (total_is ws f.none_negative) near in
    let own = subst (λ (z : ℤ). Near w (share *ℤ pos w) (pos t *ℤ z)) (weight_is ws f.none_negative i) all in
    one_share share t v w (get_or-le-sum_by (λ x. x) (sizes ws) i 0 (omega (arith, length_sizes ws))) own
