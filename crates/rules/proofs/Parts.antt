-- What a pool's whole parts, remainders and ranks come to.
use Rattle.std.proofs.Common.{◌≡◌, ℕ, zero, suc, ◌+◌, ◌*◌, ◌<◌, ◌≤◌, cond, List, map, length, get_or, take, ℤ, pos, nat_abs, sum, sym, ap, refl, ◌∙◌, mul-le-mul_right, mul-div_cancel, ◌/◌, arith}
use Rattle.std.specs.Prelude.{Bool, ◌==◌, ◌||◌, ◌&&◌, nat_lt, count_by, slice_index}
use Rattle.std.specs.List.{enumerate_from, range_with_len}
use Rattle.std.proofs.lemmas.List.Sums.{sum_by-cons, get_or-le-sum_by, sum_by_more_le}
use Rattle.std.proofs.lemmas.List.FromFn.{get_or-map-range_with_len}
use Rattle.rules.specs.Sharing.{sizes, whole_part, remainder, remainders, left_over, rank, rank_in, largest_part}
use Rattle.rules.specs.LargestParts.{remainders_are}
use Rattle.rules.specs.Weights.{length_sizes, get_or_sizes}

-- one weight is at most all of them
pub weight_fits : (ws : List ℤ) (i : ℕ) → i < length ws → nat_abs (get_or ws i (pos 0)) ≤ sum (sizes ws)
weight_fits ws i h =
    let one = get_or-le-sum_by (λ x. x) (sizes ws) i 0 (omega (arith, length_sizes ws)) in
    omega (arith, get_or_sizes ws i)

-- nor do the weights up to a place and the one there
pub so_far_fits : (ws : List ℤ) (i : ℕ) → i < length ws → sum (take i (sizes ws)) + nat_abs (get_or ws i (pos 0)) ≤ sum (sizes ws)
so_far_fits ws i h =
    let some = sum_by_more_le (λ x. x) (sizes ws) i 0 (omega (arith, length_sizes ws)) in
    omega (arith, get_or_sizes ws i)

-- a count of the numbered values of a function is a count of the places
count_places : (q : ℕ → ℕ → Bool) (f : ℕ → ℕ) (k n : ℕ) → count_by (λ p. q p.0 p.1) (enumerate_from k (map f (range_with_len k n))) ≡ count_by (λ j. q j (f j)) (range_with_len k n)
count_places q f k zero = refl
count_places q f k (suc n) =
    sum_by-cons (λ (p : ℕ × ℕ). cond (q p.0 p.1) 1 0) (k, f k) (enumerate_from (k + 1) (map f (range_with_len (k + 1) n)))
    ∙ ap (λ m. cond (q k (f k)) 1 0 + m) (count_places q f (k + 1) n)
    ∙ sym (sum_by-cons (λ j. cond (q j (f j)) 1 0) k (range_with_len (k + 1) n))

pub rank_agrees : (t : ℕ) (ws : List ℕ) (i : ℕ) → i < length ws → rank_in (remainders t ws) i ≡ rank (remainder t ws) (length ws) i
rank_agrees t ws i h =
    let own : slice_index (remainders t ws) i ≡ remainder t ws i = get_or-map-range_with_len (remainder t ws) 0 (length ws) i i 0 h (omega arith) in
    rw own (count_places (λ j r. nat_lt (remainder t ws i) r || (remainder t ws i == r && nat_lt j i)) (remainder t ws) 0 (length ws))

-- the part of a place, from its rank in the list of remainders
pub part_agrees : (t : ℕ) (ws rests : List ℕ) (left i : ℕ) → i < length ws → rests ≡ remainders t ws → left ≡ left_over t ws → whole_part t ws i + cond (nat_lt (rank_in rests i) left) 1 0 ≡ largest_part t ws i
part_agrees t ws rests left i h r l =
    let ranks : rank_in rests i ≡ rank (remainder t ws) (length ws) i = ap (λ (xs : List ℕ). rank_in xs i) r ∙ rank_agrees t ws i h in
    simp (ranks, l)

-- the remainders fit beside each other, and come to the cents left over
pub remainders_fit : (t : ℕ) (ws : List ℕ) → 0 < sum ws → (sum (remainders t ws) ≤ t * sum ws) × (sum (remainders t ws) / sum ws ≡ left_over t ws)
remainders_fit t ws p =
    let e = remainders_are t ws p in
    let few : left_over t ws ≤ t = omega arith in
    (omega (arith, mul-le-mul_right (sum ws) few), ap (λ m. m / sum ws) e ∙ mul-div_cancel (left_over t ws) p)
