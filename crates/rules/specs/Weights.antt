-- Weights and their sizes: where no weight is below 0, each is its size.
use Rattle.std.specs.Prelude.{◌≡◌, ℕ, zero, suc, ◌+◌, ◌<◌, ◌≤◌, true, List, [], ◌∷◌, map, length, take, ℤ, pos, negsuc, ◌+ℤ◌, sum, is_none, slice_index, slice_index_or, unsigned_abs, refl}
use Rattle.std.specs.Int.{is_negative}
use Rattle.std.specs.List.{position_or_len}
use Rattle.std.proofs.Common.{sym, ap, ◌∙◌, arith}
use Rattle.std.proofs.lemmas.List.{length-map, take_all}
use Rattle.std.proofs.lemmas.List.Sums.{sum_by-cons, sum_by_more}
use Rattle.std.proofs.lemmas.Bool.Decides.{nat_tests}
use Rattle.rules.specs.Sharing.{total, sizes, first_negative}

pub length_sizes : (ws : List ℤ) → length (sizes ws) ≡ length ws
length_sizes ws = length-map ws unsigned_abs

pub get_or_sizes : (ws : List ℤ) (i : ℕ) → slice_index (sizes ws) i ≡ unsigned_abs (slice_index_or ws i (pos 0))
get_or_sizes [] i = refl
get_or_sizes (w ∷ ws) zero = refl
get_or_sizes (w ∷ ws) (suc i) = get_or_sizes ws i

-- one weight more, and all of them
pub sizes_more : (ws : List ℤ) (i : ℕ) → i < length ws → sum (take (i + 1) (sizes ws)) ≡ sum (take i (sizes ws)) + unsigned_abs (slice_index_or ws i (pos 0))
sizes_more ws i h =
    let k : i < length (sizes ws) = omega (arith, length_sizes ws) in
    omega (arith, sum_by_more (λ x. x) (sizes ws) i 0 k, get_or_sizes ws i)

pub sizes_all : (ws : List ℤ) (i : ℕ) → length ws ≤ i → sum (take i (sizes ws)) ≡ sum (sizes ws)
sizes_all ws i h = ap sum (take_all i (sizes ws) (omega (arith, length_sizes ws)))

-- where no weight is below 0, none comes before the end of the list
passed : (ws : List ℤ) → is_none (first_negative ws) ≡ true → length ws ≤ position_or_len is_negative ws
passed ws h = grind (arith, nat_tests)

total_of : (ws : List ℤ) → length ws ≤ position_or_len is_negative ws → total ws ≡ pos (sum (sizes ws))
total_of [] h = refl
total_of (pos w ∷ ws) h =
    let rest : length ws ≤ position_or_len is_negative ws = grind (arith, nat_tests) in
    ap (λ z. pos w +ℤ z) (total_of ws rest) ∙ ap (λ m. pos m) (sym (sum_by-cons (λ x. x) w (sizes ws)))
total_of (negsuc w ∷ ws) h = absurd (omega arith)

weight_of : (ws : List ℤ) → length ws ≤ position_or_len is_negative ws → (i : ℕ) → slice_index_or ws i (pos 0) ≡ pos (slice_index (sizes ws) i)
weight_of [] h i = refl
weight_of (pos w ∷ ws) h zero = refl
weight_of (pos w ∷ ws) h (suc i) =
    let rest : length ws ≤ position_or_len is_negative ws = grind (arith, nat_tests) in
    weight_of ws rest i
weight_of (negsuc w ∷ ws) h i = absurd (omega arith)

pub total_is : (ws : List ℤ) → is_none (first_negative ws) ≡ true → total ws ≡ pos (sum (sizes ws))
total_is ws h = total_of ws (passed ws h)

pub weight_is : (ws : List ℤ) → is_none (first_negative ws) ≡ true → (i : ℕ) → slice_index_or ws i (pos 0) ≡ pos (slice_index (sizes ws) i)
weight_is ws h = weight_of ws (passed ws h)

-- sizes taken as weights are not below 0
passed_all : (ns : List ℕ) → length ns ≤ position_or_len is_negative (map pos ns)
passed_all [] = omega arith
passed_all (n ∷ ns) =
    let rest = passed_all ns in
    grind (arith, nat_tests)

pub none_below : (ns : List ℕ) → is_none (first_negative (map pos ns)) ≡ true
none_below ns =
    let all = passed_all ns in
    let many : length (map pos ns) ≡ length ns = length-map ns pos in
    grind (arith, nat_tests)
