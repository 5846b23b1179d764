-- Sharing rules: a list of shares for each pool of cents and list of weights.
use Rattle.std.specs.Prelude.{◌≡◌, ℕ, ◌+◌, ◌-◌, ◌*◌, ◌/◌, ◌%◌, ◌<◌, Bool, true, false, cond, ◌&&◌, ◌||◌, List, [], ◌∷◌, map, length, take, ℤ, pos, ◌+ℤ◌, ◌*ℤ◌, ◌≤ℤ◌, Ok, Err, sum_by, sum, count_by, Result, Option, None, is_none, option_map, ◌==◌, nat_le, nat_lt, slice_index, slice_index_or, unsigned_abs}
use Rattle.std.specs.Int.{is_negative}
use Rattle.std.specs.List.{enumerate_from, position, range_with_len}
use Rattle.measures.specs.Faults.{fault}
use Rattle.measures.specs.declared.amounts.Cents.{Cents}
use Rattle.measures.specs.declared.fault.Cause.TheVariants.{SharingLimits}
use Rattle.measures.specs.declared.fault.Fault.{Fault}
use Rattle.measures.specs.declared.fault.Layer.TheVariants.{Share}
use Rattle.measures.specs.Signs.{signed}
use Rattle.rules.specs.Rounding.{Near}

-- the sum of signed numbers
abbrev pub total : List ℤ → ℤ
total [] = pos 0
total (x ∷ xs) = x +ℤ total xs

-- the numbers of cents in a list of amounts
abbrev pub amounts : List Cents → List ℤ
amounts = map (λ c. c.0)

-- the weights as numbers without a sign
abbrev pub sizes : List ℤ → List ℕ
sizes = map unsigned_abs

-- the place, counted from 1, of the first weight below 0
abbrev pub first_negative : List ℤ → Option ℕ
first_negative ws = option_map (λ i. i + 1) (position is_negative ws)

-- 1 to 64 weights, and as many places to write to
abbrev pub counted : List ℤ → ℕ → Bool
counted ws places = places == length ws && (nat_le 1 places && nat_le places 64)

-- a pool can be shared: 1 to 64 weights, none below 0, their sum 1 to 2,000,000,000, size of the pool times their sum at most 9 × 10^18
abbrev pub shareable : ℤ → List ℤ → ℕ → Bool
shareable pool ws places =
    counted ws places && (is_none (first_negative ws) && (nat_le 1 (sum (sizes ws)) && (nat_le (sum (sizes ws)) 2000000000 && nat_le (unsigned_abs pool * sum (sizes ws)) 9000000000000000000)))

-- the refusal where it cannot: where the count is right, its place is the first weight below 0
abbrev pub sharing_fault : List ℤ → ℕ → Fault
sharing_fault ws places = fault SharingLimits Share (cond (counted ws places) (first_negative ws) None)

-- as many shares as weights; they add up to the pool; each share times all weights lies less than all weights from the pool times its weight
pub record Fair (pool : ℤ) (weights shares : List ℤ) : Type 0 where
  pub each : length shares ≡ length weights
  pub adds : total shares ≡ pool
  pub near : (i : ℕ) → i < length weights → Near (unsigned_abs (total weights)) (slice_index_or shares i (pos 0) *ℤ total weights) (pool *ℤ slice_index_or weights i (pos 0))

-- nobody is charged less than 0 or more than the pool
abbrev pub Within : ℤ → List ℤ → Type 0
Within pool shares = (i : ℕ) → i < length shares → (pos 0 ≤ℤ slice_index_or shares i (pos 0)) × (slice_index_or shares i (pos 0) ≤ℤ pool)

-- what asking a rule answers, and what the list handed over then holds
abbrev pub Shared : (ℤ → List ℤ → List ℤ) → ℤ → List ℤ → List Cents → List Cents → Result Unit Fault → Type 0
Shared rule pool ws before after (Ok _) = (shareable pool ws (length before) ≡ true) × (amounts after ≡ rule pool ws)
Shared rule pool ws before after (Err f) = (shareable pool ws (length before) ≡ false) × (f ≡ sharing_fault ws (length before)) × (after ≡ before)

-- what checking a pool and weights answers: the sum of the weights, or the refusal
abbrev pub Checked : ℤ → List ℤ → ℕ → Result ℕ Fault → Type 0
Checked pool ws places (Ok w) = (shareable pool ws places ≡ true) × (w ≡ sum (sizes ws))
Checked pool ws places (Err f) = (shareable pool ws places ≡ false) × (f ≡ sharing_fault ws places)

-- one share for each place, of the size that the rule gives there, with the sign of the pool
abbrev pub by_place : (ℕ → List ℕ → ℕ → ℕ) → ℤ → List ℤ → List ℤ
by_place part pool ws = map (λ i. signed pool (part (unsigned_abs pool) (sizes ws) i)) (range_with_len 0 (length ws))

-- the whole part of what falls to the first i weights
abbrev pub reached : ℕ → List ℕ → ℕ → ℕ
reached t ws i = t * sum (take i ws) / sum ws

-- running: what the weights up to this place have reached, less what those before it had
abbrev pub running_part : ℕ → List ℕ → ℕ → ℕ
running_part t ws i = reached t ws (i + 1) - reached t ws i

abbrev pub running : ℤ → List ℤ → List ℤ
running = by_place running_part

-- the whole part of what falls to place i, and the remainder there
abbrev pub whole_part : ℕ → List ℕ → ℕ → ℕ
whole_part t ws i = t * slice_index ws i / sum ws

abbrev pub remainder : ℕ → List ℕ → ℕ → ℕ
remainder t ws i = t * slice_index ws i % sum ws

-- the remainders of all places
abbrev pub remainders : ℕ → List ℕ → List ℕ
remainders t ws = map (remainder t ws) (range_with_len 0 (length ws))

-- the cents that the whole parts leave
abbrev pub left_over : ℕ → List ℕ → ℕ
left_over t ws = t - sum_by (whole_part t ws) (range_with_len 0 (length ws))

-- place j goes before place i: it has more, or as much and is the lower place
abbrev pub ahead : (ℕ → ℕ) → ℕ → ℕ → Bool
ahead f i j = nat_lt (f i) (f j) || (f i == f j && nat_lt j i)

-- how many of the first n places go before place i
abbrev pub rank : (ℕ → ℕ) → ℕ → ℕ → ℕ
rank f n i = count_by (ahead f i) (range_with_len 0 n)

-- the rank of place i in a list of remainders
abbrev pub rank_in : List ℕ → ℕ → ℕ
rank_in rests i = count_by (λ p. nat_lt (slice_index rests i) p.1 || (slice_index rests i == p.1 && nat_lt p.0 i)) (enumerate_from 0 rests)

-- largest remainder: the whole part, and one more where fewer places go before it than cents are left
abbrev pub largest_part : ℕ → List ℕ → ℕ → ℕ
largest_part t ws i = whole_part t ws i + cond (nat_lt (rank (remainder t ws) (length ws) i) (left_over t ws)) 1 0

abbrev pub largest_remainder : ℤ → List ℤ → List ℤ
largest_remainder = by_place largest_part
