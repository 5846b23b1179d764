-- Members of a group: their weights, and why they are refused.
use Rattle.std.specs.Prelude.{ℕ, ◌+◌, Bool, not, ◌&&◌, List, [], ◌∷◌, length, pos, Option, int_le, nat_le, option_map, position, unsigned_abs}
use Rattle.std.specs.List.{list_all}
use Rattle.measures.specs.declared.fault.Cause.TheVariants.{GroupOutOfRange}
use Rattle.measures.specs.declared.fault.Fault.{Fault}
use Rattle.prices.specs.Refusals.{first_of, unless, where_at}
use Rattle.prices.specs.declared.member.Member.{Member}

-- from 1 to 1,000
abbrev pub weight_in_range : Member → Bool
weight_in_range x = int_le (pos 1) x.weight && int_le x.weight (pos 1000)

-- each weight is in range
abbrev pub weights_in_range : List Member → Bool
weights_in_range = list_all weight_in_range

-- the sum of the weights, which are positive
abbrev pub total_weight : List Member → ℕ
total_weight [] = 0
total_weight (x ∷ xs) = unsigned_abs x.weight + total_weight xs

-- the place, from 1, of the first member that fails the test
abbrev pub first_failing : (Member → Bool) → List Member → Option ℕ
first_failing test xs = option_map (λ i. i + 1) (position (λ x. not (test x)) xs)

-- one to eight members
abbrev pub count_in_range : ℕ → Bool
count_in_range n = nat_le 1 n && nat_le n 8

-- what may refuse members, in this order
abbrev pub members_refusals : List Member → List (Option Fault)
members_refusals xs = unless (count_in_range (length xs)) GroupOutOfRange ∷ where_at (first_failing weight_in_range xs) GroupOutOfRange ∷ []

-- why these are no members of a group, the first cause that applies
abbrev pub members_refusal : List Member → Option Fault
members_refusal xs = first_of (members_refusals xs)
