-- Worked examples of rounding, sharing and weighted means.
use Rattle.std.specs.Prelude.{◌≡◌, [], ◌∷◌, ℤ, pos, negsuc, Some}
use Rattle.measures.specs.declared.code.LocationCode.{LocationCode}
use Rattle.rules.specs.Rounding.{half_away, half_even, toward_zero}
use Rattle.rules.specs.Sharing.{largest_remainder, running}
use Rattle.prices.specs.Means.{congestion_of, weighted_mean}
use Rattle.prices.specs.Quotes.{Quote}
use Rattle.prices.specs.declared.member.Member.{Member}
use Rattle.prices.specs.declared.price.Market.{Market}
use Rattle.prices.specs.declared.price.Price.{Price}

-- 2,500 thousandths round to 3, 2, 2 by the three rules in order, and -500 to -1, 0, 0
abbrev pub RoundingExamples : Type 0
RoundingExamples =
    (half_away (pos 2500) ≡ pos 3) × (half_even (pos 2500) ≡ pos 2) × (toward_zero (pos 2500) ≡ pos 2)
    × (half_away (negsuc 499) ≡ negsuc 0) × (half_even (negsuc 499) ≡ pos 0) × (toward_zero (negsuc 499) ≡ pos 0)

-- 100 over 1, 1, 1 is 34, 33, 33 or, running, 33, 33, 34; 1 over 0, 5, 5 is 0, 1, 0 or, running, 0, 0, 1
abbrev pub SharingExamples : Type 0
SharingExamples =
    (largest_remainder (pos 100) (pos 1 ∷ pos 1 ∷ pos 1 ∷ []) ≡ pos 34 ∷ pos 33 ∷ pos 33 ∷ [])
    × (running (pos 100) (pos 1 ∷ pos 1 ∷ pos 1 ∷ []) ≡ pos 33 ∷ pos 33 ∷ pos 34 ∷ [])
    × (largest_remainder (pos 1) (pos 0 ∷ pos 5 ∷ pos 5 ∷ []) ≡ pos 0 ∷ pos 1 ∷ pos 0 ∷ [])
    × (running (pos 1) (pos 0 ∷ pos 5 ∷ pos 5 ∷ []) ≡ pos 0 ∷ pos 0 ∷ pos 1 ∷ [])

-- a member of a group
abbrev pub member : LocationCode → ℤ → Member
member c w = record { code = c; weight = w }

-- over any source: where a has congestion 100 and b 205, their mean is 153 and, with weights 3 and 1, 126
abbrev pub MeanExamples : Type 0
MeanExamples =
    (below : Quote) (m : Market) (a b : LocationCode) (p q : Price) → below a m ≡ Some p → below b m ≡ Some q → congestion_of p ≡ pos 100 → congestion_of q ≡ pos 205
    → (weighted_mean congestion_of below m (member a (pos 1) ∷ member b (pos 1) ∷ []) ≡ pos 153)
    × (weighted_mean congestion_of below m (member a (pos 3) ∷ member b (pos 1) ∷ []) ≡ pos 126)

-- all of them together
abbrev pub WorkedExamples : Type 0
WorkedExamples = RoundingExamples × SharingExamples × MeanExamples
