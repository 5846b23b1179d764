-- What the amounts are held against: the same values without any rounding.
use Rattle.std.specs.Prelude.{ℕ, ◌*◌, cond, ℤ, pos, ◌+ℤ◌, ◌*ℤ◌, neg_ℤ}
use Rattle.prices.specs.Quotes.{Quote}
use Rattle.prices.specs.declared.price.Market.{Market}
use Rattle.prices.specs.declared.price.Market.TheVariants.{DayAhead, RealTime}
use Rattle.rules.specs.Rounding.{Near}
use Rattle.obligations.specs.Sums.{sum_over}
use Rattle.obligations.specs.Positions.{Postings, records_alone}
use Rattle.obligations.specs.Terms.{energy, congestion, loss}
use Rattle.obligations.specs.Charges.{participants, unrounded, weight, total_weight, anybody_weighs}

-- thousandths of a cent as a fraction
pub record Fraction : Type 0 where
  pub numerator : ℤ
  pub denominator : ℕ

-- an amount of cents lies less than so many cents from the fraction: both are multiplied by the denominator
abbrev pub WithinCents : ℕ → ℤ → Fraction → Type 0
WithinCents n cents f = Near (1000 * (f.denominator * n)) (pos 1000 *ℤ (pos f.denominator *ℤ cents)) f.numerator

-- a participant's six component charges before rounding
abbrev pub unrounded_charges : Postings → Quote → ℤ → ℤ
unrounded_charges b q p =
    unrounded b q DayAhead energy p +ℤ unrounded b q DayAhead congestion p +ℤ unrounded b q DayAhead loss p +ℤ
    unrounded b q RealTime energy p +ℤ unrounded b q RealTime congestion p +ℤ unrounded b q RealTime loss p

-- the pool of line 7 or 8 before rounding
abbrev pub unrounded_pool : Postings → Quote → ℕ → Market → ℤ
unrounded_pool b q P m = neg_ℤ (sum_over (λ p. unrounded b q m energy p +ℤ unrounded b q m loss p) (participants P))

-- the exact bill: the six charges, and where anybody has weight both pools times weight over total weight
abbrev pub exact_bill : Postings → Quote → ℕ → ℤ → Fraction
exact_bill b q P p =
    cond (anybody_weighs b P)
    (record {
      numerator = pos (total_weight b P) *ℤ unrounded_charges b q p +ℤ (unrounded_pool b q P DayAhead +ℤ unrounded_pool b q P RealTime) *ℤ pos (weight b p);
      denominator = total_weight b P;
    })
    (record { numerator = unrounded_charges b q p; denominator = 1 })

-- the congestion value of the records alone: everybody's congestion charges before rounding, as if there were no bilaterals
abbrev pub congestion_value : Postings → Quote → ℕ → ℤ
congestion_value b q P = sum_over (λ p. unrounded (records_alone b) q DayAhead congestion p +ℤ unrounded (records_alone b) q RealTime congestion p) (participants P)

-- the same as a fraction
abbrev pub whole : ℤ → Fraction
whole z = record { numerator = z; denominator = 1 }
