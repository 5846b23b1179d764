-- The eight charge lines of a participant, and the congestion fund.
use Rattle.std.specs.Prelude.{ℕ, zero, suc, ◌-◌, Bool, cond, List, [], ◌∷◌, map, ℤ, pos, negsuc, ◌+ℤ◌, ◌*ℤ◌, neg_ℤ, sum, nat_lt, slice_index_or, unsigned_abs}
use Rattle.measures.specs.declared.code.LocationCode.{LocationCode}
use Rattle.prices.specs.Quotes.{Quote}
use Rattle.prices.specs.declared.price.Market.{Market}
use Rattle.prices.specs.declared.price.Market.TheVariants.{DayAhead, RealTime}
use Rattle.obligations.specs.Sums.{sum_over}
use Rattle.obligations.specs.Positions.{Postings, adjusted_load, day_ahead_net, deviation, locations}
use Rattle.obligations.specs.Terms.{Terms, Component, energy, congestion, loss, price_at}

-- n numbers from k on, and the participants of an hour: 1 to P
abbrev pub from : ℕ → ℕ → List ℤ
from k zero = []
from k (suc n) = pos k ∷ from (suc k) n

abbrev pub participants : ℕ → List ℤ
participants P = from 1 P

-- a charge for one component in one market (lines 1 to 6), or a share of a market's loss revenue (lines 7 and 8)
pub data Line : Type 0 where
  component_charge : Market → Component → Line
  loss_revenue : Market → Line

-- the lines in the order of their numbers: 1 to 3 day-ahead, 4 to 6 real-time, then 7 and 8
abbrev pub all_lines : List Line
all_lines =
    component_charge DayAhead energy ∷ component_charge DayAhead congestion ∷ component_charge DayAhead loss ∷
    component_charge RealTime energy ∷ component_charge RealTime congestion ∷ component_charge RealTime loss ∷
    loss_revenue DayAhead ∷ loss_revenue RealTime ∷ []

-- what is charged in each market: the day-ahead net, and the deviation from it
abbrev pub charged_position : Market → Postings → ℤ → LocationCode → ℤ
charged_position DayAhead = day_ahead_net
charged_position RealTime = deviation

-- minus the sum over locations of position times component, in thousandths of a cent
abbrev pub unrounded : Postings → Quote → Market → Component → ℤ → ℤ
unrounded b q m c p = neg_ℤ (sum_over (λ l. charged_position m b p l *ℤ price_at q m c l) (locations b))

-- lines 1 to 6: that sum, rounded once
abbrev pub charge : Postings → Terms → Market → Component → ℤ → ℤ
charge b t m c p = t.rounds (unrounded b t.quote m c p)

-- the pool of line 7 (day-ahead) or 8 (real-time): minus the sum of everybody's energy and loss charges
abbrev pub revenue_pool : Postings → Terms → ℕ → Market → ℤ
revenue_pool b t P m = neg_ℤ (sum_over (λ p. charge b t m energy p +ℤ charge b t m loss p) (participants P))

-- a number where it is positive, else 0
abbrev pub positive_part : ℤ → ℕ
positive_part (pos n) = n
positive_part (negsuc n) = 0

-- a participant's weight: its adjusted load over all locations where that is positive, else 0
abbrev pub weight : Postings → ℤ → ℕ
weight b p = positive_part (sum_over (λ l. adjusted_load b p l) (locations b))

abbrev pub weights : Postings → ℕ → List ℕ
weights b P = map (weight b) (participants P)

abbrev pub total_weight : Postings → ℕ → ℕ
total_weight b P = sum (weights b P)

-- somebody has weight
abbrev pub anybody_weighs : Postings → ℕ → Bool
anybody_weighs b P = nat_lt 0 (total_weight b P)

-- the shares of a market's pool, by the weights
abbrev pub revenue_shares : Postings → Terms → ℕ → Market → List ℤ
revenue_shares b t P m = t.shares (revenue_pool b t P m) (map pos (weights b P))

-- lines 7 and 8: the participant's share, 0 where nobody has weight
abbrev pub revenue_share : Postings → Terms → ℕ → Market → ℤ → ℤ
revenue_share b t P m p = cond (anybody_weighs b P) (slice_index_or (revenue_shares b t P m) (unsigned_abs p - 1) (pos 0)) (pos 0)

-- the amount of a line
abbrev pub amount : Postings → Terms → ℕ → ℤ → Line → ℤ
amount b t P p (component_charge m c) = charge b t m c p
amount b t P p (loss_revenue m) = revenue_share b t P m p

-- a participant's lines added
abbrev pub bill : Postings → Terms → ℕ → ℤ → ℤ
bill b t P p = sum_over (amount b t P p) all_lines

-- everybody's congestion charges; where nobody has weight, the energy and loss charges too
abbrev pub fund : Postings → Terms → ℕ → ℤ
fund b t P =
    sum_over (λ p. charge b t DayAhead congestion p +ℤ charge b t RealTime congestion p) (participants P) +ℤ
    cond (anybody_weighs b P) (pos 0) (sum_over (λ p. charge b t DayAhead energy p +ℤ charge b t DayAhead loss p +ℤ (charge b t RealTime energy p +ℤ charge b t RealTime loss p)) (participants P))
