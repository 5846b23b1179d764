-- What one posting adds to a position of the participant that it concerns, and what all of them come to.
use Rattle.std.specs.Prelude.{◌≡◌, cond, List, ℤ, pos, ◌+ℤ◌, ◌-ℤ◌, ◌*ℤ◌, neg_ℤ}
use Rattle.std.specs.Ordering.{int_eq}
use Rattle.measures.specs.declared.code.LocationCode.{LocationCode}
use Rattle.prices.specs.Quotes.{Quote}
use Rattle.prices.specs.declared.price.Market.{Market}
use Rattle.prices.specs.declared.price.Market.TheVariants.{DayAhead, RealTime}
use Rattle.postings.specs.Kinds.{same_kind}
use Rattle.postings.specs.declared.bilateral.Bilateral.{Bilateral}
use Rattle.postings.specs.declared.bilateral.BilateralKind.{BilateralKind}
use Rattle.postings.specs.declared.bilateral.BilateralKind.TheVariants.{DayAheadEnergy, RealTimeEnergy, RealTimeLoad}
use Rattle.postings.specs.declared.record.Record.{Record}
use Rattle.obligations.specs.Charges.{unrounded}
use Rattle.obligations.specs.Positions.{Postings, record_kwh, bilateral_kwh, loads, generates, adjusted_load, day_ahead_net, real_time_net, deviation, locations}
use Rattle.obligations.specs.Sums.{sum_over}
use Rattle.obligations.specs.Terms.{Component, price_at}

-- the four positions by name
pub data Position : Type 0 where
  load_position : Position
  day_ahead_position : Position
  real_time_position : Position
  deviation_position : Position

abbrev pub position : Position → Postings → ℤ → LocationCode → ℤ
position load_position = adjusted_load
position day_ahead_position = day_ahead_net
position real_time_position = real_time_net
position deviation_position = deviation

-- generation less load of one market
abbrev pub record_net : Market → Record → ℤ
record_net m r = cond (generates m r.kind) (record_kwh r) (pos 0) -ℤ cond (loads m r.kind) (record_kwh r) (pos 0)

-- what a record adds for its participant
abbrev pub record_effect : Position → Record → ℤ
record_effect load_position r = cond (loads RealTime r.kind) (record_kwh r) (pos 0)
record_effect day_ahead_position r = record_net DayAhead r
record_effect real_time_position r = record_net RealTime r
record_effect deviation_position r = record_net RealTime r -ℤ record_net DayAhead r

-- the quantity of a bilateral of this kind
abbrev pub bilateral_of : BilateralKind → Bilateral → ℤ
bilateral_of k x = cond (same_kind x.kind k) (bilateral_kwh x) (pos 0)

-- what a bilateral adds for its buyer; for its seller it takes as much away
abbrev pub bilateral_effect : Position → Bilateral → ℤ
bilateral_effect load_position x = neg_ℤ (bilateral_of RealTimeLoad x)
bilateral_effect day_ahead_position x = bilateral_of DayAheadEnergy x
bilateral_effect real_time_position x = bilateral_of RealTimeLoad x +ℤ bilateral_of RealTimeEnergy x
bilateral_effect deviation_position x = bilateral_of RealTimeLoad x +ℤ bilateral_of RealTimeEnergy x -ℤ bilateral_of DayAheadEnergy x

-- ---- over all locations
-- what those of a list that concern p come to: the effect of each, times what g gives at its location
abbrev pub worth_of : {X : Type 0} → (X → ℤ) → (X → LocationCode) → (X → ℤ) → (LocationCode → ℤ) → ℤ → List X → ℤ
worth_of who location effect g p xs = sum_over (λ x. cond (int_eq (who x) p) (effect x) (pos 0) *ℤ g (location x)) xs

abbrev pub records_worth : (Record → ℤ) → (LocationCode → ℤ) → ℤ → List Record → ℤ
records_worth f g p rs = worth_of (λ r. r.participant) (λ r. r.location) f g p rs

abbrev pub bought_worth : (Bilateral → ℤ) → (LocationCode → ℤ) → ℤ → List Bilateral → ℤ
bought_worth f g p xs = worth_of (λ x. x.buyer) (λ x. x.location) f g p xs

abbrev pub sold_worth : (Bilateral → ℤ) → (LocationCode → ℤ) → ℤ → List Bilateral → ℤ
sold_worth f g p xs = worth_of (λ x. x.seller) (λ x. x.location) f g p xs

-- a position's worth: that of the records and of the bilaterals bought, less that of the bilaterals sold
abbrev pub worth : Position → Postings → (LocationCode → ℤ) → ℤ → ℤ
worth s b g p = records_worth (record_effect s) g p b.records +ℤ bought_worth (bilateral_effect s) g p b.bilaterals -ℤ sold_worth (bilateral_effect s) g p b.bilaterals

-- the position that a market charges
abbrev pub charged : Market → Position
charged DayAhead = day_ahead_position
charged RealTime = deviation_position

-- in one pass: a position times any price per location, summed over the locations, is its worth, a sum over the postings; so for the charges
pub record OnePass (b : Postings) : Type 0 where
  pub positions : (s : Position) (g : LocationCode → ℤ) (p : ℤ) → sum_over (λ l. position s b p l *ℤ g l) (locations b) ≡ worth s b g p
  pub charges : (q : Quote) (m : Market) (c : Component) (p : ℤ) → unrounded b q m c p ≡ neg_ℤ (worth (charged m) b (price_at q m c) p)
