-- What the postings of an hour keep to.
use Rattle.std.specs.Prelude.{◌≡◌, ℕ, List, ℤ, pos, ◌≤ℤ◌}
use Rattle.std.specs.List.{AllByRecursion}
use Rattle.prices.specs.declared.price.Market.{Market}
use Rattle.postings.specs.Kinds.{record_market, bilateral_market, same_market}
use Rattle.postings.specs.declared.bilateral.Bilateral.{Bilateral}
use Rattle.postings.specs.declared.record.Record.{Record}
use Rattle.obligations.specs.Sums.{sum_where}
use Rattle.obligations.specs.Positions.{Postings, record_kwh, bilateral_kwh}

-- the quantities of a market's postings together
abbrev pub market_total : {X : Type 0} → (X → Market) → (X → ℤ) → Market → List X → ℤ
market_total market kwh m xs = sum_where (λ x. same_market (market x) m) kwh xs

abbrev pub records_total : Market → List Record → ℤ
records_total = market_total (λ r. record_market r.kind) record_kwh

abbrev pub bilaterals_total : Market → List Bilateral → ℤ
bilaterals_total = market_total (λ x. bilateral_market x.kind) bilateral_kwh

-- from the lower number to the upper one
abbrev pub Between : ℤ → ℤ → ℤ → Type 0
Between low high z = (low ≤ℤ z) × (z ≤ℤ high)

-- a record and a bilateral of an hour with P participants
pub record RecordKept (P : ℕ) (r : Record) : Type 0 where
  pub participant_in : Between (pos 1) (pos P) r.participant
  pub quantity_in : Between (pos 0) (pos 10000000) (record_kwh r)

pub record BilateralKept (P : ℕ) (x : Bilateral) : Type 0 where
  pub buyer_in : Between (pos 1) (pos P) x.buyer
  pub seller_in : Between (pos 1) (pos P) x.seller
  pub two_parties : ¬ (x.buyer ≡ x.seller)
  pub quantity_in : Between (pos 0) (pos 10000000) (bilateral_kwh x)

-- all of them, and neither market past its limits
pub record Kept (P : ℕ) (b : Postings) : Type 0 where
  pub records_kept : AllByRecursion (RecordKept P) b.records
  pub bilaterals_kept : AllByRecursion (BilateralKept P) b.bilaterals
  pub records_limit : (m : Market) → records_total m b.records ≤ℤ pos 100000000
  pub bilaterals_limit : (m : Market) → bilaterals_total m b.bilaterals ≤ℤ pos 50000000
