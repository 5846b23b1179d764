-- Postings, and the positions that they give a participant at a location.
use Rattle.std.specs.Prelude.{Bool, cond, not, ◌&&◌, List, [], ◌∷◌, ◌++◌, map, ℤ, ◌+ℤ◌, ◌-ℤ◌}
use Rattle.measures.specs.Codes.{same_code}
use Rattle.std.specs.Ordering.{int_eq}
use Rattle.measures.specs.declared.code.LocationCode.{LocationCode}
use Rattle.prices.specs.declared.price.Market.{Market}
use Rattle.prices.specs.declared.price.Market.TheVariants.{DayAhead, RealTime}
use Rattle.postings.specs.Kinds.{record_market, is_load, same_market, same_kind}
use Rattle.postings.specs.declared.bilateral.Bilateral.{Bilateral}
use Rattle.postings.specs.declared.bilateral.BilateralKind.{BilateralKind}
use Rattle.postings.specs.declared.bilateral.BilateralKind.TheVariants.{DayAheadEnergy, RealTimeEnergy, RealTimeLoad}
use Rattle.postings.specs.declared.record.Record.{Record}
use Rattle.postings.specs.declared.record.RecordKind.{RecordKind}
use Rattle.obligations.specs.Sums.{sum_where}

-- all that stands posted, each list in the order of its numbers
pub record Postings : Type 0 where
  pub records : List Record
  pub bilaterals : List Bilateral

-- the kilowatt-hours of a record and of a bilateral
abbrev pub record_kwh : Record → ℤ
record_kwh r = r.quantity.0

abbrev pub bilateral_kwh : Bilateral → ℤ
bilateral_kwh x = x.quantity.0

-- load, or generation, of one market
abbrev pub loads : Market → RecordKind → Bool
loads m k = same_market (record_market k) m && is_load k

abbrev pub generates : Market → RecordKind → Bool
generates m k = same_market (record_market k) m && not (is_load k)

-- of a participant, at a location
abbrev pub stands_at : ℤ → LocationCode → ℤ → LocationCode → Bool
stands_at who code p l = int_eq who p && same_code code l

-- what participant p has at location l: load and generation in a market, and what it bought and sold by bilaterals of a kind
abbrev pub load : Postings → Market → ℤ → LocationCode → ℤ
load b m p l = sum_where (λ r. loads m r.kind && stands_at r.participant r.location p l) record_kwh b.records

abbrev pub generation : Postings → Market → ℤ → LocationCode → ℤ
generation b m p l = sum_where (λ r. generates m r.kind && stands_at r.participant r.location p l) record_kwh b.records

abbrev pub bought : Postings → BilateralKind → ℤ → LocationCode → ℤ
bought b k p l = sum_where (λ x. same_kind x.kind k && stands_at x.buyer x.location p l) bilateral_kwh b.bilaterals

abbrev pub sold : Postings → BilateralKind → ℤ → LocationCode → ℤ
sold b k p l = sum_where (λ x. same_kind x.kind k && stands_at x.seller x.location p l) bilateral_kwh b.bilaterals

-- real-time load, plus load sold, less load bought
abbrev pub adjusted_load : Postings → ℤ → LocationCode → ℤ
adjusted_load b p l = load b RealTime p l +ℤ sold b RealTimeLoad p l -ℤ bought b RealTimeLoad p l

-- day-ahead generation less load, plus day-ahead energy bought, less sold
abbrev pub day_ahead_net : Postings → ℤ → LocationCode → ℤ
day_ahead_net b p l = generation b DayAhead p l -ℤ load b DayAhead p l +ℤ bought b DayAheadEnergy p l -ℤ sold b DayAheadEnergy p l

-- real-time generation less adjusted load, plus real-time energy bought, less sold
abbrev pub real_time_net : Postings → ℤ → LocationCode → ℤ
real_time_net b p l = generation b RealTime p l -ℤ adjusted_load b p l +ℤ bought b RealTimeEnergy p l -ℤ sold b RealTimeEnergy p l

-- real-time net less day-ahead net
abbrev pub deviation : Postings → ℤ → LocationCode → ℤ
deviation b p l = real_time_net b p l -ℤ day_ahead_net b p l

-- ---- the locations: each code that a posting names, once
abbrev pub without : LocationCode → List LocationCode → List LocationCode
without c [] = []
without c (d ∷ ds) = cond (same_code c d) (without c ds) (d ∷ without c ds)

abbrev pub each_once : List LocationCode → List LocationCode
each_once [] = []
each_once (c ∷ cs) = c ∷ without c (each_once cs)

abbrev pub locations : Postings → List LocationCode
locations b = each_once (map (λ r. r.location) b.records ++ map (λ x. x.location) b.bilaterals)

-- the records alone
abbrev pub records_alone : Postings → Postings
records_alone b = record { records = b.records; bilaterals = [] }
