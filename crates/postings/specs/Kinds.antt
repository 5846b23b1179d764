-- Kinds of postings: the market of each, and which records are load.
use Rattle.std.specs.Prelude.{Bool, true, false}
use Rattle.prices.specs.declared.price.Market.{Market}
use Rattle.prices.specs.declared.price.Market.TheVariants.{DayAhead, RealTime}
use Rattle.postings.specs.declared.bilateral.BilateralKind.{BilateralKind}
use Rattle.postings.specs.declared.bilateral.BilateralKind.TheVariants.{DayAheadEnergy, RealTimeEnergy, RealTimeLoad}
use Rattle.postings.specs.declared.record.RecordKind.{RecordKind}
use Rattle.postings.specs.declared.record.RecordKind.TheVariants.{DemandBid, DecrementBid, SupplyOffer, IncrementOffer, DayAheadPurchase, MeteredLoad, ExternalSale, MeteredGeneration, RealTimePurchase}

-- bids, offers and external purchases of the day before; meters and external trades of the hour itself
abbrev pub record_market : RecordKind → Market
record_market DemandBid = DayAhead
record_market DecrementBid = DayAhead
record_market SupplyOffer = DayAhead
record_market IncrementOffer = DayAhead
record_market DayAheadPurchase = DayAhead
record_market MeteredLoad = RealTime
record_market ExternalSale = RealTime
record_market MeteredGeneration = RealTime
record_market RealTimePurchase = RealTime

-- load is what is taken from the pool; all else is generation
abbrev pub is_load : RecordKind → Bool
is_load DemandBid = true
is_load DecrementBid = true
is_load MeteredLoad = true
is_load ExternalSale = true
is_load _ = false

abbrev pub bilateral_market : BilateralKind → Market
bilateral_market DayAheadEnergy = DayAhead
bilateral_market RealTimeEnergy = RealTime
bilateral_market RealTimeLoad = RealTime

-- the two are the same market
abbrev pub same_market : Market → Market → Bool
same_market DayAhead DayAhead = true
same_market RealTime RealTime = true
same_market _ _ = false

-- the two are the same kind of bilateral
abbrev pub same_kind : BilateralKind → BilateralKind → Bool
same_kind DayAheadEnergy DayAheadEnergy = true
same_kind RealTimeEnergy RealTimeEnergy = true
same_kind RealTimeLoad RealTimeLoad = true
same_kind _ _ = false
