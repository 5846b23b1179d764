-- One price per market for every well-formed code.
use Rattle.std.specs.Prelude.{◌≡◌, true, cond, ℤ, pos, Some, None}
use Rattle.measures.specs.Codes.{well_formed}
use Rattle.measures.specs.declared.code.LocationCode.{LocationCode}
use Rattle.prices.specs.Quotes.{Quote, HasPrice}
use Rattle.prices.specs.declared.price.Market.{Market}
use Rattle.prices.specs.declared.price.Market.TheVariants.{DayAhead, RealTime}
use Rattle.prices.specs.declared.price.Price.{Price}
use Rattle.prices.specs.declared.row.Components.{Components}
use Rattle.prices.specs.declared.single.SinglePrice.{SinglePrice}

-- its price in a market
abbrev pub price_in : SinglePrice → Market → Price
price_in s DayAhead = s.day_ahead
price_in s RealTime = s.real_time

-- what it says: a malformed code has no price
abbrev pub single_quote : SinglePrice → Quote
single_quote s c m = cond (well_formed c) (Some (price_in s m)) None

-- an energy component alone
abbrev pub energy_alone : ℤ → Components
energy_alone e = record { energy = e; congestion = pos 0; loss = pos 0 }

-- in each market every well-formed code has that market's energy component, and neither congestion nor loss
pub record SaysAlone (q : Quote) (day_ahead real_time : ℤ) : Type 0 where
  pub in_day_ahead : (c : LocationCode) → well_formed c ≡ true → HasPrice q c DayAhead (energy_alone day_ahead)
  pub in_real_time : (c : LocationCode) → well_formed c ≡ true → HasPrice q c RealTime (energy_alone real_time)
