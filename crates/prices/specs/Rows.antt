-- Price rows: what a list of rows says of a code, and which row may be added.
use Rattle.std.specs.Prelude.{Bool, true, cond, not, ◌&&◌, List, [], ◌∷◌, length, None, Option, nat_lt}
use Rattle.std.specs.List.{find, list_all, list_any}
use Rattle.std.specs.Option.{option_and_then}
use Rattle.std.specs.Ordering.{int_eq}
use Rattle.measures.specs.Codes.{well_formed, same_code}
use Rattle.measures.specs.declared.code.LocationCode.{LocationCode}
use Rattle.measures.specs.declared.fault.Cause.TheVariants.{MalformedCode, ComponentOutOfRange, OtherEnergyComponent, PricedAlready, SourceFull}
use Rattle.measures.specs.declared.fault.Fault.{Fault}
use Rattle.prices.specs.Priced.{price_of}
use Rattle.prices.specs.Quotes.{Quote}
use Rattle.prices.specs.Range.{components_in_range}
use Rattle.prices.specs.Refusals.{first_of, unless}
use Rattle.prices.specs.declared.price.Market.{Market}
use Rattle.prices.specs.declared.price.Market.TheVariants.{DayAhead, RealTime}
use Rattle.prices.specs.declared.row.Components.{Components}
use Rattle.prices.specs.declared.row.PriceRow.{PriceRow}

-- a row's components in a market
abbrev pub components_in : PriceRow → Market → Components
components_in r DayAhead = r.day_ahead
components_in r RealTime = r.real_time

-- the first row with this code
abbrev pub row_with : List PriceRow → LocationCode → Option PriceRow
row_with rs c = find (λ r. same_code r.code c) rs

-- the price in that row
abbrev pub row_quote : List PriceRow → Quote
row_quote rs c m = option_and_then (λ r. price_of (components_in r m)) (row_with rs c)

-- what the rows say: a malformed code has no price
abbrev pub rows_quote : List PriceRow → Quote
rows_quote rs c m = cond (well_formed c) (row_quote rs c m) None

-- some row has this code
abbrev pub held : List PriceRow → LocationCode → Bool
held rs c = list_any (λ r. same_code r.code c) rs

-- all six components are in range
abbrev pub row_in_range : PriceRow → Bool
row_in_range r = components_in_range r.day_ahead && components_in_range r.real_time

-- the two rows have the same energy component in each market
abbrev pub same_energy : PriceRow → PriceRow → Bool
same_energy f r = int_eq f.day_ahead.energy r.day_ahead.energy && int_eq f.real_time.energy r.real_time.energy

-- the first row fixes the energy components
abbrev pub fits_energy : List PriceRow → PriceRow → Bool
fits_energy [] r = true
fits_energy (f ∷ rs) r = same_energy f r

-- what may refuse a row, in this order
abbrev pub row_refusals : List PriceRow → PriceRow → List (Option Fault)
row_refusals rs r =
    unless (well_formed r.code) MalformedCode
    ∷ unless (row_in_range r) ComponentOutOfRange
    ∷ unless (fits_energy rs r) OtherEnergyComponent
    ∷ unless (not (held rs r.code)) PricedAlready
    ∷ unless (nat_lt (length rs) 64) SourceFull
    ∷ []

-- why a row may not be added, the first cause that applies
abbrev pub row_refusal : List PriceRow → PriceRow → Option Fault
row_refusal rs r = first_of (row_refusals rs r)

-- each row has the first one's energy components
abbrev pub has_one_energy : List PriceRow → Bool
has_one_energy [] = true
has_one_energy (f ∷ rs) = list_all (same_energy f) rs
