-- What a source says, and what it says of one code more.
use Rattle.std.specs.Prelude.{◌≡◌, false, Some, Option}
use Rattle.measures.specs.Codes.{same_code}
use Rattle.measures.specs.declared.code.LocationCode.{LocationCode}
use Rattle.prices.specs.declared.price.Market.{Market}
use Rattle.prices.specs.declared.price.Price.{Price}
use Rattle.prices.specs.declared.row.Components.{Components}

-- what a source says of each code in each market
abbrev pub Quote : Type 0
Quote = LocationCode → Market → Option Price

-- the code has a price in the market, with these components
pub record HasPrice (q : Quote) (c : LocationCode) (m : Market) (parts : Components) : Type 0 where
  pub price : Price
  pub said : q c m ≡ Some price
  pub components : price.components ≡ parts

-- one code more: it has in each market the price with these components, and every other code has what it had
pub record AddsPrice (before after : Quote) (code : LocationCode) (parts : Market → Components) : Type 0 where
  pub its_price : (m : Market) → HasPrice after code m (parts m)
  pub the_others : (c : LocationCode) (m : Market) → same_code code c ≡ false → after c m ≡ before c m
