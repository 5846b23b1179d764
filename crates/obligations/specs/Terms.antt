-- What a settlement brings: prices, a rounding rule and a sharing rule, each by its meaning and its laws.
use Rattle.std.specs.Prelude.{◌≡◌, true, false, List, length, ℤ, pos, ◌*ℤ◌, neg_ℤ, is_some, Some, None, Option}
use Rattle.measures.specs.Codes.{well_formed}
use Rattle.measures.specs.declared.code.LocationCode.{LocationCode}
use Rattle.prices.specs.Quotes.{Quote}
use Rattle.prices.specs.declared.price.Market.{Market}
use Rattle.prices.specs.declared.price.Market.TheVariants.{DayAhead, RealTime}
use Rattle.prices.specs.declared.price.Price.{Price}
use Rattle.rules.specs.Rounding.{Near}
use Rattle.rules.specs.Sharing.{Fair, shareable}

pub record Terms : Type 0 where
  -- the price of a location in a market, where it has one
  pub quote : Quote
  -- cents for thousandths of a cent
  pub rounds : ℤ → ℤ
  -- the shares of a pool by weights
  pub shares : ℤ → List ℤ → List ℤ
  -- the laws of every price source
  pub malformed : (c : LocationCode) (m : Market) → well_formed c ≡ false → quote c m ≡ None
  pub both : (c : LocationCode) → is_some (quote c DayAhead) ≡ is_some (quote c RealTime)
  pub alike : (c d : LocationCode) (m : Market) (p q : Price) → quote c m ≡ Some p → quote d m ≡ Some q → p.components.energy ≡ q.components.energy
  -- the laws of every rounding rule
  pub near : (x : ℤ) → Near 1000 (pos 1000 *ℤ rounds x) x
  pub odd : (x : ℤ) → rounds (neg_ℤ x) ≡ neg_ℤ (rounds x)
  -- the law of every sharing rule
  pub fair : (pool : ℤ) (weights : List ℤ) → shareable pool weights (length weights) ≡ true → Fair pool weights (shares pool weights)

pub data Component : Type 0 where
  energy : Component
  congestion : Component
  loss : Component

abbrev pub component_of : Component → Price → ℤ
component_of energy p = p.components.energy
component_of congestion p = p.components.congestion
component_of loss p = p.components.loss

-- a component in cents per MWh; 0 where there is no price
abbrev pub component_in : Component → Option Price → ℤ
component_in c None = pos 0
component_in c (Some p) = component_of c p

-- a component of a location's price in a market
abbrev pub price_at : Quote → Market → Component → LocationCode → ℤ
price_at q m c l = component_in c (q l m)
