-- The price of a group: the energy component of its members, and the weighted means of their other two.
use Rattle.std.specs.Prelude.{ℕ, ◌+◌, ◌*◌, ◌/◌, Bool, cond, List, [], ◌∷◌, ℤ, pos, ◌+ℤ◌, ◌*ℤ◌, is_some, Some, None, Option, unsigned_abs}
use Rattle.std.specs.List.{list_all}
use Rattle.measures.specs.Signs.{signed}
use Rattle.prices.specs.Members.{total_weight}
use Rattle.prices.specs.Quotes.{Quote}
use Rattle.prices.specs.Priced.{price_of}
use Rattle.prices.specs.declared.member.Member.{Member}
use Rattle.prices.specs.declared.price.Market.{Market}
use Rattle.prices.specs.declared.price.Price.{Price}
use Rattle.prices.specs.declared.row.Components.{Components}

-- x / w to the nearest whole number, halves away from zero
abbrev pub nearest_mean : ℤ → ℕ → ℤ
nearest_mean x w = signed x ((2 * unsigned_abs x + w) / (2 * w))

-- the energy component
abbrev pub energy_of : Price → ℤ
energy_of p = p.components.energy

-- the congestion component
abbrev pub congestion_of : Price → ℤ
congestion_of p = p.components.congestion

-- the loss component
abbrev pub loss_of : Price → ℤ
loss_of p = p.components.loss

-- a component of a price, 0 where there is no price
abbrev pub component : (Price → ℤ) → Option Price → ℤ
component part (Some p) = part p
component part None = pos 0

-- each member has a price in the market
abbrev pub all_priced : Quote → Market → List Member → Bool
all_priced below m = list_all (λ x. is_some (below x.code m))

-- the sum of weight × component over the members
abbrev pub weighted_sum : (Price → ℤ) → Quote → Market → List Member → ℤ
weighted_sum part below m [] = pos 0
weighted_sum part below m (x ∷ xs) = (component part (below x.code m) *ℤ x.weight) +ℤ weighted_sum part below m xs

-- the sum of weight × component over the sum of the weights
abbrev pub weighted_mean : (Price → ℤ) → Quote → Market → List Member → ℤ
weighted_mean part below m xs = nearest_mean (weighted_sum part below m xs) (total_weight xs)

-- the energy component of the first member, which all prices in the market have
abbrev pub first_energy : Quote → Market → List Member → ℤ
first_energy below m [] = pos 0
first_energy below m (x ∷ xs) = component energy_of (below x.code m)

-- the components of a group's price in a market
abbrev pub group_components : Quote → List Member → Market → Components
group_components below xs m = record { energy = first_energy below m xs; congestion = weighted_mean congestion_of below m xs; loss = weighted_mean loss_of below m xs }

-- a group's price from its members' prices below; none where a member has none
abbrev pub group_price : Quote → Market → List Member → Option Price
group_price below m xs = cond (all_priced below m xs) (price_of (group_components below xs m)) None
