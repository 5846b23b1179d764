-- What `price_of` gives: a price exactly where all three components are in range, with those components.
use Rattle.std.specs.Prelude.{◌≡◌, ◌≤◌, Bool, true, false, is_some, Some, unsigned_abs, refl}
use Rattle.std.proofs.Common.{sym}
use Rattle.std.proofs.Math.Path.{path_j}
use Rattle.std.proofs.lemmas.Bool.{and_parts, leb-true}
use Rattle.prices.specs.Priced.{price_of, tested}
use Rattle.prices.specs.Range.{components_in_range, in_range}
use Rattle.prices.specs.declared.price.Price.{Price}
use Rattle.prices.specs.declared.row.Components.{Components}

-- a price is what `price_of` gives of its own components
pub price_is : (p : Price) → Some p ≡ price_of p.components
unfolding price_of
price_is p = sym (path_j (λ (b : Bool) (h : components_in_range p.components ≡ b). price_of p.components ≡ tested p.components b h) refl p.in_range)

-- there is a price exactly where all three components are in range
tested_some : (x : Components) (b : Bool) (h : components_in_range x ≡ b) → is_some (tested x b h) ≡ b
tested_some x true h = refl
tested_some x false h = refl

pub price_some : (x : Components) → is_some (price_of x) ≡ components_in_range x
unfolding price_of
price_some x = tested_some x (components_in_range x) refl

-- its components are those that it was made of
tested_has : (x : Components) (b : Bool) (h : components_in_range x ≡ b) (p : Price) → tested x b h ≡ Some p → p.components ≡ x
tested_has x true h p e = cc
tested_has x false h p e = cc

pub price_has : (x : Components) (p : Price) → price_of x ≡ Some p → p.components ≡ x
unfolding price_of
price_has x p e = tested_has x (components_in_range x) refl p e

-- each component of a price is in range
pub energy_bound : (p : Price) → unsigned_abs p.components.energy ≤ 100000
energy_bound p = leb-true _ 100000 (and_parts (in_range p.components.energy) _ p.in_range).0

pub congestion_bound : (p : Price) → unsigned_abs p.components.congestion ≤ 100000
congestion_bound p = leb-true _ 100000 (and_parts (in_range p.components.congestion) _ (and_parts (in_range p.components.energy) _ p.in_range).1).0

pub loss_bound : (p : Price) → unsigned_abs p.components.loss ≤ 100000
loss_bound p = leb-true _ 100000 (and_parts (in_range p.components.congestion) _ (and_parts (in_range p.components.energy) _ p.in_range).1).1
