-- The price with given components.
use Rattle.std.specs.Prelude.{◌≡◌, Bool, true, false, Some, None, Option, refl}
use Rattle.prices.specs.Range.{components_in_range}
use Rattle.prices.specs.declared.price.Price.{Price}
use Rattle.prices.specs.declared.row.Components.{Components}

-- the price, by the outcome of the range test
abbrev pub tested : (x : Components) (b : Bool) → components_in_range x ≡ b → Option Price
tested x true h = Some (record { components = x; in_range = h })
tested x false h = None

-- the price with these components where all three are in range, else none
unfoldable pub price_of : Components → Option Price
price_of x = tested x (components_in_range x) refl
