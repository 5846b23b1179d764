-- The range of a price component.
use Rattle.std.specs.Prelude.{Bool, ◌&&◌, ℤ, nat_le, unsigned_abs}
use Rattle.prices.specs.declared.row.Components.{Components}

-- from -100,000 to 100,000 cents per MWh
abbrev pub in_range : ℤ → Bool
in_range z = nat_le (unsigned_abs z) 100000

-- all three components are in range
abbrev pub components_in_range : Components → Bool
components_in_range x = in_range x.energy && (in_range x.congestion && in_range x.loss)
