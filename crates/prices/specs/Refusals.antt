-- Faults of the price layer, and refusals in order.
use Rattle.std.specs.Prelude.{ℕ, Bool, cond, List, [], ◌∷◌, Some, None, Option, option_map}
use Rattle.std.specs.Option.{option_or}
use Rattle.measures.specs.Faults.{fault}
use Rattle.measures.specs.declared.fault.Cause.{Cause}
use Rattle.measures.specs.declared.fault.Fault.{Fault}
use Rattle.measures.specs.declared.fault.Layer.TheVariants.{Price}

-- a fault that the price layer finds
abbrev pub price_fault : Cause → Option ℕ → Fault
price_fault c place = fault c Price place

-- refused for this cause unless the test passes
abbrev pub unless : Bool → Cause → Option Fault
unless test c = cond test None (Some (price_fault c None))

-- refused for this cause at the place, where there is one
abbrev pub where_at : Option ℕ → Cause → Option Fault
where_at place c = option_map (λ k. price_fault c (Some k)) place

-- the first refusal that applies
abbrev pub first_of : List (Option Fault) → Option Fault
first_of [] = None
first_of (o ∷ os) = option_or o (first_of os)
