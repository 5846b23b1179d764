-- A price with an energy component alone.
use Rattle.std.proofs.Common.{◌≡◌, true, false, ℤ, is_some, Some, None, Ok, Err, Option, Result, sym, ap, subst, rules}
use Rattle.std.specs.Option.{ok_or}
use Rattle.std.proofs.lemmas.Bool.{and_parts, cond-true}
use Rattle.measures.specs.Codes.{well_formed}
use Rattle.measures.specs.declared.code.LocationCode.{LocationCode}
use Rattle.measures.specs.declared.fault.Cause.TheVariants.{ComponentOutOfRange}
use Rattle.measures.specs.declared.fault.Fault.{Fault}
use Rattle.prices.specs.Refusals.{price_fault}
use Rattle.prices.specs.declared.price.Price.{Price}
use Rattle.prices.specs.Priced.{price_of}
use Rattle.prices.specs.Quotes.{HasPrice}
use Rattle.prices.specs.Range.{components_in_range, in_range}
use Rattle.prices.specs.Singles.{energy_alone, price_in, SaysAlone, single_quote}
use Rattle.prices.specs.declared.price.Market.{Market}
use Rattle.prices.specs.declared.single.SinglePrice.{SinglePrice}
use Rattle.prices.specs.Prices.{price_has, price_some}

-- an energy component alone is taken as a price, or refused as out of range
pub told : (e : ℤ) (o : Option Price) (r : Result Price Fault) → o ≡ price_of (energy_alone e) → r ≡ ok_or o (price_fault ComponentOutOfRange None) →
    elim r as (λ x. Type 0) [ Ok p ↦ p.components ≡ energy_alone e | Err f ↦ (in_range e ≡ false) × (f ≡ price_fault ComponentOutOfRange None) ]
told e (Some p) (Ok q) g h = let k : p ≡ q = cc in subst (λ x. x.components ≡ energy_alone e) k (price_has _ p (sym g))
told e None (Err f) g h = (search (rules, price_some (energy_alone e), ap is_some g), cc)
told e (Some p) (Err f) g h = cc
told e None (Ok q) g h = cc

-- a price with an energy component alone has it in range
pub alone_in_range : (p : Price) (e : ℤ) → p.components ≡ energy_alone e → in_range e ≡ true
alone_in_range p e h = (and_parts (in_range e) _ (subst (λ x. components_in_range x ≡ true) h p.in_range)).0

has : (s : SinglePrice) (m : Market) (e : ℤ) → (price_in s m).components ≡ energy_alone e → (c : LocationCode) → well_formed c ≡ true → HasPrice (single_quote s) c m (energy_alone e)
has s m e h c k = record { price = price_in s m; said = cond-true _ _ _ k; components = h }

pub says_alone : (s : SinglePrice) (d r : ℤ) → s.day_ahead.components ≡ energy_alone d → s.real_time.components ≡ energy_alone r → SaysAlone (single_quote s) d r
says_alone s d r f g = record { in_day_ahead = has s _ d f; in_real_time = has s _ r g }
