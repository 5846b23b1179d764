-- What holds of rows after one that is accepted.
use Rattle.std.proofs.Common.{◌≡◌, ◌<◌, Bool, true, false, cond, not, ltb, List, [], ◌∷◌, ◌++◌, length, Some, None, Option, refl, ap, ◌∙◌}
use Rattle.std.specs.List.{list_all}
use Rattle.std.proofs.lemmas.List.Folds.{list_all-append}
use Rattle.std.proofs.lemmas.Bool.{and_from, cond-true, ltb-true, not-true}
use Rattle.measures.specs.Codes.{well_formed}
use Rattle.measures.specs.declared.fault.Cause.{Cause}
use Rattle.measures.specs.declared.fault.Cause.TheVariants.{MalformedCode, ComponentOutOfRange, OtherEnergyComponent, PricedAlready, SourceFull}
use Rattle.measures.specs.declared.fault.Fault.{Fault}
use Rattle.prices.specs.Priced.{price_of}
use Rattle.prices.specs.Quotes.{AddsPrice, HasPrice}
use Rattle.prices.specs.Refusals.{first_of, unless}
use Rattle.prices.specs.Rows.{components_in, fits_energy, held, has_one_energy, row_in_range, row_refusal, row_refusals, rows_quote, same_energy}
use Rattle.prices.specs.declared.price.Market.{Market}
use Rattle.prices.specs.declared.price.Price.{Price}
use Rattle.prices.specs.declared.row.PriceRow.{PriceRow}
use Rattle.measures.proofs.Codes.{same_self}
use Rattle.prices.specs.Found.{found_new, found_other, in_range_some}
use Rattle.prices.specs.Guarded.{some_value}
use Rattle.prices.specs.Prices.{price_has}

-- where no refusal is the first that applies, none does
abbrev pub NoneOf : List (Option Fault) → Type 0
NoneOf [] = Unit {0}
NoneOf (o ∷ os) = (o ≡ None) × NoneOf os

pub none_of : (os : List (Option Fault)) → first_of os ≡ None → NoneOf os
none_of [] h = tt
none_of (None ∷ os) h = (refl, none_of os h)
none_of (Some f ∷ os) h = cc

-- a test that refuses nothing passes
pub unless_none : (test : Bool) (c : Cause) → unless test c ≡ None → test ≡ true
unless_none true c h = refl
unless_none false c h = cc

-- what an accepted row has
pub record AcceptedRow (rs : List PriceRow) (r : PriceRow) : Type 0 where
  pub formed : well_formed r.code ≡ true
  pub ranged : row_in_range r ≡ true
  pub fits : fits_energy rs r ≡ true
  pub free : held rs r.code ≡ false
  pub room : length rs < 64

pub accepted_row : (rs : List PriceRow) (r : PriceRow) → row_refusal rs r ≡ None → AcceptedRow rs r
accepted_row rs r h =
    let n = none_of (row_refusals rs r) h in
    record {
      formed = unless_none (well_formed r.code) MalformedCode n.0;
      ranged = unless_none (row_in_range r) ComponentOutOfRange n.1.0;
      fits = unless_none (fits_energy rs r) OtherEnergyComponent n.1.1.0;
      free = not-true _ (unless_none (not (held rs r.code)) PricedAlready n.1.1.1.0);
      room = ltb-true (length rs) 64 (unless_none (ltb (length rs) 64) SourceFull n.1.1.1.1.0);
    }

-- one row more that passes a test which all rows pass
pub all_push : (f : PriceRow → Bool) (rs : List PriceRow) (r : PriceRow) → list_all f rs ≡ true → f r ≡ true → list_all f (rs ++ r ∷ []) ≡ true
all_push f rs r h k = list_all-append f rs (r ∷ []) ∙ and_from _ _ h (and_from _ _ k refl)

pub energy_push : (rs : List PriceRow) (r : PriceRow) → has_one_energy rs ≡ true → fits_energy rs r ≡ true → has_one_energy (rs ++ r ∷ []) ≡ true
energy_push [] r h k = refl
energy_push (f ∷ rs) r h k = all_push (same_energy f) rs r h k

-- an accepted row gives its code the prices of its components, and no other code another price
pub row_adds : (rs : List PriceRow) (r : PriceRow) → row_refusal rs r ≡ None → AddsPrice (rows_quote rs) (rows_quote (rs ++ r ∷ [])) r.code (components_in r)
row_adds rs r h = record { its_price = its; the_others = λ c m k. ap (λ (o : Option Price). cond (well_formed c) o None) (found_other rs r c m k) }
  where
    a : AcceptedRow rs r
    a = accepted_row rs r h

    its : (m : Market) → HasPrice (rows_quote (rs ++ r ∷ [])) r.code m (components_in r m)
    its m =
        let v = some_value (price_of (components_in r m)) (in_range_some r m a.ranged) in
        record {
          price = v.0;
          said = cond-true _ _ _ a.formed ∙ (found_new rs r r.code m a.free (same_self r.code) ∙ v.1);
          components = price_has _ v.0 v.1;
        }
