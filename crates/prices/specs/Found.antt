-- What a look-up in rows finds.
use Rattle.std.specs.Prelude.{◌≡◌, ℕ, Bool, true, false, cond, ◌||◌, List, [], ◌∷◌, ◌++◌, is_some, Some, None, Option, refl}
use Rattle.std.specs.List.{find, list_all, list_any}
use Rattle.std.specs.Option.{option_and_then}
use Rattle.std.proofs.Common.{sym, ◌∙◌, ap, subst, arith}
use Rattle.std.proofs.lemmas.Bool.{and_from, and_parts, cond-true, cond-false}
use Rattle.std.proofs.lemmas.Option.{option_and_then_some}
use Rattle.measures.specs.Codes.{same_code}
use Rattle.measures.specs.declared.code.LocationCode.{LocationCode}
use Rattle.measures.proofs.Numbers.{int_eq_self, int_eq_true}
use Rattle.std.specs.Ordering.{int_eq}
use Rattle.prices.specs.Rows.{components_in, held, has_one_energy, row_in_range, row_quote, same_energy}
use Rattle.prices.specs.declared.price.Market.{Market}
use Rattle.prices.specs.declared.price.Market.TheVariants.{DayAhead, RealTime}
use Rattle.prices.specs.declared.price.Price.{Price}
use Rattle.prices.specs.declared.row.Components.{Components}
use Rattle.prices.specs.declared.row.PriceRow.{PriceRow}
use Rattle.prices.specs.Priced.{price_of}
use Rattle.prices.specs.Prices.{price_has, price_some}
use Rattle.prices.specs.Range.{components_in_range}

-- what a search finds passes each test that all pass
found_passes : {X : Type 0} (wanted test : X → Bool) (xs : List X) (y : X) → list_all test xs ≡ true → find wanted xs ≡ Some y → test y ≡ true
found_passes wanted test [] y h e = let z : ◌≡◌ {A = ℕ} 0 1 = cc in absurd (omega arith)
found_passes wanted test (x ∷ xs) y h e = here (wanted x) e (λ g. found_passes wanted test xs y all.1 g)
  where
    all : (test x ≡ true) × (list_all test xs ≡ true)
    all = and_parts (test x) (list_all test xs) h

    here : (b : Bool) → cond b (Some x) (find wanted xs) ≡ Some y → (find wanted xs ≡ Some y → test y ≡ true) → test y ≡ true
    here true f rest = let same : x ≡ y = cc in subst (λ z. test z ≡ true) same all.0
    here false f rest = rest f

-- a search in one element more finds it where none before passes, and else what it found before
find_new : {X : Type 0} (p : X → Bool) (xs : List X) (y : X) → list_any p xs ≡ false → p y ≡ true → find p (xs ++ y ∷ []) ≡ Some y
find_new p [] y h k = cond-true _ _ _ k
find_new p (x ∷ xs) y h k = here (p x) h (λ g. find_new p xs y g k)
  where
    here : (b : Bool) → (b || list_any p xs) ≡ false → (list_any p xs ≡ false → find p (xs ++ y ∷ []) ≡ Some y) → cond b (Some x) (find p (xs ++ y ∷ [])) ≡ Some y
    here true g rest = let z : ◌≡◌ {A = ℕ} 0 1 = cc in absurd (omega arith)
    here false g rest = rest g

find_other : {X : Type 0} (p : X → Bool) (xs : List X) (y : X) → p y ≡ false → find p (xs ++ y ∷ []) ≡ find p xs
find_other p [] y k = cond-false _ _ _ k
find_other p (x ∷ xs) y k = ap (cond (p x) (Some x)) (find_other p xs y k)

-- one row more: its code, where it was not held, has its price
pub found_new : (rs : List PriceRow) (r : PriceRow) (c : LocationCode) (m : Market) → held rs c ≡ false → same_code r.code c ≡ true → row_quote (rs ++ r ∷ []) c m ≡ price_of (components_in r m)
found_new rs r c m h k = ap (option_and_then (λ (x : PriceRow). price_of (components_in x m))) (find_new (λ (x : PriceRow). same_code x.code c) rs r h k)

-- and every other code has what it had
pub found_other : (rs : List PriceRow) (r : PriceRow) (c : LocationCode) (m : Market) → same_code r.code c ≡ false → row_quote (rs ++ r ∷ []) c m ≡ row_quote rs c m
found_other rs r c m k = ap (option_and_then (λ (x : PriceRow). price_of (components_in x m))) (find_other (λ (x : PriceRow). same_code x.code c) rs r k)

-- components in range make a price
pub in_range_some : (r : PriceRow) (m : Market) → row_in_range r ≡ true → is_some (price_of (components_in r m)) ≡ true
in_range_some r DayAhead h = price_some _ ∙ (and_parts _ _ h).0
in_range_some r RealTime h = price_some _ ∙ (and_parts (components_in_range r.day_ahead) _ h).1

-- rows in range have a price of a code in both markets or in neither
pub found_both : (rs : List PriceRow) (c : LocationCode) → list_all row_in_range rs ≡ true → is_some (row_quote rs c DayAhead) ≡ is_some (row_quote rs c RealTime)
found_both rs c h = at (find (λ (r : PriceRow). same_code r.code c) rs) refl
  where
    at : (o : Option PriceRow) → find (λ (r : PriceRow). same_code r.code c) rs ≡ o → is_some (option_and_then (λ (r : PriceRow). price_of (components_in r DayAhead)) o) ≡ is_some (option_and_then (λ (r : PriceRow). price_of (components_in r RealTime)) o)
    at None e = refl
    at (Some r) e = let ranged = found_passes _ row_in_range rs r h e in in_range_some r DayAhead ranged ∙ sym (in_range_some r RealTime ranged)

same_itself : (f : PriceRow) → same_energy f f ≡ true
same_itself f = and_from _ _ (int_eq_self f.day_ahead.energy) (int_eq_self f.real_time.energy)

same_in : (m : Market) (f r : PriceRow) → same_energy f r ≡ true → (components_in r m).energy ≡ (components_in f m).energy
same_in DayAhead f r h = int_eq_true _ _ (and_parts _ _ h).0
same_in RealTime f r h = int_eq_true _ _ (and_parts (int_eq f.day_ahead.energy r.day_ahead.energy) _ h).1

-- a price found in rows with the energy components of f has them too
found_energy : (m : Market) (f : PriceRow) (rs : List PriceRow) (c : LocationCode) (p : Price) → list_all (same_energy f) rs ≡ true → row_quote (f ∷ rs) c m ≡ Some p → p.components.energy ≡ (components_in f m).energy
found_energy m f rs c p h e =
    option_and_then_some _ (find (λ (r : PriceRow). same_code r.code c) (f ∷ rs)) p e
    (λ r found priced. ap (λ (x : Components). x.energy) (price_has _ p priced) ∙ same_in m f r (found_passes (λ (x : PriceRow). same_code x.code c) (same_energy f) (f ∷ rs) r (and_from _ _ (same_itself f) h) found))

-- two prices that rows with one energy component in each market give have it both
pub found_alike : (rs : List PriceRow) (m : Market) (c d : LocationCode) (p q : Price) → has_one_energy rs ≡ true → row_quote rs c m ≡ Some p → row_quote rs d m ≡ Some q → p.components.energy ≡ q.components.energy
found_alike [] m c d p q h e k = let z : ◌≡◌ {A = ℕ} 0 1 = cc in absurd (omega arith)
found_alike (f ∷ rs) m c d p q h e k = found_energy m f rs c p h e ∙ sym (found_energy m f rs d q h k)
