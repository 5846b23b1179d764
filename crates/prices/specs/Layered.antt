-- Groups laid over a source: the look-up, one group more, and what each price has from below.
use Rattle.std.specs.Prelude.{◌≡◌, ℕ, ◌≤◌, Bool, true, false, cond, ◌&&◌, List, [], ◌∷◌, ◌++◌, length, ℤ, is_some, Some, None, Option, unsigned_abs, refl}
use Rattle.std.proofs.Common.{sym, ◌∙◌, ap, ap₂, arith}
use Rattle.std.proofs.lemmas.Bool.{and_from, and_parts, le-leb}
use Rattle.std.proofs.lemmas.List.Sums.{fold-append}
use Rattle.measures.specs.Codes.{same_code}
use Rattle.measures.specs.declared.code.LocationCode.{LocationCode}
use Rattle.prices.specs.Layers.{laid_over, members_of}
use Rattle.prices.specs.Means.{all_priced, component, congestion_of, energy_of, first_energy, group_components, group_price, loss_of, weighted_mean, weighted_sum}
use Rattle.prices.specs.Members.{total_weight, weights_in_range}
use Rattle.prices.specs.Quotes.{Quote}
use Rattle.prices.specs.Priced.{price_of}
use Rattle.prices.specs.declared.group.Group.{Group}
use Rattle.prices.specs.declared.member.Member.{Member}
use Rattle.prices.specs.declared.price.Market.{Market}
use Rattle.prices.specs.declared.price.Market.TheVariants.{DayAhead, RealTime}
use Rattle.prices.specs.declared.price.Price.{Price}
use Rattle.prices.specs.declared.row.Components.{Components}
use Rattle.prices.specs.Guarded.{guard_passed, guarded}
use Rattle.prices.specs.Prices.{congestion_bound, energy_bound, loss_bound, price_has, price_some}
use Rattle.prices.specs.Summed.{nearest_bound, total_positive, weighted_bound}

-- what is said after one group
abbrev pub says : Quote → LocationCode → Market → Option Price → Group → Option Price
says q c m said g = cond (same_code g.code c) (group_price q m (members_of g)) said

-- one group more speaks last
pub laid_push : (q : Quote) (c : LocationCode) (m : Market) (said : Option Price) (gs : List Group) (g : Group) → laid_over q c m said (gs ++ g ∷ []) ≡ says q c m (laid_over q c m said gs) g
laid_push q c m said gs g = fold-append _ said gs (g ∷ [])

-- the components of a group's price are in range
first_bound : (q : Quote) (m : Market) (xs : List Member) → unsigned_abs (first_energy q m xs) ≤ 100000
first_bound q m [] = omega arith
first_bound q m (x ∷ xs) = at (q x.code m)
  where
    at : (o : Option Price) → unsigned_abs (component energy_of o) ≤ 100000
    at (Some p) = energy_bound p
    at None = omega arith

mean_bound : (part : Price → ℤ) → ((p : Price) → unsigned_abs (part p) ≤ 100000) → (q : Quote) (m : Market) (xs : List Member) → 1 ≤ length xs → weights_in_range xs ≡ true → unsigned_abs (weighted_mean part q m xs) ≤ 100000
mean_bound part b q m xs h k = nearest_bound (weighted_sum part q m xs) (total_weight xs) (total_positive xs h k) (weighted_bound part b q m xs)

-- so they make a price
pub components_some : (q : Quote) (m : Market) (xs : List Member) → 1 ≤ length xs → weights_in_range xs ≡ true → is_some (price_of (group_components q xs m)) ≡ true
components_some q m xs h k =
    price_some _
    ∙ and_from _ _ (le-leb _ 100000 (first_bound q m xs))
    (and_from _ _ (le-leb _ 100000 (mean_bound congestion_of congestion_bound q m xs h k)) (le-leb _ 100000 (mean_bound loss_of loss_bound q m xs h k)))

some_guard : {X : Type 0} (b : Bool) (o : Option X) → is_some o ≡ true → is_some (cond b o None) ≡ b
some_guard true o e = e
some_guard false o e = refl

-- a group has a price exactly where all its members have one
group_some : (q : Quote) (m : Market) (xs : List Member) → 1 ≤ length xs → weights_in_range xs ≡ true → is_some (group_price q m xs) ≡ all_priced q m xs
group_some q m xs h k = some_guard (all_priced q m xs) _ (components_some q m xs h k)

-- the members have prices in both markets or not
pub priced_both : (q : Quote) → ((c : LocationCode) → is_some (q c DayAhead) ≡ is_some (q c RealTime)) → (xs : List Member) → all_priced q DayAhead xs ≡ all_priced q RealTime xs
priced_both q both [] = refl
priced_both q both (x ∷ xs) = ap₂ ◌&&◌ (both x.code) (priced_both q both xs)

group_both : (q : Quote) → ((c : LocationCode) → is_some (q c DayAhead) ≡ is_some (q c RealTime)) → (g : Group) → is_some (group_price q DayAhead (members_of g)) ≡ is_some (group_price q RealTime (members_of g))
group_both q both g =
    group_some q DayAhead (members_of g) g.members.some g.members.weighed ∙ (priced_both q both (members_of g) ∙ sym (group_some q RealTime (members_of g) g.members.some g.members.weighed))

-- a code has a price over the groups in both markets or in neither
pub laid_both : (q : Quote) → ((c : LocationCode) → is_some (q c DayAhead) ≡ is_some (q c RealTime)) → (c : LocationCode) (o u : Option Price) (gs : List Group) → is_some o ≡ is_some u → is_some (laid_over q c DayAhead o gs) ≡ is_some (laid_over q c RealTime u gs)
laid_both q both c o u [] e = e
laid_both q both c o u (g ∷ gs) e = laid_both q both c (says q c DayAhead o g) (says q c RealTime u g) gs (next (same_code g.code c))
  where
    next : (b : Bool) → is_some (cond b (group_price q DayAhead (members_of g)) o) ≡ is_some (cond b (group_price q RealTime (members_of g)) u)
    next true = group_both q both g
    next false = e

-- some price below has the energy component of p
pub record FromBelow (q : Quote) (m : Market) (p : Price) : Type 0 where
  pub at : LocationCode
  pub there : Price
  pub said : q at m ≡ Some there
  pub same : p.components.energy ≡ there.components.energy

group_below : (q : Quote) (m : Market) (xs : List Member) (p : Price) → 1 ≤ length xs → group_price q m xs ≡ Some p → FromBelow q m p
group_below q m [] p h e = absurd (omega arith)
group_below q m (x ∷ xs) p h e = first (q x.code m) refl (and_parts _ _ (guard_passed (all_priced q m (x ∷ xs)) _ p e)).0
  where
    first : (o : Option Price) → q x.code m ≡ o → is_some o ≡ true → FromBelow q m p
    first (Some there) f k = record { at = x.code; there = there; said = f; same = ap (λ (y : Components). y.energy) (price_has _ p (guarded (all_priced q m (x ∷ xs)) _ p e)) ∙ ap (component energy_of) f }
    first None f k = let z : ◌≡◌ {A = ℕ} 0 1 = cc in absurd (omega arith)

-- so each price over the groups has an energy component from below
pub laid_below : (q : Quote) (c : LocationCode) (m : Market) (p : Price) (said : Option Price) (gs : List Group) → (said ≡ Some p → FromBelow q m p) → laid_over q c m said gs ≡ Some p → FromBelow q m p
laid_below q c m p said [] k e = k e
laid_below q c m p said (g ∷ gs) k e = laid_below q c m p (says q c m said g) gs (next (same_code g.code c)) e
  where
    next : (b : Bool) → cond b (group_price q m (members_of g)) said ≡ Some p → FromBelow q m p
    next true f = group_below q m (members_of g) p g.members.some f
    next false f = k f
