-- What one bilateral more, or one at another location, does to the component charges.
use Rattle.std.proofs.Common.{◌≡◌, ◌≤◌, cond, List, [], ◌∷◌, ◌++◌, ℤ, pos, ◌+ℤ◌, ◌-ℤ◌, ◌*ℤ◌, neg_ℤ, sym, refl, ap, ◌∙◌, arith}
use lib.IntN.{zero-*ℤ}
use Rattle.std.specs.List.{AllByRecursion}
use Rattle.std.specs.Ordering.{int_eq}
use Rattle.measures.specs.declared.code.LocationCode.{LocationCode}
use Rattle.measures.proofs.Numbers.{int_eq_self, int_eq_apart}
use Rattle.prices.specs.declared.price.Market.{Market}
use Rattle.postings.specs.declared.bilateral.Bilateral.{Bilateral}
use Rattle.postings.specs.declared.record.Record.{Record}
use Rattle.obligations.specs.Charges.{unrounded, charge, charged_position}
use Rattle.obligations.specs.Comparisons.{OneMore, moved_to, Moved, Absent, SameTerms}
use Rattle.obligations.specs.Effects.{Position, load_position, day_ahead_position, real_time_position, deviation_position, record_effect, bilateral_effect, worth_of, records_worth, bought_worth, sold_worth, worth, charged}
use Rattle.obligations.specs.Positions.{Postings, locations}
use Rattle.obligations.specs.Sums.{apart}
use Rattle.obligations.specs.Terms.{Terms, Component, price_at, component_in}
use Rattle.obligations.proofs.Integers.{linear, mul_add, sum_append, sum_same, apart_same, apart_sym, apart_trans, apart_add, apart_mul_left}
use Rattle.obligations.proofs.Worth.{unrounded_is}

abbrev postings_of : List Record → List Bilateral → Postings
postings_of rs xs = record { records = rs; bilaterals = xs }

-- ---- one element's part
abbrev part : ℤ → ℤ → ℤ → ℤ → ℤ
part who p effect g = cond (int_eq who p) effect (pos 0) *ℤ g

part_own : (p effect g : ℤ) → part p p effect g ≡ effect *ℤ g
part_own p effect g = ap (λ t. cond t effect (pos 0) *ℤ g) (int_eq_self p)

part_none : (who p effect g : ℤ) → ¬ (who ≡ p) → part who p effect g ≡ pos 0
part_none who p effect g n = ap (λ t. cond t effect (pos 0) *ℤ g) (int_eq_apart who p n) ∙ zero-*ℤ g

worth_insert : {X : Type 0} (who : X → ℤ) (location : X → LocationCode) (effect : X → ℤ) (g : LocationCode → ℤ) (p : ℤ) (xs : List X) (x : X) (ys : List X) →
    worth_of who location effect g p (xs ++ x ∷ ys) ≡ worth_of who location effect g p (xs ++ ys) +ℤ part (who x) p (effect x) (g (location x))
worth_insert who location effect g p xs x ys =
    let f : _ → ℤ = λ y. cond (int_eq (who y) p) (effect y) (pos 0) *ℤ g (location y) in
    omega (arith, linear, sum_append f xs (x ∷ ys), sum_append f xs ys)

worth_none : {X : Type 0} (who : X → ℤ) (location : X → LocationCode) (effect : X → ℤ) (g : LocationCode → ℤ) (p : ℤ) (xs : List X) → AllByRecursion (λ x. ¬ (who x ≡ p)) xs → worth_of who location effect g p xs ≡ pos 0
worth_none who location effect g p [] a = refl
worth_none who location effect g p (x ∷ xs) a = omega (arith, linear, part_none (who x) p (effect x) (g (location x)) a.0, worth_none who location effect g p xs a.1)

-- ---- a bilateral's parts of a position's worth: what it adds for its buyer, less what it takes from its seller
abbrev parts : Position → (LocationCode → ℤ) → Bilateral → ℤ → ℤ
parts s g x p = part x.buyer p (bilateral_effect s x) (g x.location) -ℤ part x.seller p (bilateral_effect s x) (g x.location)

module _ (s : Position) (g : LocationCode → ℤ) where
  more_worth : (rs : List Record) (xs : List Bilateral) (x : Bilateral) (ys : List Bilateral) (p : ℤ) → worth s (postings_of rs (xs ++ x ∷ ys)) g p ≡ worth s (postings_of rs (xs ++ ys)) g p +ℤ parts s g x p
  more_worth rs xs x ys p =
      regroup (records_worth (record_effect s) g p rs) (bought_worth (bilateral_effect s) g p (xs ++ x ∷ ys)) (sold_worth (bilateral_effect s) g p (xs ++ x ∷ ys)) (bought_worth (bilateral_effect s) g p (xs ++ ys)) (sold_worth (bilateral_effect s) g p (xs ++ ys))
      (part x.buyer p (bilateral_effect s x) (g x.location)) (part x.seller p (bilateral_effect s x) (g x.location))
      (worth_insert (λ (y : Bilateral). y.buyer) (λ y. y.location) (bilateral_effect s) g p xs x ys) (worth_insert (λ (y : Bilateral). y.seller) (λ y. y.location) (bilateral_effect s) g p xs x ys)
    where
      regroup : (r b d b' d' u v : ℤ) → b ≡ b' +ℤ u → d ≡ d' +ℤ v → r +ℤ b -ℤ d ≡ (r +ℤ b' -ℤ d') +ℤ (u -ℤ v)
      regroup r b d b' d' u v e f = omega (arith, linear)

  -- nothing for third parties
  third_parts : (x : Bilateral) (p : ℤ) → ¬ (x.buyer ≡ p) → ¬ (x.seller ≡ p) → parts s g x p ≡ pos 0
  third_parts x p n k = omega (arith, linear, part_none x.buyer p (bilateral_effect s x) (g x.location) n, part_none x.seller p (bilateral_effect s x) (g x.location) k)

  -- the seller's is the buyer's with the other sign
  opposite_parts : (x : Bilateral) → ¬ (x.buyer ≡ x.seller) → parts s g x x.seller ≡ neg_ℤ (parts s g x x.buyer)
  opposite_parts x n =
      omega (
        arith,
        linear,
        part_own x.buyer (bilateral_effect s x) (g x.location),
        part_own x.seller (bilateral_effect s x) (g x.location),
        part_none x.buyer x.seller (bilateral_effect s x) (g x.location) n,
        part_none x.seller x.buyer (bilateral_effect s x) (g x.location) (λ e. n (sym e)),
      )

  absent_worth : (b : Postings) (p : ℤ) → Absent p b → worth s b g p ≡ pos 0
  absent_worth b p a =
      none (records_worth (record_effect s) g p b.records) (bought_worth (bilateral_effect s) g p b.bilaterals) (sold_worth (bilateral_effect s) g p b.bilaterals)
      (worth_none (λ (r : Record). r.participant) (λ r. r.location) (record_effect s) g p b.records a.in_no_record)
      (worth_none (λ (x : Bilateral). x.buyer) (λ x. x.location) (bilateral_effect s) g p b.bilaterals a.never_buyer)
      (worth_none (λ (x : Bilateral). x.seller) (λ x. x.location) (bilateral_effect s) g p b.bilaterals a.never_seller)
    where
      none : (u v w : ℤ) → u ≡ pos 0 → v ≡ pos 0 → w ≡ pos 0 → u +ℤ v -ℤ w ≡ pos 0
      none u v w e f h = omega (arith, linear)

-- ---- rounding
-- two amounts with the same sum as two others stay within 3 cents of them, rounded
round_pair : (t : Terms) (u v u' v' : ℤ) → u' +ℤ v' ≡ u +ℤ v → apart (t.rounds u' +ℤ t.rounds v') (t.rounds u +ℤ t.rounds v) ≤ 3
round_pair t u v u' v' e =
    let k = pos 1000 in
    let r : ℤ → ℤ = t.rounds in
    let second : k *ℤ (r u' +ℤ r v') ≡ k *ℤ r u' +ℤ k *ℤ r v' = mul_add k (r u') (r v') in
    let first : k *ℤ (r u +ℤ r v) ≡ k *ℤ r u +ℤ k *ℤ r v = mul_add k (r u) (r v) in
    omega (
      arith,
      apart_mul_left k (r u' +ℤ r v') (r u +ℤ r v),
      apart_trans (k *ℤ (r u' +ℤ r v')) (u' +ℤ v') (k *ℤ (r u +ℤ r v)),
      apart_trans (u' +ℤ v') (u +ℤ v) (k *ℤ (r u +ℤ r v)),
      apart_same (u' +ℤ v') (u +ℤ v) e,
      ap (λ z. apart z (u' +ℤ v')) second,
      apart_add (k *ℤ r u') u' (k *ℤ r v') v',
      ap (λ z. apart (u +ℤ v) z) first,
      apart_sym (u +ℤ v) (k *ℤ r u +ℤ k *ℤ r v),
      apart_add (k *ℤ r u) u (k *ℤ r v) v,
      t.near u,
      t.near v,
      t.near u',
      t.near v',
    )

-- ---- one bilateral more
module _ (x : Bilateral) (b b' : Postings) (o : OneMore x b b') (t : Terms) (m : Market) (c : Component) where
  abbrev without_x : ℤ → ℤ
  without_x p = unrounded b t.quote m c p

  abbrev with_x : ℤ → ℤ
  with_x p = unrounded b' t.quote m c p

  abbrev adds : ℤ → ℤ
  adds p = parts (charged m) (price_at t.quote m c) x p

  same_postings : (rs rs' : List Record) (xs xs' : List Bilateral) → rs ≡ rs' → xs ≡ xs' → postings_of rs xs ≡ postings_of rs' xs'
  same_postings rs rs' xs xs' e f = cc

  first_worth : (p : ℤ) → without_x p ≡ neg_ℤ (worth (charged m) (postings_of b.records (o.before ++ o.after)) (price_at t.quote m c) p)
  first_worth p = unrounded_is b t.quote m c p ∙ ap (λ (d : Postings). neg_ℤ (worth (charged m) d (price_at t.quote m c) p)) (same_postings b.records b.records b.bilaterals (o.before ++ o.after) refl o.first_has)

  second_worth : (p : ℤ) → with_x p ≡ neg_ℤ (worth (charged m) (postings_of b.records (o.before ++ x ∷ o.after)) (price_at t.quote m c) p)
  second_worth p = unrounded_is b' t.quote m c p ∙ ap (λ (d : Postings). neg_ℤ (worth (charged m) d (price_at t.quote m c) p)) (same_postings b'.records b.records b'.bilaterals (o.before ++ x ∷ o.after) o.records_are o.second_has)

  with_is : (p : ℤ) → with_x p ≡ without_x p -ℤ adds p
  with_is p =
      less (with_x p) (without_x p) (worth (charged m) (postings_of b.records (o.before ++ x ∷ o.after)) (price_at t.quote m c) p) (worth (charged m) (postings_of b.records (o.before ++ o.after)) (price_at t.quote m c) p) (adds p)
      (second_worth p) (first_worth p) (more_worth (charged m) (price_at t.quote m c) b.records o.before x o.after p)
    where
      less : (e e' w w' a : ℤ) → e ≡ neg_ℤ w → e' ≡ neg_ℤ w' → w ≡ w' +ℤ a → e ≡ e' -ℤ a
      less e e' w w' a f h i = omega (arith, linear)

  pub third_parties_stay : (p : ℤ) → ¬ (x.buyer ≡ p) → ¬ (x.seller ≡ p) → charge b' t m c p ≡ charge b t m c p
  third_parties_stay p n k = ap t.rounds (stays (with_x p) (without_x p) (adds p) (with_is p) (third_parts (charged m) (price_at t.quote m c) x p n k))
    where
      stays : (e e' a : ℤ) → e ≡ e' -ℤ a → a ≡ pos 0 → e ≡ e'
      stays e e' a f h = omega (arith, linear)

  pub pair_within_3 : ¬ (x.buyer ≡ x.seller) → apart (charge b' t m c x.buyer +ℤ charge b' t m c x.seller) (charge b t m c x.buyer +ℤ charge b t m c x.seller) ≤ 3
  pair_within_3 n =
      round_pair t (without_x x.buyer) (without_x x.seller) (with_x x.buyer) (with_x x.seller)
      (both (without_x x.buyer) (without_x x.seller) (with_x x.buyer) (with_x x.seller) (adds x.buyer) (adds x.seller) (with_is x.buyer) (with_is x.seller) (opposite_parts (charged m) (price_at t.quote m c) x n))
    where
      both : (u v u' v' a d : ℤ) → u' ≡ u -ℤ a → v' ≡ v -ℤ d → d ≡ neg_ℤ a → u' +ℤ v' ≡ u +ℤ v
      both u v u' v' a d e f h = omega (arith, linear)

  absent_none : (p : ℤ) → Absent p b → without_x p ≡ pos 0
  absent_none p a = unrounded_is b t.quote m c p ∙ ap neg_ℤ (absent_worth (charged m) (price_at t.quote m c) b p a)

  pub pair_cancels : ¬ (x.buyer ≡ x.seller) → Absent x.buyer b → Absent x.seller b → charge b' t m c x.buyer +ℤ charge b' t m c x.seller ≡ pos 0
  pair_cancels n a k =
      cancels (charge b' t m c x.buyer) (charge b' t m c x.seller)
      (ap t.rounds (opposite (with_x x.buyer) (with_x x.seller) (without_x x.buyer) (without_x x.seller) (adds x.buyer) (adds x.seller)
      (with_is x.buyer) (with_is x.seller) (absent_none x.buyer a) (absent_none x.seller k) (opposite_parts (charged m) (price_at t.quote m c) x n))
      ∙ t.odd (with_x x.buyer))
    where
      opposite : (u v e f i j : ℤ) → u ≡ e -ℤ i → v ≡ f -ℤ j → e ≡ pos 0 → f ≡ pos 0 → j ≡ neg_ℤ i → v ≡ neg_ℤ u
      opposite u v e f i j h₁ h₂ h₃ h₄ h₅ = omega (arith, linear)

      cancels : (u v : ℤ) → v ≡ neg_ℤ u → u +ℤ v ≡ pos 0
      cancels u v e = omega (arith, linear)

-- ---- a bilateral at another location
-- the hour without it
abbrev rest_of : List Record → List Bilateral → List Bilateral → Postings
rest_of rs xs ys = postings_of rs (xs ++ ys)

-- its effects are the same there
moved_effect : (s : Position) (l : LocationCode) (x : Bilateral) → bilateral_effect s (moved_to l x) ≡ bilateral_effect s x
moved_effect load_position l x = refl
moved_effect day_ahead_position l x = refl
moved_effect real_time_position l x = refl
moved_effect deviation_position l x = refl

pub moved_stays : (x : Bilateral) (l : LocationCode) (b b' : Postings) → Moved x l b b' → (t : Terms) (m : Market) (c : Component) → price_at t.quote m c x.location ≡ price_at t.quote m c l → (p : ℤ) → charge b' t m c p ≡ charge b t m c p
moved_stays x l b b' v t m c same p =
    let rest = rest_of b.records v.before v.after in
    let here : OneMore x rest b = record { before = v.before; after = v.after; records_are = refl; first_has = refl; second_has = v.first_has } in
    let there : OneMore (moved_to l x) rest b' = record { before = v.before; after = v.after; records_are = v.records_are; first_has = refl; second_has = v.second_has } in
    let parts_are : parts (charged m) (price_at t.quote m c) (moved_to l x) p ≡ parts (charged m) (price_at t.quote m c) x p =
    ap (λ e. part x.buyer p e (price_at t.quote m c l) -ℤ part x.seller p e (price_at t.quote m c l)) (moved_effect (charged m) l x)
    ∙ ap (λ z. part x.buyer p (bilateral_effect (charged m) x) z -ℤ part x.seller p (bilateral_effect (charged m) x) z) (sym same) in
    ap t.rounds (with_is (moved_to l x) rest b' there t m c p ∙ ap (λ z. unrounded rest t.quote m c p -ℤ z) parts_are ∙ sym (with_is x rest b here t m c p))

-- ---- a charge depends on prices and rounding alone
pub same_charge : (t t' : Terms) → SameTerms t t' → (b : Postings) (m : Market) (c : Component) (p : ℤ) → charge b t' m c p ≡ charge b t m c p
same_charge t t' s b m c p =
    s.rounding_is (unrounded b t'.quote m c p)
    ∙ ap (λ z. t.rounds (neg_ℤ z))
    (sum_same (λ l. charged_position m b p l *ℤ price_at t'.quote m c l) (λ l. charged_position m b p l *ℤ price_at t.quote m c l) (λ l. ap (λ o. charged_position m b p l *ℤ component_in c o) (s.prices_are l m)) (locations b))
