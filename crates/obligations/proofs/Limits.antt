-- No pool and no total weight passes what a sharing rule takes.
use Rattle.std.proofs.Common.{◌≡◌, ℕ, zero, suc, ◌+◌, ◌*◌, ◌<◌, ◌≤◌, Bool, true, false, cond, not, ◌&&◌, List, [], ◌∷◌, map, ℤ, pos, negsuc, ◌+ℤ◌, ◌-ℤ◌, ◌*ℤ◌, neg_ℤ, nat_abs, ◌≤ℤ◌, Some, None, sum, Option, sym, refl, ap, ◌∙◌, subst, mul-le-mul_right, mul-le-mul_left, arith}
use borrow.Author.Differences.{ints}
use Rattle.std.proofs.lemmas.Int.{unsigned_abs-mul}
use Rattle.std.specs.List.{AllByRecursion}
use Rattle.std.proofs.lemmas.List.Sums.{sum_by-cons}
use Rattle.std.proofs.lemmas.Bool.{ltb-true}
use Rattle.std.specs.Ordering.{int_eq}
use Rattle.measures.specs.declared.code.LocationCode.{LocationCode}
use Rattle.prices.specs.Quotes.{Quote}
use Rattle.prices.specs.declared.price.Market.{Market}
use Rattle.prices.specs.declared.price.Market.TheVariants.{DayAhead, RealTime}
use Rattle.prices.specs.declared.price.Price.{Price}
use Rattle.prices.specs.Summed.{abs_add}
use Rattle.prices.specs.Prices.{energy_bound, congestion_bound, loss_bound}
use Rattle.rules.specs.Sharing.{sizes}
use Rattle.rules.specs.Shareable.{shareable_from}
use Rattle.rules.specs.Weights.{none_below}
use Rattle.postings.specs.Kinds.{record_market, bilateral_market, is_load, same_market, same_kind}
use Rattle.postings.specs.declared.bilateral.Bilateral.{Bilateral}
use Rattle.postings.specs.declared.bilateral.BilateralKind.{BilateralKind}
use Rattle.postings.specs.declared.bilateral.BilateralKind.TheVariants.{DayAheadEnergy, RealTimeEnergy, RealTimeLoad}
use Rattle.postings.specs.declared.record.Record.{Record}
use Rattle.obligations.specs.Charges.{participants, positive_part, unrounded, revenue_pool, weight, weights, total_weight}
use Rattle.obligations.specs.Effects.{load_position, day_ahead_position, deviation_position, record_net, record_effect, bilateral_of, bilateral_effect, worth_of, records_worth, bought_worth, sold_worth, worth, charged}
use Rattle.obligations.specs.Exact.{unrounded_pool}
use Rattle.obligations.specs.Limits.{records_total, bilaterals_total, RecordKept, BilateralKept, Kept}
use Rattle.obligations.specs.Positions.{Postings, record_kwh, bilateral_kwh, loads, adjusted_load, locations}
use Rattle.obligations.specs.Sums.{sum_over}
use Rattle.obligations.specs.Terms.{Terms, Component, energy, congestion, loss, component_of, component_in, price_at}
use Rattle.obligations.proofs.Integers.{linear, mul_one, sum_add, sum_neg, sum_same, sum_le, abs_neg, apart_zero, apart_trans}
use Rattle.obligations.proofs.Totals.{all_worth, worth_total, all_map, records_in, sellers_in, unrounded_sum, length_weights, PoolsShareable}
use Rattle.obligations.proofs.Worth.{position_worth}
use Rattle.obligations.proofs.Bounds.{pool_close}

-- ---- a price component is at most 100,000 in size
price_bound : (c : Component) (p : Price) → nat_abs (component_of c p) ≤ 100000
price_bound energy p = energy_bound p
price_bound congestion p = congestion_bound p
price_bound loss p = loss_bound p

component_bound : (c : Component) (o : Option Price) → nat_abs (component_in c o) ≤ 100000
component_bound c None = omega arith
component_bound c (Some p) = price_bound c p

-- what a test lets through of a number that is not below 0 is not below 0
at_least_zero : (c : Bool) (e : ℤ) → pos 0 ≤ℤ e → pos 0 ≤ℤ cond c e (pos 0)
at_least_zero true e h = h
at_least_zero false e h = omega (arith, linear)

-- ---- what all records come to at such prices
worth_bound : {X : Type 0} (location : X → LocationCode) (effect : X → ℤ) (g : LocationCode → ℤ) (limit : X → ℤ) → ((l : LocationCode) → nat_abs (g l) ≤ 100000) → (xs : List X) → AllByRecursion (λ x. pos (nat_abs (effect x)) ≤ℤ limit x) xs →
    pos (nat_abs (all_worth location effect g xs)) ≤ℤ (sum_over limit xs *ℤ pos 100000)
worth_bound location effect g limit small [] a = omega (arith, ints)
worth_bound location effect g limit small (x ∷ xs) a =
    step (nat_abs (effect x *ℤ g (location x) +ℤ all_worth location effect g xs)) (nat_abs (effect x *ℤ g (location x))) (nat_abs (all_worth location effect g xs)) (nat_abs (effect x)) (limit x) (sum_over limit xs)
    (abs_add (effect x *ℤ g (location x)) (all_worth location effect g xs))
    (product (effect x) (g (location x)) (small (location x)))
    a.0 (worth_bound location effect g limit small xs a.1)
  where
    product : (e z : ℤ) → nat_abs z ≤ 100000 → nat_abs (e *ℤ z) ≤ nat_abs e * 100000
    product e z h = omega (arith, unsigned_abs-mul e z, mul-le-mul_left (nat_abs e) h)

    step : (n u v e : ℕ) (m s : ℤ) → n ≤ u + v → u ≤ e * 100000 → pos e ≤ℤ m → pos v ≤ℤ (s *ℤ pos 100000) → pos n ≤ℤ ((m +ℤ s) *ℤ pos 100000)
    step n u v e m s h₁ h₂ h₃ h₄ = omega (arith, ints)

-- a record counts in its own market, with one sign
net_size : (m : Market) (r : Record) → pos 0 ≤ℤ record_kwh r → pos (nat_abs (record_net m r)) ≤ℤ cond (same_market (record_market r.kind) m) (record_kwh r) (pos 0)
net_size m r h = go (same_market (record_market r.kind) m) (is_load r.kind) (record_kwh r) h
  where
    go : (here l : Bool) (q : ℤ) → pos 0 ≤ℤ q → pos (nat_abs (cond (here && not l) q (pos 0) -ℤ cond (here && l) q (pos 0))) ≤ℤ cond here q (pos 0)
    go true true q h = omega (arith, ints)
    go true false q h = omega (arith, ints)
    go false l q h = omega (arith, ints)

module _ (P : ℕ) (b : Postings) (k : Kept P b) where
  quantities_in : AllByRecursion (λ (r : Record). pos 0 ≤ℤ record_kwh r) b.records
  quantities_in = all_map (RecordKept P) (λ r. pos 0 ≤ℤ record_kwh r) (λ r h. h.quantity_in.0) b.records k.records_kept

  bilateral_quantities_in : AllByRecursion (λ (x : Bilateral). pos 0 ≤ℤ bilateral_kwh x) b.bilaterals
  bilateral_quantities_in = all_map (BilateralKept P) (λ x. pos 0 ≤ℤ bilateral_kwh x) (λ x h. h.quantity_in.0) b.bilaterals k.bilaterals_kept

  -- a record's part in a market's total
  abbrev in_total : Market → Record → ℤ
  in_total m r = cond (same_market (record_market r.kind) m) (record_kwh r) (pos 0)

  module _ (g : LocationCode → ℤ) (small : (l : LocationCode) → nat_abs (g l) ≤ 100000) where
    day_ahead_bound : nat_abs (all_worth (λ (r : Record). r.location) (record_effect day_ahead_position) g b.records) ≤ 20000000000000
    day_ahead_bound =
        let h = worth_bound (λ (r : Record). r.location) (record_effect day_ahead_position) g (in_total DayAhead) small b.records (all_map (λ (r : Record). pos 0 ≤ℤ record_kwh r) (λ r. pos (nat_abs (record_net DayAhead r)) ≤ℤ in_total DayAhead r) (λ r q. net_size DayAhead r q) b.records quantities_in) in
        under (nat_abs (all_worth (λ (r : Record). r.location) (record_effect day_ahead_position) g b.records)) (records_total DayAhead b.records) h (k.records_limit DayAhead)
      where
        under : (n : ℕ) (s : ℤ) → pos n ≤ℤ (s *ℤ pos 100000) → s ≤ℤ pos 100000000 → n ≤ 20000000000000
        under n s h l = omega (arith, ints)

    deviation_bound : nat_abs (all_worth (λ (r : Record). r.location) (record_effect deviation_position) g b.records) ≤ 20000000000000
    deviation_bound =
        let h = worth_bound (λ (r : Record). r.location) (record_effect deviation_position) g (λ r. in_total RealTime r +ℤ in_total DayAhead r) small b.records (all_map (λ (r : Record). pos 0 ≤ℤ record_kwh r) (λ r. pos (nat_abs (record_effect deviation_position r)) ≤ℤ (in_total RealTime r +ℤ in_total DayAhead r)) (λ r q. two (record_net RealTime r) (record_net DayAhead r) (in_total RealTime r) (in_total DayAhead r) (net_size RealTime r q) (net_size DayAhead r q)) b.records quantities_in) in
        under (nat_abs (all_worth (λ (r : Record). r.location) (record_effect deviation_position) g b.records)) (sum_over (λ r. in_total RealTime r +ℤ in_total DayAhead r) b.records) (records_total RealTime b.records) (records_total DayAhead b.records) h (sum_add (in_total RealTime) (in_total DayAhead) b.records) (k.records_limit RealTime) (k.records_limit DayAhead)
      where
        two : (u v m n : ℤ) → pos (nat_abs u) ≤ℤ m → pos (nat_abs v) ≤ℤ n → pos (nat_abs (u -ℤ v)) ≤ℤ (m +ℤ n)
        two u v m n h l = omega (arith, ints)

        under : (n : ℕ) (s u v : ℤ) → pos n ≤ℤ (s *ℤ pos 100000) → s ≡ u +ℤ v → u ≤ℤ pos 100000000 → v ≤ℤ pos 100000000 → n ≤ 20000000000000
        under n s u v h e l j = omega (arith, ints)

    charged_bound : (m : Market) → nat_abs (all_worth (λ (r : Record). r.location) (record_effect (charged m)) g b.records) ≤ 20000000000000
    charged_bound DayAhead = day_ahead_bound
    charged_bound RealTime = deviation_bound

  component_total_bound : (q : Quote) (m : Market) (c : Component) → nat_abs (sum_over (λ p. unrounded b q m c p) (participants P)) ≤ 20000000000000
  component_total_bound q m c =
      omega (
        arith,
        ap nat_abs (unrounded_sum P b k q m c),
        abs_neg (all_worth (λ (r : Record). r.location) (record_effect (charged m)) (price_at q m c) b.records),
        charged_bound (price_at q m c) (λ l. component_bound c (q l m)) m,
      )

  exact_pool_bound : (q : Quote) (m : Market) → nat_abs (unrounded_pool b q P m) ≤ 40000000000000
  exact_pool_bound q m =
      omega (
        arith,
        abs_neg (sum_over (λ p. unrounded b q m energy p +ℤ unrounded b q m loss p) (participants P)),
        ap nat_abs (sum_add (λ p. unrounded b q m energy p) (λ p. unrounded b q m loss p) (participants P)),
        abs_add (sum_over (λ p. unrounded b q m energy p) (participants P)) (sum_over (λ p. unrounded b q m loss p) (participants P)),
        component_total_bound q m energy,
        component_total_bound q m loss,
      )

  pub pool_bound : (t : Terms) (m : Market) → P ≤ 64 → nat_abs (revenue_pool b t P m) ≤ 40000000128
  pool_bound t m few =
      omega (
        arith,
        pool_close b t P m,
        exact_pool_bound t.quote m,
        unsigned_abs-mul (pos 1000) (revenue_pool b t P m),
        apart_zero (pos 1000 *ℤ revenue_pool b t P m),
        apart_zero (unrounded_pool b t.quote P m),
        apart_trans (pos 1000 *ℤ revenue_pool b t P m) (unrounded_pool b t.quote P m) (pos 0),
      )

  -- ---- the weights
  abbrev each : LocationCode → ℤ
  each l = pos 1

  -- p's load, and the load that p sold
  abbrev load_of : ℤ → ℤ
  load_of p = records_worth (record_effect load_position) each p b.records

  abbrev sold_of : ℤ → ℤ
  sold_of p = sold_worth (bilateral_of RealTimeLoad) each p b.bilaterals

  load_worth : (p : ℤ) → sum_over (λ l. adjusted_load b p l) (locations b) ≡ worth load_position b each p
  load_worth p = sum_same (λ l. adjusted_load b p l) (λ l. adjusted_load b p l *ℤ pos 1) (λ l. sym (mul_one (adjusted_load b p l))) (locations b) ∙ position_worth load_position b each p

  -- a sum of parts of which none is below 0
  worth_at_least : {X : Type 0} (who : X → ℤ) (location : X → LocationCode) (effect : X → ℤ) (p : ℤ) (xs : List X) → AllByRecursion (λ x. pos 0 ≤ℤ effect x) xs → pos 0 ≤ℤ worth_of who location effect each p xs
  worth_at_least who location effect p [] a = omega (arith, linear)
  worth_at_least who location effect p (x ∷ xs) a = more (cond (int_eq (who x) p) (effect x) (pos 0)) (worth_of who location effect each p xs) (at_least_zero (int_eq (who x) p) (effect x) a.0) (worth_at_least who location effect p xs a.1)
    where
      more : (u v : ℤ) → pos 0 ≤ℤ u → pos 0 ≤ℤ v → pos 0 ≤ℤ (u *ℤ pos 1 +ℤ v)
      more u v h l = omega (arith, linear, mul_one u)

  worth_neg : {X : Type 0} (who : X → ℤ) (location : X → LocationCode) (effect : X → ℤ) (p : ℤ) (xs : List X) → worth_of who location (λ x. neg_ℤ (effect x)) each p xs ≡ neg_ℤ (worth_of who location effect each p xs)
  worth_neg who location effect p xs =
      sum_same (λ x. cond (int_eq (who x) p) (neg_ℤ (effect x)) (pos 0) *ℤ pos 1) (λ x. neg_ℤ (cond (int_eq (who x) p) (effect x) (pos 0) *ℤ pos 1)) (λ x. turned (int_eq (who x) p) (effect x)) xs
      ∙ sum_neg (λ x. cond (int_eq (who x) p) (effect x) (pos 0) *ℤ pos 1) xs
    where
      turned : (c : Bool) (e : ℤ) → cond c (neg_ℤ e) (pos 0) *ℤ pos 1 ≡ neg_ℤ (cond c e (pos 0) *ℤ pos 1)
      turned true e = omega (arith, linear, mul_one e, mul_one (neg_ℤ e))
      turned false e = refl

  loads_at_least : AllByRecursion (λ (r : Record). pos 0 ≤ℤ record_effect load_position r) b.records
  loads_at_least = all_map (λ (r : Record). pos 0 ≤ℤ record_kwh r) (λ r. pos 0 ≤ℤ record_effect load_position r) (λ r h. at_least_zero (loads RealTime r.kind) (record_kwh r) h) b.records quantities_in

  sales_at_least : AllByRecursion (λ (x : Bilateral). pos 0 ≤ℤ bilateral_of RealTimeLoad x) b.bilaterals
  sales_at_least = all_map (λ (x : Bilateral). pos 0 ≤ℤ bilateral_kwh x) (λ x. pos 0 ≤ℤ bilateral_of RealTimeLoad x) (λ x h. at_least_zero (same_kind x.kind RealTimeLoad) (bilateral_kwh x) h) b.bilaterals bilateral_quantities_in

  -- a weight is at most the load and what was sold of it
  weight_under : (p : ℤ) → pos (weight b p) ≤ℤ (load_of p +ℤ sold_of p)
  weight_under p =
      bounded (sum_over (λ l. adjusted_load b p l) (locations b)) (load_of p) (bought_worth (bilateral_effect load_position) each p b.bilaterals) (sold_worth (bilateral_effect load_position) each p b.bilaterals) (bought_worth (bilateral_of RealTimeLoad) each p b.bilaterals) (sold_of p)
      (load_worth p) (worth_neg (λ (x : Bilateral). x.buyer) (λ x. x.location) (bilateral_of RealTimeLoad) p b.bilaterals) (worth_neg (λ (x : Bilateral). x.seller) (λ x. x.location) (bilateral_of RealTimeLoad) p b.bilaterals)
      (worth_at_least (λ (r : Record). r.participant) (λ r. r.location) (record_effect load_position) p b.records loads_at_least)
      (worth_at_least (λ (x : Bilateral). x.buyer) (λ x. x.location) (bilateral_of RealTimeLoad) p b.bilaterals sales_at_least)
      (worth_at_least (λ (x : Bilateral). x.seller) (λ x. x.location) (bilateral_of RealTimeLoad) p b.bilaterals sales_at_least)
    where
      positive_under : (z u : ℤ) → z ≤ℤ u → pos 0 ≤ℤ u → pos (positive_part z) ≤ℤ u
      positive_under (pos n) u h l = h
      positive_under (negsuc n) u h l = l

      bounded : (z l x y x' y' : ℤ) → z ≡ l +ℤ x -ℤ y → x ≡ neg_ℤ x' → y ≡ neg_ℤ y' → pos 0 ≤ℤ l → pos 0 ≤ℤ x' → pos 0 ≤ℤ y' → pos (positive_part z) ≤ℤ (l +ℤ y')
      bounded z l x y x' y' e f g h i j = positive_under z (l +ℤ y') (omega (arith, linear)) (omega (arith, linear))

  under_cond : (a c : Bool) (q : ℤ) → pos 0 ≤ℤ q → (cond (a && c) q (pos 0) *ℤ pos 1) ≤ℤ cond a q (pos 0)
  under_cond true true q h = omega (arith, linear, mul_one q)
  under_cond true false q h = omega (arith, linear)
  under_cond false c q h = omega (arith, linear)

  sale_under : (s : BilateralKind) (q : ℤ) → pos 0 ≤ℤ q → (cond (same_kind s RealTimeLoad) q (pos 0) *ℤ pos 1) ≤ℤ cond (same_market (bilateral_market s) RealTime) q (pos 0)
  sale_under DayAheadEnergy q h = omega (arith, linear)
  sale_under RealTimeEnergy q h = omega (arith, linear)
  sale_under RealTimeLoad q h = omega (arith, linear, mul_one q)

  loads_total : sum_over load_of (participants P) ≤ℤ records_total RealTime b.records
  loads_total =
      rw (worth_total (λ (r : Record). r.participant) (λ r. r.location) (record_effect load_position) each P b.records (records_in P b k each))
      (sum_le (λ r. record_effect load_position r *ℤ pos 1) (in_total RealTime) b.records (all_map (λ (r : Record). pos 0 ≤ℤ record_kwh r) (λ r. (record_effect load_position r *ℤ pos 1) ≤ℤ in_total RealTime r) (λ r h. under_cond (same_market (record_market r.kind) RealTime) (is_load r.kind) (record_kwh r) h) b.records quantities_in))

  sales_total : sum_over sold_of (participants P) ≤ℤ bilaterals_total RealTime b.bilaterals
  sales_total =
      rw (worth_total (λ (x : Bilateral). x.seller) (λ x. x.location) (bilateral_of RealTimeLoad) each P b.bilaterals (sellers_in P b k each))
      (sum_le (λ x. bilateral_of RealTimeLoad x *ℤ pos 1) (λ x. cond (same_market (bilateral_market x.kind) RealTime) (bilateral_kwh x) (pos 0)) b.bilaterals (all_map (λ (x : Bilateral). pos 0 ≤ℤ bilateral_kwh x) (λ x. (bilateral_of RealTimeLoad x *ℤ pos 1) ≤ℤ cond (same_market (bilateral_market x.kind) RealTime) (bilateral_kwh x) (pos 0)) (λ x h. sale_under x.kind (bilateral_kwh x) h) b.bilaterals bilateral_quantities_in))

  total_sum : (ps : List ℤ) → sum_over (λ p. pos (weight b p)) ps ≡ pos (sum (map (weight b) ps))
  total_sum [] = refl
  total_sum (p ∷ ps) = omega (arith, linear, total_sum ps, sum_by-cons (λ x. x) (weight b p) (map (weight b) ps))

  all_under : (ps : List ℤ) → AllByRecursion (λ p. pos (weight b p) ≤ℤ (load_of p +ℤ sold_of p)) ps
  all_under [] = tt
  all_under (p ∷ ps) = (weight_under p, all_under ps)

  pub weight_bound : total_weight b P ≤ 150000000
  weight_bound =
      under (total_weight b P) (sum_over (λ p. pos (weight b p)) (participants P)) (sum_over (λ p. load_of p +ℤ sold_of p) (participants P)) (sum_over load_of (participants P)) (sum_over sold_of (participants P)) (records_total RealTime b.records) (bilaterals_total RealTime b.bilaterals)
      (total_sum (participants P)) (sum_le (λ p. pos (weight b p)) (λ p. load_of p +ℤ sold_of p) (participants P) (all_under (participants P))) (sum_add load_of sold_of (participants P)) loads_total sales_total (k.records_limit RealTime) (k.bilaterals_limit RealTime)
    where
      under : (n : ℕ) (a c u v r x : ℤ) → a ≡ pos n → a ≤ℤ c → c ≡ u +ℤ v → u ≤ℤ r → v ≤ℤ x → r ≤ℤ pos 100000000 → x ≤ℤ pos 50000000 → n ≤ 150000000
      under n a c u v r x h₁ h₂ h₃ h₄ h₅ h₆ h₇ = omega (arith, linear)

-- ---- what a settlement asks of a sharing rule can be asked
sizes_of : (ns : List ℕ) → sizes (map pos ns) ≡ ns
sizes_of [] = refl
sizes_of (n ∷ ns) = ap (λ ms. n ∷ ms) (sizes_of ns)

pub pools_shareable : (P : ℕ) (b : Postings) → Kept P b → P ≤ 64 → (t : Terms) → PoolsShareable b t P
pools_shareable P b k few t m w =
    let size : sum (sizes (map pos (weights b P))) ≡ total_weight b P = ap sum (sizes_of (weights b P)) in
    let some : 0 < total_weight b P = ltb-true 0 (total_weight b P) w in
    shareable_from (revenue_pool b t P m) (map pos (weights b P)) P (record {
      each = sym (length_weights b P);
      some = omega (arith, length_weights b P, at_least P b some);
      few = omega (arith, length_weights b P);
      none_negative = none_below (weights b P);
      positive = omega (arith, size);
      bounded = omega (arith, size, weight_bound P b k);
      product = subst (λ (n : ℕ). nat_abs (revenue_pool b t P m) * n ≤ 9000000000000000000) (sym size) (small (nat_abs (revenue_pool b t P m)) (total_weight b P) (pool_bound P b k t m few) (weight_bound P b k));
    })
  where
    small : (n W : ℕ) → n ≤ 40000000128 → W ≤ 150000000 → n * W ≤ 9000000000000000000
    small n W h l = omega (arith, mul-le-mul_right W h, mul-le-mul_left 40000000128 l)

    at_least : (P : ℕ) (b : Postings) → 0 < total_weight b P → 0 < P
    at_least zero b h = absurd (omega arith)
    at_least (suc P) b h = omega arith
