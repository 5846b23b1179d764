-- How far bills and fund lie from their exact values.
use Rattle.std.proofs.Common.{◌≡◌, ℕ, zero, suc, ◌+◌, ◌-◌, ◌*◌, ◌<◌, ◌≤◌, Bool, true, false, cond, List, [], ◌∷◌, map, length, get_or, ℤ, pos, negsuc, ◌+ℤ◌, ◌*ℤ◌, neg_ℤ, nat_abs, sum, sym, refl, ap, ◌∙◌, subst, mul-le-mul_right, mul-le-mul_left, arith}
use lib.IntN.{*ℤ_comm, +ℤ_assoc, +ℤ_idr}
use borrow.Author.Differences.{ints}
use Rattle.std.proofs.lemmas.List.{length-map, get_or-map}
use Rattle.std.proofs.lemmas.List.Sums.{get_or-le-sum_by, sum_by-cons}
use Rattle.std.proofs.lemmas.Bool.{ltb-true}
use Rattle.prices.specs.declared.price.Market.{Market}
use Rattle.prices.specs.declared.price.Market.TheVariants.{DayAhead, RealTime}
use Rattle.rules.specs.Rounding.{Near}
use Rattle.rules.specs.Sharing.{total as total_of}
use Rattle.obligations.specs.Charges.{from, participants, unrounded, charge, revenue_pool, weight, weights, total_weight, anybody_weighs, revenue_share, bill, fund}
use Rattle.obligations.specs.Exact.{WithinCents, unrounded_charges, unrounded_pool, exact_bill, congestion_value, whole}
use Rattle.obligations.specs.Limits.{Between, Kept}
use Rattle.obligations.specs.Positions.{Postings, records_alone}
use Rattle.obligations.specs.Sums.{sum_over, apart}
use Rattle.obligations.specs.Terms.{Terms, Component, energy, congestion, loss}
use Rattle.obligations.proofs.Integers.{linear, mul_add, add_mul, mul_neg, mul_assoc, mul_one, sum_add, apart_same, apart_trans, apart_add, apart_neg, apart_mul_left, apart_mul_right}
use Rattle.obligations.proofs.Totals.{length_from, length_weights, unrounded_alone, PoolsShareable, fair_shares}

-- ---- cents a at most k thousandths from e
abbrev pub Close : ℕ → ℤ → ℤ → Type 0
Close k a e = apart (pos 1000 *ℤ a) e ≤ k

close_add : (k j : ℕ) (a e b f : ℤ) → Close k a e → Close j b f → Close (k + j) (a +ℤ b) (e +ℤ f)
close_add k j a e b f p q = omega (arith, ap (λ z. apart z (e +ℤ f)) (mul_add (pos 1000) a b), apart_add (pos 1000 *ℤ a) e (pos 1000 *ℤ b) f)

close_neg : (k : ℕ) (a e : ℤ) → Close k a e → Close k (neg_ℤ a) (neg_ℤ e)
close_neg k a e p = omega (arith, ap (λ z. apart z (neg_ℤ e)) (mul_neg (pos 1000) a), apart_neg (pos 1000 *ℤ a) e)

close_sum : {X : Type 0} (k : ℕ) (f g : X → ℤ) → ((x : X) → Close k (f x) (g x)) → (xs : List X) → Close (k * length xs) (sum_over f xs) (sum_over g xs)
close_sum k f g e [] = omega (arith, apart_same (pos 0) (pos 0) refl)
close_sum k f g e (x ∷ xs) = omega (arith, close_add k (k * length xs) (f x) (g x) (sum_over f xs) (sum_over g xs) (e x) (close_sum k f g e xs))

-- ---- charges and pools
module _ (b : Postings) (t : Terms) where
  charge_close : (m : Market) (c : Component) (p : ℤ) → Close 999 (charge b t m c p) (unrounded b t.quote m c p)
  charge_close m c p = omega (arith, t.near (unrounded b t.quote m c p))

  two_close : (m n : Market) (c d : Component) (p : ℤ) → Close 1998 (charge b t m c p +ℤ charge b t n d p) (unrounded b t.quote m c p +ℤ unrounded b t.quote n d p)
  two_close m n c d p = close_add 999 999 (charge b t m c p) (unrounded b t.quote m c p) (charge b t n d p) (unrounded b t.quote n d p) (charge_close m c p) (charge_close n d p)

  pub pool_close : (P : ℕ) (m : Market) → Close (1998 * P) (revenue_pool b t P m) (unrounded_pool b t.quote P m)
  pool_close P m =
      subst (λ (n : ℕ). Close (1998 * n) (revenue_pool b t P m) (unrounded_pool b t.quote P m)) (length_from 1 P)
      (close_neg (1998 * length (participants P)) (sum_over (λ p. charge b t m energy p +ℤ charge b t m loss p) (participants P)) (sum_over (λ p. unrounded b t.quote m energy p +ℤ unrounded b t.quote m loss p) (participants P))
      (close_sum 1998 (λ p. charge b t m energy p +ℤ charge b t m loss p) (λ p. unrounded b t.quote m energy p +ℤ unrounded b t.quote m loss p) (two_close m m energy loss) (participants P)))

  abbrev six_charges : ℤ → ℤ
  six_charges p = charge b t DayAhead energy p +ℤ charge b t DayAhead congestion p +ℤ charge b t DayAhead loss p +ℤ charge b t RealTime energy p +ℤ charge b t RealTime congestion p +ℤ charge b t RealTime loss p

  six_close : (p : ℤ) → Close 5994 (six_charges p) (unrounded_charges b t.quote p)
  six_close p = six (λ m c. charge b t m c p) (λ m c. unrounded b t.quote m c p) (λ m c. charge_close m c p)
    where
      six : (a e : Market → Component → ℤ) → ((m : Market) (c : Component) → Close 999 (a m c) (e m c)) →
          Close 5994 (a DayAhead energy +ℤ a DayAhead congestion +ℤ a DayAhead loss +ℤ a RealTime energy +ℤ a RealTime congestion +ℤ a RealTime loss) (e DayAhead energy +ℤ e DayAhead congestion +ℤ e DayAhead loss +ℤ e RealTime energy +ℤ e RealTime congestion +ℤ e RealTime loss)
      six a e h =
          close_add 4995 999 (a DayAhead energy +ℤ a DayAhead congestion +ℤ a DayAhead loss +ℤ a RealTime energy +ℤ a RealTime congestion) (e DayAhead energy +ℤ e DayAhead congestion +ℤ e DayAhead loss +ℤ e RealTime energy +ℤ e RealTime congestion) (a RealTime loss) (e RealTime loss)
          (close_add 3996 999 (a DayAhead energy +ℤ a DayAhead congestion +ℤ a DayAhead loss +ℤ a RealTime energy) (e DayAhead energy +ℤ e DayAhead congestion +ℤ e DayAhead loss +ℤ e RealTime energy) (a RealTime congestion) (e RealTime congestion)
          (close_add 2997 999 (a DayAhead energy +ℤ a DayAhead congestion +ℤ a DayAhead loss) (e DayAhead energy +ℤ e DayAhead congestion +ℤ e DayAhead loss) (a RealTime energy) (e RealTime energy)
          (close_add 1998 999 (a DayAhead energy +ℤ a DayAhead congestion) (e DayAhead energy +ℤ e DayAhead congestion) (a DayAhead loss) (e DayAhead loss)
          (close_add 999 999 (a DayAhead energy) (e DayAhead energy) (a DayAhead congestion) (e DayAhead congestion) (h DayAhead energy) (h DayAhead congestion)) (h DayAhead loss)) (h RealTime energy)) (h RealTime congestion)) (h RealTime loss)

-- ---- the fund
one_times : (z : ℤ) → pos 1000 *ℤ (pos 1 *ℤ z) ≡ pos 1000 *ℤ z
one_times z = ap (λ y. pos 1000 *ℤ y) (*ℤ_comm (pos 1) z ∙ mul_one z)

module _ (b : Postings) (t : Terms) (P : ℕ) where
  fund_weighed : anybody_weighs b P ≡ true → fund b t P ≡ sum_over (λ p. charge b t DayAhead congestion p +ℤ charge b t RealTime congestion p) (participants P)
  fund_weighed w = rw w (+ℤ_idr (sum_over (λ p. charge b t DayAhead congestion p +ℤ charge b t RealTime congestion p) (participants P)))

  value_is : Kept P b → sum_over (λ p. unrounded b t.quote DayAhead congestion p +ℤ unrounded b t.quote RealTime congestion p) (participants P) ≡ congestion_value b t.quote P
  value_is k =
      sum_add (λ p. unrounded b t.quote DayAhead congestion p) (λ p. unrounded b t.quote RealTime congestion p) (participants P)
      ∙ cc (unrounded_alone P b k t.quote DayAhead congestion, unrounded_alone P b k t.quote RealTime congestion)
      ∙ sym (sum_add (λ p. unrounded (records_alone b) t.quote DayAhead congestion p) (λ p. unrounded (records_alone b) t.quote RealTime congestion p) (participants P))

  pub fund_is_near : Kept P b → 1 ≤ P → anybody_weighs b P ≡ true → WithinCents (2 * P) (fund b t P) (whole (congestion_value b t.quote P))
  fund_is_near k some w =
      let f : ℤ → ℤ = λ p. charge b t DayAhead congestion p +ℤ charge b t RealTime congestion p in
      let g : ℤ → ℤ = λ p. unrounded b t.quote DayAhead congestion p +ℤ unrounded b t.quote RealTime congestion p in
      below (apart (pos 1000 *ℤ sum_over f (participants P)) (sum_over g (participants P))) (apart (pos 1000 *ℤ (pos 1 *ℤ fund b t P)) (congestion_value b t.quote P)) (length (participants P))
      (close_sum 1998 f g (two_close b t DayAhead RealTime congestion congestion) (participants P)) (cc (fund_weighed w, value_is k, one_times (fund b t P))) (length_from 1 P) some
    where
      below : (n n' j : ℕ) → n ≤ 1998 * j → n ≡ n' → j ≡ P → 1 ≤ P → n' < 1000 * (1 * (2 * P))
      below n n' j a e h s = omega arith

-- ---- a participant's weight and share
get_or_from : (k n i : ℕ) (d : ℤ) → i < n → get_or (from k n) i d ≡ pos (k + i)
get_or_from k zero i d h = absurd (omega arith)
get_or_from k (suc n) zero d h = let e : k ≡ k + 0 = omega arith in ap pos e
get_or_from k (suc n) (suc i) d h = let e : suc k + i ≡ k + suc i = omega arith in get_or_from (suc k) n i d (omega arith) ∙ ap pos e

-- a participant's place, counted from 0
place_in : (P : ℕ) (p : ℤ) → Between (pos 1) (pos P) p → (nat_abs p - 1 < P) × (pos (1 + (nat_abs p - 1)) ≡ p)
place_in P (pos n) h = let low : 1 ≤ n = omega (arith, ints, h.0) in let high : n ≤ P = omega (arith, ints, h.1) in let e : 1 + (n - 1) ≡ n = omega arith in (omega arith, ap pos e)
place_in P (negsuc n) h = absurd (omega (arith, ints, h.0))

module _ (b : Postings) (P : ℕ) (p : ℤ) (h : Between (pos 1) (pos P) p) where
  pub weight_at : get_or (map pos (weights b P)) (nat_abs p - 1) (pos 0) ≡ pos (weight b p)
  weight_at =
      let i = place_in P p h in
      get_or-map pos (weights b P) (nat_abs p - 1) 0 (pos 0) (omega (arith, length-map (participants P) (weight b), length_from 1 P, i.0))
      ∙ ap pos (get_or-map (weight b) (participants P) (nat_abs p - 1) (pos 0) 0 (omega (arith, length_from 1 P, i.0)) ∙ ap (weight b) (get_or_from 1 P (nat_abs p - 1) (pos 0) i.0 ∙ i.1))

  pub weight_le : weight b p ≤ total_weight b P
  weight_le =
      let i = place_in P p h in
      let e : get_or (weights b P) (nat_abs p - 1) 0 ≡ weight b p = get_or-map (weight b) (participants P) (nat_abs p - 1) (pos 0) 0 (omega (arith, length_from 1 P, i.0)) ∙ ap (weight b) (get_or_from 1 P (nat_abs p - 1) (pos 0) i.0 ∙ i.1) in
      omega (arith, e, get_or-le-sum_by (λ x. x) (weights b P) (nat_abs p - 1) 0 (omega (arith, length-map (participants P) (weight b), length_from 1 P, i.0)))

pub total_pos : (ns : List ℕ) → total_of (map pos ns) ≡ pos (sum ns)
total_pos [] = refl
total_pos (n ∷ ns) = omega (arith, linear, total_pos ns, sum_by-cons (λ x. x) n ns)

-- a share of a pool that was rounded, against its part of the exact pool
share_close : (W w P : ℕ) (s T X : ℤ) → apart (s *ℤ pos W) (T *ℤ pos w) < W → Close (1998 * P) T X → w ≤ W → apart (pos 1000 *ℤ (s *ℤ pos W)) (X *ℤ pos w) + 1000 ≤ 1000 * W + 1998 * P * W
share_close W w P s T X fair near le =
    omega (
      arith,
      apart_trans (pos 1000 *ℤ (s *ℤ pos W)) (pos 1000 *ℤ (T *ℤ pos w)) (X *ℤ pos w),
      apart_mul_left (pos 1000) (s *ℤ pos W) (T *ℤ pos w),
      ap (λ z. apart z (X *ℤ pos w)) (mul_assoc (pos 1000) T (pos w)),
      apart_mul_right (pos 1000 *ℤ T) X (pos w),
      mul-le-mul_right w near,
      mul-le-mul_left (1998 * P) le,
    )

-- the bill times 1,000 W, in its parts
bill_parts : (W : ℕ) (L s u : ℤ) → pos 1000 *ℤ (pos W *ℤ (L +ℤ s +ℤ u)) ≡ pos W *ℤ (pos 1000 *ℤ L) +ℤ pos 1000 *ℤ (s *ℤ pos W) +ℤ pos 1000 *ℤ (u *ℤ pos W)
bill_parts W L s u =
    ap (λ z. pos 1000 *ℤ z) (mul_add (pos W) (L +ℤ s) u ∙ ap (λ z. z +ℤ pos W *ℤ u) (mul_add (pos W) L s))
    ∙ mul_add (pos 1000) (pos W *ℤ L +ℤ pos W *ℤ s) (pos W *ℤ u) ∙ ap (λ z. z +ℤ pos 1000 *ℤ (pos W *ℤ u)) (mul_add (pos 1000) (pos W *ℤ L) (pos W *ℤ s))
    ∙ three (swapped L) (ap (λ z. pos 1000 *ℤ z) (*ℤ_comm (pos W) s)) (ap (λ z. pos 1000 *ℤ z) (*ℤ_comm (pos W) u))
  where
    swapped : (L : ℤ) → pos 1000 *ℤ (pos W *ℤ L) ≡ pos W *ℤ (pos 1000 *ℤ L)
    swapped L = sym (mul_assoc (pos 1000) (pos W) L) ∙ ap (λ z. z *ℤ L) (*ℤ_comm (pos 1000) (pos W)) ∙ mul_assoc (pos W) (pos 1000) L

    three : {a b c a' b' c' : ℤ} → a ≡ a' → b ≡ b' → c ≡ c' → a +ℤ b +ℤ c ≡ a' +ℤ b' +ℤ c'
    three p q r = cc

exact_parts : (W w : ℕ) (E X Y : ℤ) → pos W *ℤ E +ℤ (X +ℤ Y) *ℤ pos w ≡ pos W *ℤ E +ℤ X *ℤ pos w +ℤ Y *ℤ pos w
exact_parts W w E X Y = ap (λ z. pos W *ℤ E +ℤ z) (add_mul X Y (pos w)) ∙ sym (+ℤ_assoc (pos W *ℤ E) (X *ℤ pos w) (Y *ℤ pos w))

weighed_near : (W w P : ℕ) (L E s u T U X Y : ℤ) → Close 5994 L E → apart (s *ℤ pos W) (T *ℤ pos w) < W → apart (u *ℤ pos W) (U *ℤ pos w) < W → Close (1998 * P) T X → Close (1998 * P) U Y → w ≤ W → 1 ≤ W →
    apart (pos 1000 *ℤ (pos W *ℤ (L +ℤ s +ℤ u))) (pos W *ℤ E +ℤ (X +ℤ Y) *ℤ pos w) < 1000 * (W * (8 + 4 * P))
weighed_near W w P L E s u T U X Y six fs fu nt nu le some =
    rw (bill_parts W L s u, exact_parts W w E X Y)
    (omega (
      arith,
      apart_add (pos W *ℤ (pos 1000 *ℤ L) +ℤ pos 1000 *ℤ (s *ℤ pos W)) (pos W *ℤ E +ℤ X *ℤ pos w) (pos 1000 *ℤ (u *ℤ pos W)) (Y *ℤ pos w),
      apart_add (pos W *ℤ (pos 1000 *ℤ L)) (pos W *ℤ E) (pos 1000 *ℤ (s *ℤ pos W)) (X *ℤ pos w),
      apart_mul_left (pos W) (pos 1000 *ℤ L) E,
      mul-le-mul_left W six,
      share_close W w P s T X fs nt le,
      share_close W w P u U Y fu nu le,
    ))

-- ---- the bill
module _ (b : Postings) (t : Terms) (P : ℕ) (may : PoolsShareable b t P) (p : ℤ) (h : Between (pos 1) (pos P) p) where
  bill_is : bill b t P p ≡ six_charges b t p +ℤ revenue_share b t P DayAhead p +ℤ revenue_share b t P RealTime p
  bill_is = eight (charge b t DayAhead energy p) (charge b t DayAhead congestion p) (charge b t DayAhead loss p) (charge b t RealTime energy p) (charge b t RealTime congestion p) (charge b t RealTime loss p) (revenue_share b t P DayAhead p) (revenue_share b t P RealTime p)
    where
      eight : (a c d e f g i j : ℤ) → a +ℤ (c +ℤ (d +ℤ (e +ℤ (f +ℤ (g +ℤ (i +ℤ (j +ℤ pos 0))))))) ≡ a +ℤ c +ℤ d +ℤ e +ℤ f +ℤ g +ℤ i +ℤ j
      eight a c d e f g i j = simp (+ℤ_assoc, +ℤ_idr)

  share_fair : (m : Market) → anybody_weighs b P ≡ true → apart (revenue_share b t P m p *ℤ pos (total_weight b P)) (revenue_pool b t P m *ℤ pos (weight b p)) < total_weight b P
  share_fair m w =
      let i = place_in P p h in
      rw (w, ← (weight_at b P p h))
      (subst (λ (z : ℤ). Near (nat_abs z) (get_or (t.shares (revenue_pool b t P m) (map pos (weights b P))) (nat_abs p - 1) (pos 0) *ℤ z) (revenue_pool b t P m *ℤ get_or (map pos (weights b P)) (nat_abs p - 1) (pos 0))) (total_pos (weights b P))
      ((fair_shares b t P may m w).near (nat_abs p - 1) (omega (arith, length_weights b P, i.0))))

  share_none : (m : Market) → anybody_weighs b P ≡ false → revenue_share b t P m p ≡ pos 0
  share_none m w = rw w refl

  pub bill_is_near : WithinCents (8 + 4 * P) (bill b t P p) (exact_bill b t.quote P p)
  bill_is_near = subst (λ (z : ℤ). WithinCents (8 + 4 * P) z (exact_bill b t.quote P p)) (sym bill_is) (go (anybody_weighs b P) refl)
    where
      short : (n n' : ℕ) → n ≤ 5994 → n' ≡ n → n' < 1000 * (1 * (8 + 4 * P))
      short n n' a e = omega arith

      plus_none : (s u v : ℤ) → u ≡ pos 0 → v ≡ pos 0 → s +ℤ u +ℤ v ≡ s
      plus_none s u v e f = omega (arith, linear)

      go : (u : Bool) → anybody_weighs b P ≡ u → WithinCents (8 + 4 * P) (six_charges b t p +ℤ revenue_share b t P DayAhead p +ℤ revenue_share b t P RealTime p)
          (cond u (record { numerator = pos (total_weight b P) *ℤ unrounded_charges b t.quote p +ℤ (unrounded_pool b t.quote P DayAhead +ℤ unrounded_pool b t.quote P RealTime) *ℤ pos (weight b p); denominator = total_weight b P }) (record { numerator = unrounded_charges b t.quote p; denominator = 1 }))
      go true e =
          weighed_near (total_weight b P) (weight b p) P (six_charges b t p) (unrounded_charges b t.quote p) (revenue_share b t P DayAhead p) (revenue_share b t P RealTime p) (revenue_pool b t P DayAhead) (revenue_pool b t P RealTime) (unrounded_pool b t.quote P DayAhead) (unrounded_pool b t.quote P RealTime)
          (six_close b t p) (share_fair DayAhead e) (share_fair RealTime e) (pool_close b t P DayAhead) (pool_close b t P RealTime) (weight_le b P p h) (ltb-true 0 (total_weight b P) e)
      go false e =
          short (apart (pos 1000 *ℤ six_charges b t p) (unrounded_charges b t.quote p)) (apart (pos 1000 *ℤ (pos 1 *ℤ (six_charges b t p +ℤ revenue_share b t P DayAhead p +ℤ revenue_share b t P RealTime p))) (unrounded_charges b t.quote p)) (six_close b t p)
          (ap (λ z. apart z (unrounded_charges b t.quote p)) (one_times (six_charges b t p +ℤ revenue_share b t P DayAhead p +ℤ revenue_share b t P RealTime p) ∙ ap (λ z. pos 1000 *ℤ z) (plus_none (six_charges b t p) (revenue_share b t P DayAhead p) (revenue_share b t P RealTime p) (share_none DayAhead e) (share_none RealTime e))))
