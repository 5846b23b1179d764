-- Over all participants the bilaterals cancel, and all lines add up to the fund.
use Rattle.std.proofs.Common.{◌≡◌, ℕ, zero, suc, ◌-◌, ◌≤◌, Bool, true, false, cond, List, [], ◌∷◌, map, length, get_or, ℤ, pos, ◌+ℤ◌, ◌-ℤ◌, ◌*ℤ◌, neg_ℤ, nat_abs, sym, refl, ap, ◌∙◌, subst, arith}
use lib.IntN.{zero-*ℤ}
use Rattle.std.specs.List.{AllByRecursion}
use Rattle.std.proofs.lemmas.List.{length-map}
use Rattle.std.specs.Ordering.{int_eq}
use Rattle.measures.specs.declared.code.LocationCode.{LocationCode}
use Rattle.prices.specs.Quotes.{Quote}
use Rattle.prices.specs.declared.price.Market.{Market}
use Rattle.prices.specs.declared.price.Market.TheVariants.{DayAhead, RealTime}
use Rattle.rules.specs.Sharing.{Fair, shareable, total as total_of}
use Rattle.postings.specs.declared.bilateral.Bilateral.{Bilateral}
use Rattle.postings.specs.declared.record.Record.{Record}
use Rattle.obligations.specs.Charges.{from, participants, all_lines, unrounded, charge, revenue_pool, weight, weights, anybody_weighs, revenue_shares, revenue_share, amount, bill, fund}
use Rattle.obligations.specs.Effects.{Position, record_effect, bilateral_effect, worth_of, records_worth, bought_worth, sold_worth, worth, charged}
use Rattle.obligations.specs.Limits.{Between, RecordKept, BilateralKept, Kept}
use Rattle.obligations.specs.Positions.{Postings, records_alone}
use Rattle.obligations.specs.Sums.{sum_over}
use Rattle.obligations.specs.Terms.{Terms, Component, energy, congestion, loss, price_at}
use Rattle.obligations.proofs.Integers.{linear, sum_add, sum_sub, sum_neg, sum_same, sum_swap, sum_zero}
use Rattle.obligations.proofs.Places.{StandsOnce, sum_by_key, participant_once}
use Rattle.obligations.proofs.Worth.{unrounded_is}

-- ---- each element once
-- the effect of every element, times what g gives at its location
abbrev pub all_worth : {X : Type 0} → (X → LocationCode) → (X → ℤ) → (LocationCode → ℤ) → List X → ℤ
all_worth location effect g xs = sum_over (λ x. effect x *ℤ g (location x)) xs

cond_times : (t : Bool) (v c : ℤ) → cond t v (pos 0) *ℤ c ≡ cond t (v *ℤ c) (pos 0)
cond_times true v c = refl
cond_times false v c = zero-*ℤ c

pub worth_total : {X : Type 0} (who : X → ℤ) (location : X → LocationCode) (effect : X → ℤ) (g : LocationCode → ℤ) (P : ℕ) (xs : List X) → AllByRecursion (λ x. Between (pos 1) (pos P) (who x)) xs →
    sum_over (λ p. worth_of who location effect g p xs) (participants P) ≡ all_worth location effect g xs
worth_total who location effect g P xs a =
    sum_same (λ p. worth_of who location effect g p xs) (λ p. sum_over (λ x. cond (int_eq (who x) p) (effect x *ℤ g (location x)) (pos 0)) xs)
    (λ p. sum_same (λ x. cond (int_eq (who x) p) (effect x) (pos 0) *ℤ g (location x)) (λ x. cond (int_eq (who x) p) (effect x *ℤ g (location x)) (pos 0)) (λ x. cond_times (int_eq (who x) p) (effect x) (g (location x))) xs) (participants P)
    ∙ sum_by_key int_eq (participants P) who (λ x p. effect x *ℤ g (location x)) xs (once xs a)
  where
    once : (xs : List _) → AllByRecursion (λ x. Between (pos 1) (pos P) (who x)) xs → AllByRecursion (λ x. StandsOnce int_eq (participants P) (who x)) xs
    once [] a = tt
    once (x ∷ xs) a = (participant_once P (who x) a.0, once xs a.1)

pub all_map : {X : Type 0} (A B : X → Type 0) → ((x : X) → A x → B x) → (xs : List X) → AllByRecursion A xs → AllByRecursion B xs
all_map A B f [] a = tt
all_map A B f (x ∷ xs) a = (f x a.0, all_map A B f xs a.1)

-- what is bought is sold: only the records' worth is left
module _ (P : ℕ) (b : Postings) (k : Kept P b) (g : LocationCode → ℤ) where
  pub records_in : AllByRecursion (λ (r : Record). Between (pos 1) (pos P) r.participant) b.records
  records_in = all_map (RecordKept P) (λ r. Between (pos 1) (pos P) r.participant) (λ r h. h.participant_in) b.records k.records_kept

  pub buyers_in : AllByRecursion (λ (x : Bilateral). Between (pos 1) (pos P) x.buyer) b.bilaterals
  buyers_in = all_map (BilateralKept P) (λ x. Between (pos 1) (pos P) x.buyer) (λ x h. h.buyer_in) b.bilaterals k.bilaterals_kept

  pub sellers_in : AllByRecursion (λ (x : Bilateral). Between (pos 1) (pos P) x.seller) b.bilaterals
  sellers_in = all_map (BilateralKept P) (λ x. Between (pos 1) (pos P) x.seller) (λ x h. h.seller_in) b.bilaterals k.bilaterals_kept

  pub worth_sum : (s : Position) → sum_over (λ p. worth s b g p) (participants P) ≡ all_worth (λ (r : Record). r.location) (record_effect s) g b.records
  worth_sum s =
      cancel (sum_over (λ p. worth s b g p) (participants P)) (sum_over (λ p. records_worth (record_effect s) g p b.records +ℤ bought_worth (bilateral_effect s) g p b.bilaterals) (participants P))
      (sum_over (λ p. records_worth (record_effect s) g p b.records) (participants P)) (sum_over (λ p. bought_worth (bilateral_effect s) g p b.bilaterals) (participants P)) (sum_over (λ p. sold_worth (bilateral_effect s) g p b.bilaterals) (participants P))
      (all_worth (λ (r : Record). r.location) (record_effect s) g b.records) (all_worth (λ (x : Bilateral). x.location) (bilateral_effect s) g b.bilaterals)
      (sum_sub (λ p. records_worth (record_effect s) g p b.records +ℤ bought_worth (bilateral_effect s) g p b.bilaterals) (λ p. sold_worth (bilateral_effect s) g p b.bilaterals) (participants P))
      (sum_add (λ p. records_worth (record_effect s) g p b.records) (λ p. bought_worth (bilateral_effect s) g p b.bilaterals) (participants P))
      (worth_total (λ (r : Record). r.participant) (λ r. r.location) (record_effect s) g P b.records records_in)
      (worth_total (λ (x : Bilateral). x.buyer) (λ x. x.location) (bilateral_effect s) g P b.bilaterals buyers_in)
      (worth_total (λ (x : Bilateral). x.seller) (λ x. x.location) (bilateral_effect s) g P b.bilaterals sellers_in)
    where
      cancel : (a e r x y v w : ℤ) → a ≡ e -ℤ y → e ≡ r +ℤ x → r ≡ v → x ≡ w → y ≡ w → a ≡ v
      cancel a e r x y v w h₁ h₂ h₃ h₄ h₅ = omega (arith, linear)

-- all charges of one component before rounding, from the records alone
pub unrounded_sum : (P : ℕ) (b : Postings) → Kept P b → (q : Quote) (m : Market) (c : Component) →
    sum_over (λ p. unrounded b q m c p) (participants P) ≡ neg_ℤ (all_worth (λ (r : Record). r.location) (record_effect (charged m)) (price_at q m c) b.records)
unrounded_sum P b k q m c =
    sum_same (λ p. unrounded b q m c p) (λ p. neg_ℤ (worth (charged m) b (price_at q m c) p)) (λ p. unrounded_is b q m c p) (participants P)
    ∙ sum_neg (λ p. worth (charged m) b (price_at q m c) p) (participants P)
    ∙ ap neg_ℤ (worth_sum P b k (price_at q m c) (charged m))

-- the records alone are kept too
records_alone_kept : (P : ℕ) (b : Postings) → Kept P b → Kept P (records_alone b)
records_alone_kept P b k = record { records_kept = k.records_kept; bilaterals_kept = tt; records_limit = k.records_limit; bilaterals_limit = λ m. omega (arith, linear) }

pub unrounded_alone : (P : ℕ) (b : Postings) → Kept P b → (q : Quote) (m : Market) (c : Component) →
    sum_over (λ p. unrounded b q m c p) (participants P) ≡ sum_over (λ p. unrounded (records_alone b) q m c p) (participants P)
unrounded_alone P b k q m c = unrounded_sum P b k q m c ∙ sym (unrounded_sum P (records_alone b) (records_alone_kept P b k) q m c)

-- ---- places and participants
pub length_from : (k n : ℕ) → length (from k n) ≡ n
length_from k zero = refl
length_from k (suc n) = ap suc (length_from (suc k) n)

pub length_weights : (b : Postings) (P : ℕ) → length (map pos (weights b P)) ≡ P
length_weights b P = length-map (weights b P) pos ∙ length-map (participants P) (weight b) ∙ length_from 1 P

sum_from : (f g : ℤ → ℤ) (k n : ℕ) → ((p : ℕ) → k ≤ p → f (pos p) ≡ g (pos p)) → sum_over f (from k n) ≡ sum_over g (from k n)
sum_from f g k zero e = refl
sum_from f g k (suc n) e = omega (arith, linear, e k (omega arith), sum_from f g (suc k) n (λ p a. e p (omega arith)))

sum_places : (k : ℕ) (ss : List ℤ) → sum_over (λ p. get_or ss (nat_abs p - k) (pos 0)) (from k (length ss)) ≡ total_of ss
sum_places k [] = refl
sum_places k (s ∷ ss) =
    omega (
      arith,
      linear,
      ap (λ i. get_or (s ∷ ss) i (pos 0)) (none k),
      sum_from (λ p. get_or (s ∷ ss) (nat_abs p - k) (pos 0)) (λ p. get_or ss (nat_abs p - suc k) (pos 0)) (suc k) (length ss) (λ p a. ap (λ i. get_or (s ∷ ss) i (pos 0)) (next p a)),
      sum_places (suc k) ss,
    )
  where
    none : (k : ℕ) → k - k ≡ 0
    none k = omega arith

    next : (p : ℕ) → suc k ≤ p → p - k ≡ suc (p - suc k)
    next p a = omega arith

-- ---- all lines make the fund
-- the pools can be shared where anybody has weight
abbrev pub PoolsShareable : Postings → Terms → ℕ → Type 0
PoolsShareable b t P = (m : Market) → anybody_weighs b P ≡ true → shareable (revenue_pool b t P m) (map pos (weights b P)) P ≡ true

module _ (b : Postings) (t : Terms) (P : ℕ) (may : PoolsShareable b t P) where
  pub fair_shares : (m : Market) → anybody_weighs b P ≡ true → Fair (revenue_pool b t P m) (map pos (weights b P)) (revenue_shares b t P m)
  fair_shares m w = t.fair (revenue_pool b t P m) (map pos (weights b P)) (subst (λ (n : ℕ). shareable (revenue_pool b t P m) (map pos (weights b P)) n ≡ true) (sym (length_weights b P)) (may m w))

  shares_sum : (m : Market) → anybody_weighs b P ≡ true → sum_over (λ p. get_or (revenue_shares b t P m) (nat_abs p - 1) (pos 0)) (participants P) ≡ revenue_pool b t P m
  shares_sum m w =
      let f = fair_shares m w in
      subst (λ (n : ℕ). sum_over (λ p. get_or (revenue_shares b t P m) (nat_abs p - 1) (pos 0)) (from 1 n) ≡ revenue_pool b t P m) (f.each ∙ length_weights b P) (sum_places 1 (revenue_shares b t P m) ∙ f.adds)

  revenue_sum : (m : Market) → sum_over (λ p. revenue_share b t P m p) (participants P) ≡ cond (anybody_weighs b P) (revenue_pool b t P m) (pos 0)
  revenue_sum m = go (anybody_weighs b P) refl
    where
      go : (u : Bool) → anybody_weighs b P ≡ u → sum_over (λ p. cond u (get_or (revenue_shares b t P m) (nat_abs p - 1) (pos 0)) (pos 0)) (participants P) ≡ cond u (revenue_pool b t P m) (pos 0)
      go true e = shares_sum m e
      go false e = sum_zero (participants P)

  -- the totals of lines 1 to 6, and what is shared of the energy and loss of each market
  lines_fund : (a c d e f g h i : ℤ) (u : Bool) → h ≡ cond u (neg_ℤ (a +ℤ d)) (pos 0) → i ≡ cond u (neg_ℤ (e +ℤ g)) (pos 0) →
      a +ℤ (c +ℤ (d +ℤ (e +ℤ (f +ℤ (g +ℤ (h +ℤ (i +ℤ pos 0))))))) ≡ c +ℤ f +ℤ cond u (pos 0) (a +ℤ d +ℤ (e +ℤ g))
  lines_fund a c d e f g h i true v w = omega (arith, linear)
  lines_fund a c d e f g h i false v w = omega (arith, linear)

  abbrev total_charge : Market → Component → ℤ
  total_charge m c = sum_over (λ p. charge b t m c p) (participants P)

  pool_sum : (m : Market) → revenue_pool b t P m ≡ neg_ℤ (total_charge m energy +ℤ total_charge m loss)
  pool_sum m = ap neg_ℤ (sum_add (λ p. charge b t m energy p) (λ p. charge b t m loss p) (participants P))

  four_sum : sum_over (λ p. charge b t DayAhead energy p +ℤ charge b t DayAhead loss p +ℤ (charge b t RealTime energy p +ℤ charge b t RealTime loss p)) (participants P) ≡ total_charge DayAhead energy +ℤ total_charge DayAhead loss +ℤ (total_charge RealTime energy +ℤ total_charge RealTime loss)
  four_sum =
      sum_add (λ p. charge b t DayAhead energy p +ℤ charge b t DayAhead loss p) (λ p. charge b t RealTime energy p +ℤ charge b t RealTime loss p) (participants P)
      ∙ cc (sum_add (λ p. charge b t DayAhead energy p) (λ p. charge b t DayAhead loss p) (participants P), sum_add (λ p. charge b t RealTime energy p) (λ p. charge b t RealTime loss p) (participants P))

  pub bills_make_fund : sum_over (λ p. bill b t P p) (participants P) ≡ fund b t P
  bills_make_fund =
      sum_swap (λ p k. amount b t P p k) (participants P) all_lines
      ∙ lines_fund (total_charge DayAhead energy) (total_charge DayAhead congestion) (total_charge DayAhead loss) (total_charge RealTime energy) (total_charge RealTime congestion) (total_charge RealTime loss)
      (sum_over (λ p. revenue_share b t P DayAhead p) (participants P)) (sum_over (λ p. revenue_share b t P RealTime p) (participants P)) (anybody_weighs b P)
      (revenue_sum DayAhead ∙ ap (λ z. cond (anybody_weighs b P) z (pos 0)) (pool_sum DayAhead)) (revenue_sum RealTime ∙ ap (λ z. cond (anybody_weighs b P) z (pos 0)) (pool_sum RealTime))
      ∙ sym (cc (sum_add (λ p. charge b t DayAhead congestion p) (λ p. charge b t RealTime congestion p) (participants P), four_sum))
