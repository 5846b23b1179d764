-- The accepted postings keep to the hour's ranges, limits and capacities.
use Rattle.std.specs.Prelude.{slice_get}
use Rattle.std.proofs.Common.{◌≡◌, ℕ, zero, suc, ◌≤◌, Bool, true, false, cond, not, ◌||◌, leb, List, [], ◌∷◌, ◌++◌, length, ℤ, pos, nat_abs, ◌≤ℤ◌, Some, None, Option, sym, refl, ap, ◌∙◌, subst, arith, length-append}
use lib.Signed.{le_z, lt_z}
use borrow.Author.Differences.{ints}
use Rattle.std.specs.List.{AllByRecursion}
use Rattle.std.proofs.ByRecursion.{All-append}
use Rattle.std.proofs.lemmas.Bool.{leb-false, not-false, and_parts, or_parts, cond-false, both_ways}
use Rattle.std.specs.Ordering.{int_eq}
use Rattle.std.specs.Option.{option_map}
use Rattle.measures.proofs.Numbers.{int_eq_self}
use Rattle.prices.specs.declared.price.Market.{Market}
use Rattle.prices.specs.declared.price.Market.TheVariants.{DayAhead, RealTime}
use Rattle.postings.specs.Kinds.{record_market, bilateral_market, same_market}
use Rattle.postings.specs.Openings.{within, is_void, participant_count, record_capacity, bilateral_capacity}
use Rattle.postings.specs.Revised.{revised_record, revised_bilateral}
use Rattle.postings.specs.declared.bilateral.Bilateral.{Bilateral}
use Rattle.postings.specs.declared.opening.Opening.{Opening}
use Rattle.postings.specs.declared.record.Record.{Record}
use Rattle.obligations.specs.Limits.{market_total, Between, RecordKept, BilateralKept, Kept}
use Rattle.obligations.specs.Positions.{Postings, record_kwh, bilateral_kwh}
use Rattle.obligations.proofs.Integers.{linear, sum_append}
use Rattle.histories.specs.Calls.{Call, post_record, post_bilateral, revise_record, revise_bilateral, close, settle, reopen}
use Rattle.histories.specs.Causes.{changed, place_of, postings_after, records_past, bilaterals_past}
use Rattle.histories.specs.Told.{standing, cause_after, accepted}
use Rattle.histories.proofs.Standing.{in_range, lt_no, UnrevisedPast, standing_after, unrevised_after}
use Rattle.histories.proofs.Accepted.{Passed, passed, always}

-- ---- how many participants
pub at_most_64 : (o : Opening) → participant_count o ≤ 64
at_most_64 o = go (is_void o) refl
  where
    size : (z : ℤ) → Between (pos 1) (pos 64) z → nat_abs z ≤ 64
    size z h = omega (arith, ints, h.0, h.1)

    go : (v : Bool) → is_void o ≡ v → cond v 0 (nat_abs o.participants) ≤ 64
    go true e = omega arith
    go false e = size o.participants (in_range (pos 1) (pos 64) o.participants (and_parts (within (pos 1) (pos 64) o.participants) (le_z o.participants (pos o.rows)) (not-false _ e)).0)

pub at_least_1 : (o : Opening) → is_void o ≡ false → 1 ≤ participant_count o
at_least_1 o e =
    rw e (size o.participants (in_range (pos 1) (pos 64) o.participants (and_parts (within (pos 1) (pos 64) o.participants) (le_z o.participants (pos o.rows)) (not-false _ e)).0))
  where
    size : (z : ℤ) → Between (pos 1) (pos 64) z → 1 ≤ nat_abs z
    size z h = omega (arith, ints, h.0, h.1)

-- ---- market totals of one sort of posting
module _ {X : Type 0} (market : X → Market) (kwh : X → ℤ) where
  abbrev counts : Market → X → ℤ
  counts m x = cond (same_market (market x) m) (kwh x) (pos 0)

  -- a posting counts in no other market
  other_market : (m : Market) (x : X) → same_market (market x) m ≡ false → counts m x ≡ pos 0
  other_market m x e = cond-false (same_market (market x) m) (kwh x) (pos 0) e

  total_push : (m : Market) (xs : List X) (x : X) → same_market (market x) m ≡ false → market_total market kwh m (xs ++ x ∷ []) ≡ market_total market kwh m xs
  total_push m xs x e = omega (arith, linear, sum_append (counts m) xs (x ∷ []), other_market m x e)

  -- one changed, in its own market
  total_changed : (m n : Market) (i : ℕ) (f : X → X) → ((x : X) → market (f x) ≡ market x) → (xs : List X) → option_map market (slice_get xs i) ≡ Some n → same_market n m ≡ false → market_total market kwh m (changed i f xs) ≡ market_total market kwh m xs
  total_changed m n i f same [] a e = refl
  total_changed m n zero f same (x ∷ xs) a e =
      let here : market x ≡ n = cc in
      omega (arith, linear, other_market m x (ap (λ k. same_market k m) here ∙ e), other_market m (f x) (ap (λ k. same_market k m) (same x ∙ here) ∙ e))
  total_changed m n (suc i) f same (x ∷ xs) a e = omega (arith, linear, total_changed m n i f same xs a e)

  none_changed : (i : ℕ) (f : X → X) (xs : List X) → option_map market (slice_get xs i) ≡ None → changed i f xs ≡ xs
  none_changed i f [] a = refl
  none_changed zero f (x ∷ xs) a = absurd (never x a)
    where
      never : (x : X) → ◌≡◌ {A = Option Market} (Some (market x)) None → ⊥
      never x a = let z : ◌≡◌ {A = ℕ} 0 1 = cc in omega arith
  none_changed (suc i) f (x ∷ xs) a = ap (λ ys. x ∷ ys) (none_changed i f xs a)

-- only one market's total changes, and that one was looked at
limit_by : (limit : ℤ) (a : Market) (new old : Market → ℤ) → lt_z limit (new a) ≡ false → ((m : Market) → same_market a m ≡ false → new m ≡ old m) → ((m : Market) → old m ≤ℤ limit) → (m : Market) → new m ≤ℤ limit
limit_by limit DayAhead new old e s l DayAhead = lt_no limit (new DayAhead) e
limit_by limit DayAhead new old e s l RealTime = subst (λ z. z ≤ℤ limit) (sym (s RealTime refl)) (l RealTime)
limit_by limit RealTime new old e s l DayAhead = subst (λ z. z ≤ℤ limit) (sym (s DayAhead refl)) (l DayAhead)
limit_by limit RealTime new old e s l RealTime = lt_no limit (new RealTime) e

module _ {X : Type 0} (market : X → Market) (kwh : X → ℤ) (limit : ℤ) where
  push_limit : (xs : List X) (x : X) → lt_z limit (market_total market kwh (market x) (xs ++ x ∷ [])) ≡ false → ((m : Market) → market_total market kwh m xs ≤ℤ limit) → (m : Market) → market_total market kwh m (xs ++ x ∷ []) ≤ℤ limit
  push_limit xs x e l = limit_by limit (market x) (λ m. market_total market kwh m (xs ++ x ∷ [])) (λ m. market_total market kwh m xs) e (λ m d. total_push market kwh m xs x d) l

  change_limit : (i : ℕ) (f : X → X) → ((x : X) → market (f x) ≡ market x) → (xs : List X) → ((n : Market) → option_map market (slice_get xs i) ≡ Some n → lt_z limit (market_total market kwh n (changed i f xs)) ≡ false) → ((m : Market) → market_total market kwh m xs ≤ℤ limit) → (m : Market) → market_total market kwh m (changed i f xs) ≤ℤ limit
  change_limit i f same xs e l = go (option_map market (slice_get xs i)) refl
    where
      go : (a : Option Market) → option_map market (slice_get xs i) ≡ a → (m : Market) → market_total market kwh m (changed i f xs) ≤ℤ limit
      go None a m = subst (λ ys. market_total market kwh m ys ≤ℤ limit) (sym (none_changed market kwh i f xs a)) (l m)
      go (Some n) a m = limit_by limit n (λ m. market_total market kwh m (changed i f xs)) (λ m. market_total market kwh m xs) (e n a) (λ m d. total_changed market kwh m n i f same xs a d) l m

all_changed : {X : Type 0} (Q : X → Type 0) (i : ℕ) (f : X → X) → ((x : X) → Q x → Q (f x)) → (xs : List X) → AllByRecursion Q xs → AllByRecursion Q (changed i f xs)
all_changed Q i f e [] a = tt
all_changed Q zero f e (x ∷ xs) a = (e x a.0, a.1)
all_changed Q (suc i) f e (x ∷ xs) a = (a.0, all_changed Q i f e xs a.1)

length_changed : {X : Type 0} (i : ℕ) (f : X → X) (xs : List X) → length (changed i f xs) ≡ length xs
length_changed i f [] = refl
length_changed zero f (x ∷ xs) = refl
length_changed (suc i) f (x ∷ xs) = ap suc (length_changed i f xs)

-- ---- what an accepted call leaves
module _ (o : Opening) (cs : List Call) (k : Kept (participant_count o) (standing cs)) where
  abbrev P : ℕ
  P = participant_count o

  abbrev b : Postings
  b = standing cs

  -- the one number that a list names is in its range
  one_in : (low high z : ℤ) → (not (within low high z) || false) ≡ false → Between low high z
  one_in low high z e = in_range low high z (not-false (within low high z) (or_parts (not (within low high z)) false e).0)

  kept_after : (c : Call) → Passed o cs c → Kept P (postings_after b c)
  kept_after (post_record r) p = record {
    records_kept = All-append (RecordKept P) b.records (r ∷ []) k.records_kept (record { participant_in = one_in (pos 1) (pos P) r.participant p.participants_known; quantity_in = one_in (pos 0) (pos 10000000) (record_kwh r) p.quantities_in_range }, tt);
    bilaterals_kept = k.bilaterals_kept;
    records_limit = push_limit (λ (r : Record). record_market r.kind) record_kwh (pos 100000000) b.records r p.within_limit k.records_limit;
    bilaterals_limit = k.bilaterals_limit;
  }
  kept_after (post_bilateral x) p =
      let who = or_parts (not (within (pos 1) (pos P) x.buyer)) (not (within (pos 1) (pos P) x.seller) || false) p.participants_known in
      record {
        records_kept = k.records_kept;
        bilaterals_kept = All-append (BilateralKept P) b.bilaterals (x ∷ []) k.bilaterals_kept (
          record {
            buyer_in = in_range (pos 1) (pos P) x.buyer (not-false (within (pos 1) (pos P) x.buyer) who.0);
            seller_in = one_in (pos 1) (pos P) x.seller who.1;
            two_parties = λ e. both_ways (int_eq x.buyer x.seller) p.two_parties (ap (int_eq x.buyer) (sym e) ∙ int_eq_self x.buyer);
            quantity_in = one_in (pos 0) (pos 10000000) (bilateral_kwh x) p.quantities_in_range;
          },
          tt,
        );
        records_limit = k.records_limit;
        bilaterals_limit = push_limit (λ (x : Bilateral). bilateral_market x.kind) bilateral_kwh (pos 50000000) b.bilaterals x p.within_limit k.bilaterals_limit;
      }
  kept_after (revise_record n q) p = record {
    records_kept = all_changed (RecordKept P) (place_of n) (revised_record q) (λ r h. record { participant_in = h.participant_in; quantity_in = one_in (pos 0) (pos 10000000) q.0 p.quantities_in_range }) b.records k.records_kept;
    bilaterals_kept = k.bilaterals_kept;
    records_limit = change_limit (λ (r : Record). record_market r.kind) record_kwh (pos 100000000) (place_of n) (revised_record q) (λ r. refl) b.records
        (λ m a. ap (records_past (postings_after b (revise_record n q))) (sym a) ∙ p.within_limit) k.records_limit;
    bilaterals_limit = k.bilaterals_limit;
  }
  kept_after (revise_bilateral n q) p = record {
    records_kept = k.records_kept;
    bilaterals_kept = all_changed (BilateralKept P) (place_of n) (revised_bilateral q) (λ x h. record { buyer_in = h.buyer_in; seller_in = h.seller_in; two_parties = h.two_parties; quantity_in = one_in (pos 0) (pos 10000000) q.0 p.quantities_in_range }) b.bilaterals k.bilaterals_kept;
    records_limit = k.records_limit;
    bilaterals_limit = change_limit (λ (x : Bilateral). bilateral_market x.kind) bilateral_kwh (pos 50000000) (place_of n) (revised_bilateral q) (λ x. refl) b.bilaterals
        (λ m a. ap (bilaterals_past (postings_after b (revise_bilateral n q))) (sym a) ∙ p.within_limit) k.bilaterals_limit;
  }
  kept_after close p = k
  kept_after (settle t) p = k
  kept_after reopen p = k

-- the lists hold no more than they have room for
pub record Fits (o : Opening) (b : Postings) : Type 0 where
  pub records_fit : length b.records ≤ record_capacity o
  pub bilaterals_fit : length b.bilaterals ≤ bilateral_capacity o

one_more : {X : Type 0} (xs : List X) (x : X) (n : ℕ) → leb n (length xs) ≡ false → length (xs ++ x ∷ []) ≤ n
one_more xs x n e = omega (arith, length-append xs (x ∷ []), leb-false n (length xs) e)

module _ (o : Opening) (cs : List Call) (f : Fits o (standing cs)) where
  fits_after : (c : Call) → Passed o cs c → Fits o (postings_after (standing cs) c)
  fits_after (post_record r) p = record { records_fit = one_more (standing cs).records r (record_capacity o) p.has_room; bilaterals_fit = f.bilaterals_fit }
  fits_after (post_bilateral x) p = record { records_fit = f.records_fit; bilaterals_fit = one_more (standing cs).bilaterals x (bilateral_capacity o) p.has_room }
  fits_after (revise_record n q) p = record { records_fit = subst (λ (i : ℕ). i ≤ record_capacity o) (sym (length_changed (place_of n) (revised_record q) (standing cs).records)) f.records_fit; bilaterals_fit = f.bilaterals_fit }
  fits_after (revise_bilateral n q) p = record { records_fit = f.records_fit; bilaterals_fit = subst (λ (i : ℕ). i ≤ bilateral_capacity o) (sym (length_changed (place_of n) (revised_bilateral q) (standing cs).bilaterals)) f.bilaterals_fit }
  fits_after close p = f
  fits_after (settle t) p = f
  fits_after reopen p = f

-- ---- after every history
pub record Sound (o : Opening) (cs : List Call) : Type 0 where
  pub numbers : UnrevisedPast cs
  pub kept : Kept (participant_count o) (standing cs)
  pub fits : Fits o (standing cs)

pub sound_after : (o : Opening) (cs : List Call) (c : Call) → Sound o cs → cause_after o cs c ≡ None → Sound o (c ∷ cs)
sound_after o cs c s e =
    let p = passed o cs c e in
    let told = standing_after cs s.numbers c p.posting_known in
    record {
      numbers = unrevised_after cs s.numbers c p.posting_known;
      kept = subst (Kept (participant_count o)) (sym told) (kept_after o cs s.kept c p);
      fits = subst (Fits o) (sym told) (fits_after o cs s.fits c p);
    }

pub sound : (o : Opening) (past : List Call) → Sound o (accepted o past)
sound o =
    always o (Sound o) (record {
      numbers = record { of_records = λ n l. refl; of_bilaterals = λ n l. refl };
      kept = record { records_kept = tt; bilaterals_kept = tt; records_limit = λ m. omega (arith, linear); bilaterals_limit = λ m. omega (arith, linear) };
      fits = record { records_fit = omega arith; bilaterals_fit = omega arith };
    })
    (sound_after o)
