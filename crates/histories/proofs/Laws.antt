-- The laws of an hour, for every history.
use Rattle.std.proofs.Common.{◌≡◌, ℕ, ◌+◌, ◌*◌, ◌≤◌, Bool, true, false, ◌&&◌, ltb, List, [], ◌∷◌, ◌++◌, map, ℤ, pos, ◌+ℤ◌, ◌-ℤ◌, is_some, Some, None, sum, Option, sym, refl, ap, ◌∙◌, subst, mul-le-mul_right, mul-le-mul_left, arith}
use Rattle.std.specs.List.{AllByRecursion}
use Rattle.std.proofs.lemmas.List.Sums.{sum_by-cons}
use Rattle.std.proofs.lemmas.Bool.{and_parts, not-false, or_parts, false≢true}
use Rattle.std.specs.List.{list_any}
use Rattle.measures.specs.declared.code.LocationCode.{LocationCode}
use Rattle.prices.specs.Quotes.{Quote}
use Rattle.prices.specs.declared.price.Market.{Market}
use Rattle.prices.specs.declared.price.Market.TheVariants.{DayAhead, RealTime}
use Rattle.prices.specs.declared.price.Price.{Price}
use Rattle.postings.specs.Openings.{participant_count}
use Rattle.postings.specs.declared.bilateral.Bilateral.{Bilateral}
use Rattle.postings.specs.declared.opening.Opening.{Opening}
use Rattle.postings.specs.declared.record.Record.{Record}
use Rattle.obligations.specs.Charges.{participants, Line, component_charge, all_lines, charge, weight, anybody_weighs, fund}
use Rattle.obligations.specs.Comparisons.{OneMore, moved_to, Moved}
use Rattle.obligations.specs.Exact.{Fraction, WithinCents, exact_bill, congestion_value, whole}
use Rattle.obligations.specs.Limits.{Between, BilateralKept}
use Rattle.obligations.specs.Positions.{Postings}
use Rattle.obligations.specs.Sums.{sum_over, apart}
use Rattle.obligations.specs.Terms.{Terms, Component, energy, component_in, price_at}
use Rattle.obligations.proofs.Bilaterals.{third_parties_stay, pair_within_3, pair_cancels, moved_stays, same_charge}
use Rattle.obligations.proofs.Bounds.{bill_is_near, fund_is_near}
use Rattle.obligations.proofs.Integers.{linear, sum_same, sum_swap, sum_zero}
use Rattle.obligations.proofs.Limits.{pool_bound, weight_bound, pools_shareable}
use Rattle.obligations.proofs.Totals.{bills_make_fund}
use Rattle.histories.specs.Calls.{Call}
use Rattle.histories.specs.Causes.{unpriced, any_unpriced, cause_order}
use Rattle.histories.specs.Laws.{FromTheseCallsAlone, over_all_lines, BothSides, settled_postings, settled_quote, bill_told, NearExact, OneBilateral, TwoSettled, OneBilateralMore, WithinSharingLimits}
use Rattle.histories.specs.Told.{Settling, Issue, issued_by, amount_by, fund_by, newest, settlings, standing, accepted, told, last_settling}
use Rattle.histories.proofs.Accepted.{hour_told, answer_told, refusal_keeps}
use Rattle.histories.proofs.FirstCauses.{holds_after, first_holds, first_in_order, none_holds, void_refuses, void_stays}
use Rattle.histories.proofs.Keeping.{at_most_64, sound}
use Rattle.histories.proofs.Settled.{SettledSoundly, settled_soundly, settled_shareable, last_soundly, last_amount}

-- ---- from these calls alone
pub from_these_calls_alone : (o : Opening) (past : List Call) → FromTheseCallsAlone o past
from_these_calls_alone o past = record {
  hour_is_told = hour_told o past;
  answer_is_due = answer_told o past;
  refusal_changes_nothing = refusal_keeps o past;
  refused_for_a_cause = λ c r e. first_holds (holds_after o (accepted o past) c) cause_order r e;
  refused_for_the_first = first_in_order o (accepted o past);
  accepted_without_cause = none_holds o (accepted o past);
  postings_kept = (sound o past).kept;
  records_fit = (sound o past).fits.records_fit;
  bilaterals_fit = (sound o past).fits.bilaterals_fit;
  void_refuses = void_refuses o past;
  void_stays = void_stays o past;
}

-- ---- both sides of every cent
telescope : (new old rest : ℤ) → rest ≡ old → (new -ℤ old) +ℤ rest ≡ new
telescope new old rest e = omega (arith, linear)

line_issued : (P : ℕ) (ds : List Settling) (p : ℤ) (k : Line) → sum_over (λ i. i.to_line p k) (issued_by P ds) ≡ amount_by P ds p k
line_issued P [] p k = refl
line_issued P (d ∷ ds) p k = telescope (amount_by P (d ∷ ds) p k) (amount_by P ds p k) (sum_over (λ i. i.to_line p k) (issued_by P ds)) (line_issued P ds p k)

fund_issued : (P : ℕ) (ds : List Settling) → sum_over (λ i. i.to_fund) (issued_by P ds) ≡ fund_by P ds
fund_issued P [] = refl
fund_issued P (d ∷ ds) = telescope (fund_by P (d ∷ ds)) (fund_by P ds) (sum_over (λ i. i.to_fund) (issued_by P ds)) (fund_issued P ds)

-- the amounts that stand add up to the fund
standing_fund : (P : ℕ) (ds : List Settling) → AllByRecursion (SettledSoundly P) ds → over_all_lines P (amount_by P ds) ≡ fund_by P ds
standing_fund P [] all = sum_zero (participants P)
standing_fund P (d ∷ ds) all = bills_make_fund d.postings d.terms P (settled_shareable P d all.0)

lines_issued : (P : ℕ) (ds : List Settling) → sum_over (λ i. over_all_lines P i.to_line) (issued_by P ds) ≡ over_all_lines P (amount_by P ds)
lines_issued P ds =
    sum_swap (λ (i : Issue) p. sum_over (i.to_line p) all_lines) (issued_by P ds) (participants P)
    ∙ sum_same (λ p. sum_over (λ (i : Issue). sum_over (i.to_line p) all_lines) (issued_by P ds)) (λ p. sum_over (amount_by P ds p) all_lines)
    (λ p. sum_swap (λ (i : Issue) k. i.to_line p k) (issued_by P ds) all_lines ∙ sum_same (λ k. sum_over (λ (i : Issue). i.to_line p k) (issued_by P ds)) (amount_by P ds p) (line_issued P ds p) all_lines) (participants P)

pub both_sides : (o : Opening) (past : List Call) → BothSides o past
both_sides o past = record {
  lines_make_fund = lines_issued (participant_count o) (settlings (accepted o past)) ∙ standing_fund (participant_count o) (settlings (accepted o past)) (settled_soundly o past);
  fund_adds_up = fund_issued (participant_count o) (settlings (accepted o past));
  line_adds_up = line_issued (participant_count o) (settlings (accepted o past));
}

-- ---- near the exact bill
-- without postings nobody has weight
no_weight : (ps : List ℤ) → sum (map (weight (record { records = []; bilaterals = [] })) ps) ≡ 0
no_weight [] = refl
no_weight (p ∷ ps) = omega (arith, sum_by-cons (λ (n : ℕ). n) 0 (map (weight (record { records = []; bilaterals = [] })) ps), no_weight ps)

nobody : (P : ℕ) → anybody_weighs (record { records = []; bilaterals = [] }) P ≡ false
nobody P = ap (ltb 0) (no_weight (participants P))

near_by : (P : ℕ) (ds : List Settling) → AllByRecursion (SettledSoundly P) ds → (p : ℤ) → Between (pos 1) (pos P) p →
    WithinCents (8 + 4 * P) (sum_over (amount_by P ds p) all_lines) (exact_bill (settled_postings (newest ds)) (settled_quote (newest ds)) P p)
near_by P [] all p h = rw (nobody P) (omega arith)
near_by P (d ∷ ds) all p h = bill_is_near d.postings d.terms P (settled_shareable P d all.0) p h

fund_near_by : (P : ℕ) (ds : List Settling) → AllByRecursion (SettledSoundly P) ds → anybody_weighs (settled_postings (newest ds)) P ≡ true →
    WithinCents (2 * P) (fund_by P ds) (whole (congestion_value (settled_postings (newest ds)) (settled_quote (newest ds)) P))
fund_near_by P [] all w = absurd (false≢true (sym (nobody P) ∙ w))
fund_near_by P (d ∷ ds) all w = fund_is_near d.postings d.terms P all.0.kept all.0.somebody w

-- a larger distance may be allowed
within_more : (n m : ℕ) (cents : ℤ) (f : Fraction) → n ≤ m → WithinCents n cents f → WithinCents m cents f
within_more n m cents f l h = omega (arith, h, mul-le-mul_left 1000 (mul-le-mul_left f.denominator l))

more_each : (a c b d P : ℕ) → a ≤ c → b ≤ d → a + b * P ≤ c + d * P
more_each a c b d P h l = omega (arith, mul-le-mul_right P l)

pub near_exact : (cents each fund : ℕ) → 8 ≤ cents → 4 ≤ each → 2 ≤ fund → (o : Opening) (past : List Call) → NearExact cents each fund o past
near_exact cents each fund a c d o past = record {
  bill_near = λ p h. within_more (8 + 4 * participant_count o) (cents + each * participant_count o) (bill_told o past p)
      (exact_bill (settled_postings (last_settling o past)) (settled_quote (last_settling o past)) (participant_count o) p) (more_each 8 cents 4 each (participant_count o) a c)
      (near_by (participant_count o) (settlings (accepted o past)) (settled_soundly o past) p h);
  fund_near = λ w. within_more (2 * participant_count o) (fund * participant_count o) (told o (accepted o past)).fund_amount
      (whole (congestion_value (settled_postings (last_settling o past)) (settled_quote (last_settling o past)) (participant_count o))) (mul-le-mul_right (participant_count o) d)
      (fund_near_by (participant_count o) (settlings (accepted o past)) (settled_soundly o past) w);
}

-- ---- one bilateral more
all_middle : {X : Type 0} (Q : X → Type 0) (xs : List X) (x : X) (ys : List X) → AllByRecursion Q (xs ++ x ∷ ys) → Q x
all_middle Q [] x ys a = a.0
all_middle Q (y ∷ xs) x ys a = all_middle Q xs x ys a.1

none_middle : {X : Type 0} (test : X → Bool) (xs : List X) (x : X) (ys : List X) → list_any test (xs ++ x ∷ ys) ≡ false → test x ≡ false
none_middle test [] x ys e = (or_parts (test x) (list_any test ys) e).0
none_middle test (y ∷ xs) x ys e = none_middle test xs x ys (or_parts (test y) (list_any test (xs ++ x ∷ ys)) e).1

-- where a bilateral of a settling stands, there is a price in each market
priced_at : (q : Quote) (b : Postings) (xs : List Bilateral) (x : Bilateral) (ys : List Bilateral) → b.bilaterals ≡ xs ++ x ∷ ys → any_unpriced q b ≡ false → (m : Market) → is_some (q x.location m) ≡ true
priced_at q b xs x ys e u m = in_market m (and_parts (is_some (q x.location DayAhead)) (is_some (q x.location RealTime)) (not-false (is_some (q x.location DayAhead) && is_some (q x.location RealTime)) here))
  where
    here : unpriced q x.location ≡ false
    here =
        none_middle (λ (y : Bilateral). unpriced q y.location) xs x ys
        (subst (λ zs. list_any (λ (y : Bilateral). unpriced q y.location) zs ≡ false) e (or_parts (list_any (λ (r : Record). unpriced q r.location) b.records) (list_any (λ (y : Bilateral). unpriced q y.location) b.bilaterals) u).1)

    in_market : (m : Market) → (is_some (q x.location DayAhead) ≡ true) × (is_some (q x.location RealTime) ≡ true) → is_some (q x.location m) ≡ true
    in_market DayAhead h = h.0
    in_market RealTime h = h.1

-- two locations with a price have one energy component
same_energy : (t : Terms) (m : Market) (k l : LocationCode) → is_some (t.quote k m) ≡ true → is_some (t.quote l m) ≡ true → price_at t.quote m energy k ≡ price_at t.quote m energy l
same_energy t m k l a c = go (t.quote k m) (t.quote l m) refl refl a c
  where
    go : (x y : Option Price) → t.quote k m ≡ x → t.quote l m ≡ y → is_some x ≡ true → is_some y ≡ true → component_in energy x ≡ component_in energy y
    go None y e f a c = absurd (false≢true a)
    go (Some p) None e f a c = absurd (false≢true c)
    go (Some p) (Some q) e f a c = t.alike k l m p q e f

module _ (o : Opening) (past : List Call) (o' : Opening) (past' : List Call) (d e : Settling) (two : TwoSettled o past o' past' d e) where
  abbrev here : Market → Component → ℤ → ℤ
  here m c p = charge d.postings d.terms m c p

  -- the second hour's, by the first one's prices and rounding
  abbrev there : Market → Component → ℤ → ℤ
  there m c p = charge e.postings d.terms m c p

  first_is : (m : Market) (c : Component) (p : ℤ) → (told o (accepted o past)).amounts p (component_charge m c) ≡ here m c p
  first_is m c p = last_amount o past d two.first_settled p (component_charge m c)

  second_is : (m : Market) (c : Component) (p : ℤ) → (told o' (accepted o' past')).amounts p (component_charge m c) ≡ there m c p
  second_is m c p = last_amount o' past' e two.second_settled p (component_charge m c) ∙ same_charge d.terms e.terms two.terms_are e.postings m c p

  one_more_of : (cents : ℕ) → 3 ≤ cents → (x : Bilateral) → OneMore x d.postings e.postings → OneBilateral cents x d (told o (accepted o past)).amounts (told o' (accepted o' past')).amounts
  one_more_of cents at_least_lem x more = record {
    third_parties = λ p n k m c. second_is m c p ∙ third_parties_stay x d.postings e.postings more d.terms m c p n k ∙ sym (first_is m c p);
    pair_near = λ m c. both_near (second_is m c x.buyer) (second_is m c x.seller) (first_is m c x.buyer) (first_is m c x.seller) (pair_within_3 x d.postings e.postings more d.terms m c two_parties);
    pair_cancels = λ a k m c. both_add (second_is m c x.buyer) (second_is m c x.seller) ∙ pair_cancels x d.postings e.postings more d.terms m c two_parties a k;
  }
    where
      two_parties : ¬ (x.buyer ≡ x.seller)
      two_parties = (all_middle (BilateralKept (participant_count o')) more.before x more.after (subst (AllByRecursion (BilateralKept (participant_count o'))) more.second_has (last_soundly o' past' e two.second_settled).kept.bilaterals_kept)).two_parties

      both_add : {a b a' b' : ℤ} → a ≡ a' → b ≡ b' → a +ℤ b ≡ a' +ℤ b'
      both_add f g = cc

      both_near : {a b f g a' b' f' g' : ℤ} → a ≡ a' → b ≡ b' → f ≡ f' → g ≡ g' → apart (a' +ℤ b') (f' +ℤ g') ≤ 3 → apart (a +ℤ b) (f +ℤ g) ≤ cents
      both_near h i j k l = rw (h, i, j, k) (omega (arith, l, at_least_lem))

  moved_of : (x : Bilateral) (l : LocationCode) → Moved x l d.postings e.postings → (m : Market) (p : ℤ) → (told o' (accepted o' past')).amounts p (component_charge m energy) ≡ (told o (accepted o past)).amounts p (component_charge m energy)
  moved_of x l v m p =
      let from : is_some (d.terms.quote x.location m) ≡ true = priced_at d.terms.quote d.postings v.before x v.after v.first_has (last_soundly o past d two.first_settled).priced m in
      let to : is_some (d.terms.quote l m) ≡ true = ap is_some (sym (two.terms_are.prices_are l m)) ∙ priced_at e.terms.quote e.postings v.before (moved_to l x) v.after v.second_has (last_soundly o' past' e two.second_settled).priced m in
      second_is m energy p
      ∙ moved_stays x l d.postings e.postings v d.terms m energy (same_energy d.terms m x.location l from to) p
      ∙ sym (first_is m energy p)

pub one_bilateral_more : (cents : ℕ) → 3 ≤ cents → (o : Opening) (past : List Call) (o' : Opening) (past' : List Call) → OneBilateralMore cents o past o' past'
one_bilateral_more cents at_least_lem o past o' past' = record { one_more = λ d e two. one_more_of o past o' past' d e two cents at_least_lem; moved = moved_of o past o' past' }

-- ---- within the sharing limits
pub within_sharing_limits : (pool weight : ℕ) → 40000000128 ≤ pool → 150000000 ≤ weight → (o : Opening) (past : List Call) → WithinSharingLimits pool weight o past
within_sharing_limits pool weight p w o past = record {
  pool_limit = λ t m. omega (arith, p, pool_bound (participant_count o) (standing (accepted o past)) (sound o past).kept t m (at_most_64 o));
  weight_limit = omega (arith, w, weight_bound (participant_count o) (standing (accepted o past)) (sound o past).kept);
  never_refused = λ t. pools_shareable (participant_count o) (standing (accepted o past)) (sound o past).kept (at_most_64 o) t;
}
