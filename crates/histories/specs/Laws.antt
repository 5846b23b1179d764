-- The laws of an hour, each for every history of calls.
use Rattle.std.specs.Prelude.{◌≡◌, ℕ, ◌+◌, ◌*◌, ◌≤◌, true, cond, List, [], ◌∷◌, map, length, ℤ, pos, ◌+ℤ◌, Some, None, Option, ◌==◌, unsigned_abs}
use Rattle.measures.specs.Faults.{fault, number_of}
use Rattle.measures.specs.declared.code.LocationCode.{LocationCode}
use Rattle.measures.specs.declared.fault.Cause.{Cause}
use Rattle.measures.specs.declared.fault.Cause.TheVariants.{VoidHour}
use Rattle.measures.specs.declared.fault.Fault.{Fault}
use Rattle.measures.specs.declared.fault.Layer.TheVariants.{Hour}
use Rattle.prices.specs.Quotes.{Quote}
use Rattle.prices.specs.declared.price.Market.{Market}
use Rattle.rules.specs.Sharing.{shareable}
use Rattle.postings.specs.Openings.{is_void, participant_count, record_capacity, bilateral_capacity}
use Rattle.postings.specs.declared.bilateral.Bilateral.{Bilateral}
use Rattle.postings.specs.declared.opening.Opening.{Opening}
use Rattle.obligations.specs.Charges.{participants, Line, component_charge, all_lines, revenue_pool, weights, total_weight, anybody_weighs}
use Rattle.obligations.specs.Comparisons.{OneMore, Moved, Absent, SameTerms}
use Rattle.obligations.specs.Exact.{WithinCents, exact_bill, congestion_value, whole}
use Rattle.obligations.specs.Limits.{Between, Kept}
use Rattle.obligations.specs.Positions.{Postings}
use Rattle.obligations.specs.Sums.{sum_over, apart}
use Rattle.obligations.specs.Terms.{Terms, Component, energy}
use Rattle.histories.specs.Calls.{Call, refused}
use Rattle.histories.specs.Causes.{holds}
use Rattle.histories.specs.Hours.{opened, hour_after, answer_in}
use Rattle.histories.specs.Told.{Settling, told, phase_told, standing, accepted, answer_after, cause_after, issued, last_settling}

-- ---- from these calls alone
-- where a cause stands in the order of refusals: the void hour first, then the numbers upward
abbrev pub rank : Cause → ℕ
rank r = cond (number_of r == 25) 0 (number_of r)

-- a cause holds of a call after the accepted calls of a history
abbrev pub Holds : Opening → List Call → Call → Cause → Type 0
Holds o past c r = holds o (phase_told o (accepted o past)) (standing (accepted o past)) c r ≡ true

pub record FromTheseCallsAlone (o : Opening) (past : List Call) : Type 0 where
  -- call by call, an hour comes to what its accepted calls tell: phase, postings, amounts, adjustments and fund
  pub hour_is_told : hour_after o past ≡ told o (accepted o past)
  -- and answers to the next call what is due after them
  pub answer_is_due : (c : Call) → answer_in o (hour_after o past) c ≡ answer_after o (accepted o past) c
  -- a refused call changes nothing
  pub refusal_changes_nothing : (c : Call) (f : Fault) → answer_after o (accepted o past) c ≡ refused f → told o (accepted o (c ∷ past)) ≡ told o (accepted o past)
  -- a call is refused for a cause that holds, the first of them in order; and it is accepted where none holds
  pub refused_for_a_cause : (c : Call) (r : Cause) → cause_after o (accepted o past) c ≡ Some r → Holds o past c r
  pub refused_for_the_first : (c : Call) (r s : Cause) → cause_after o (accepted o past) c ≡ Some r → Holds o past c s → rank r ≤ rank s
  pub accepted_without_cause : (c : Call) (s : Cause) → cause_after o (accepted o past) c ≡ None → ¬ Holds o past c s
  -- participants and quantities are in range, no market passes its limits, and the lists hold no more than they have room for
  pub postings_kept : Kept (participant_count o) (standing (accepted o past))
  pub records_fit : length (standing (accepted o past)).records ≤ record_capacity o
  pub bilaterals_fit : length (standing (accepted o past)).bilaterals ≤ bilateral_capacity o
  -- a void hour refuses every call as such, and stays as it was opened
  pub void_refuses : is_void o ≡ true → (c : Call) → answer_after o (accepted o past) c ≡ refused (fault VoidHour Hour None)
  pub void_stays : is_void o ≡ true → told o (accepted o past) ≡ opened o

-- ---- both sides of every cent
-- some number for each participant and line, added over all of them
abbrev pub over_all_lines : ℕ → (ℤ → Line → ℤ) → ℤ
over_all_lines P f = sum_over (λ p. sum_over (f p) all_lines) (participants P)

pub record BothSides (o : Opening) (past : List Call) : Type 0 where
  -- all line adjustments issued so far add up to the fund, and so do the fund's own
  pub lines_make_fund : sum_over (λ i. over_all_lines (participant_count o) i.to_line) (issued o past) ≡ (told o (accepted o past)).fund_amount
  pub fund_adds_up : sum_over (λ i. i.to_fund) (issued o past) ≡ (told o (accepted o past)).fund_amount
  -- those of one participant and line add up to the amount that stands
  pub line_adds_up : (p : ℤ) (k : Line) → sum_over (λ i. i.to_line p k) (issued o past) ≡ (told o (accepted o past)).amounts p k

-- ---- near the exact bill, as last settled; before the first settling, by no postings
abbrev pub settled_postings : Option Settling → Postings
settled_postings None = record { records = []; bilaterals = [] }
settled_postings (Some d) = d.postings

abbrev pub settled_quote : Option Settling → Quote
settled_quote None c m = None
settled_quote (Some d) c m = d.terms.quote c m

-- a participant's lines added, as they stand
abbrev pub bill_told : Opening → List Call → ℤ → ℤ
bill_told o past p = sum_over ((told o (accepted o past)).amounts p) all_lines

-- less than `cents` + `each` × P cents for a bill, and `fund` × P cents for the fund
pub record NearExact (cents each fund : ℕ) (o : Opening) (past : List Call) : Type 0 where
  -- each bill lies so near its exact bill
  pub bill_near : (p : ℤ) → Between (pos 1) (pos (participant_count o)) p →
      WithinCents (cents + each * participant_count o) (bill_told o past p)
      (exact_bill (settled_postings (last_settling o past)) (settled_quote (last_settling o past)) (participant_count o) p)
  -- where anybody has weight, the fund lies so near the congestion value of the records alone
  pub fund_near : anybody_weighs (settled_postings (last_settling o past)) (participant_count o) ≡ true →
      WithinCents (fund * participant_count o) (told o (accepted o past)).fund_amount
      (whole (congestion_value (settled_postings (last_settling o past)) (settled_quote (last_settling o past)) (participant_count o)))

-- ---- one bilateral more
-- the amounts of lines 1 to 6 in an hour without the bilateral x (first) and in one with it (second)
pub record OneBilateral (cents : ℕ) (x : Bilateral) (d : Settling) (first second : ℤ → Line → ℤ) : Type 0 where
  -- third parties' are equal
  pub third_parties : (p : ℤ) → ¬ (x.buyer ≡ p) → ¬ (x.seller ≡ p) → (m : Market) (c : Component) → second p (component_charge m c) ≡ first p (component_charge m c)
  -- the buyer's and the seller's, added, differ by at most so many cents
  pub pair_near : (m : Market) (c : Component) →
      apart (second x.buyer (component_charge m c) +ℤ second x.seller (component_charge m c)) (first x.buyer (component_charge m c) +ℤ first x.seller (component_charge m c)) ≤ cents
  -- where the two stand in no other posting, they cancel
  pub pair_cancels : Absent x.buyer d.postings → Absent x.seller d.postings → (m : Market) (c : Component) →
      second x.buyer (component_charge m c) +ℤ second x.seller (component_charge m c) ≡ pos 0

-- two hours with as many participants, each settled, last with equal prices and rounding rule
pub record TwoSettled (o : Opening) (past : List Call) (o' : Opening) (past' : List Call) (d e : Settling) : Type 0 where
  pub as_many : participant_count o' ≡ participant_count o
  pub first_settled : last_settling o past ≡ Some d
  pub second_settled : last_settling o' past' ≡ Some e
  pub terms_are : SameTerms d.terms e.terms

pub record OneBilateralMore (cents : ℕ) (o : Opening) (past : List Call) (o' : Opening) (past' : List Call) : Type 0 where
  pub one_more : (d e : Settling) → TwoSettled o past o' past' d e → (x : Bilateral) → OneMore x d.postings e.postings →
      OneBilateral cents x d (told o (accepted o past)).amounts (told o' (accepted o' past')).amounts
  -- moved to another location with a price, everybody's energy lines (1 and 4) stay
  pub moved : (d e : Settling) → TwoSettled o past o' past' d e → (x : Bilateral) (l : LocationCode) → Moved x l d.postings e.postings → (m : Market) (p : ℤ) →
      (told o' (accepted o' past')).amounts p (component_charge m energy) ≡ (told o (accepted o past)).amounts p (component_charge m energy)

-- ---- within the sharing limits, whatever terms a settling brings
pub record WithinSharingLimits (pool weight : ℕ) (o : Opening) (past : List Call) : Type 0 where
  pub pool_limit : (t : Terms) (m : Market) → unsigned_abs (revenue_pool (standing (accepted o past)) t (participant_count o) m) ≤ pool
  pub weight_limit : total_weight (standing (accepted o past)) (participant_count o) ≤ weight
  -- so both pools can be shared where anybody has weight
  pub never_refused : (t : Terms) (m : Market) → anybody_weighs (standing (accepted o past)) (participant_count o) ≡ true →
      shareable (revenue_pool (standing (accepted o past)) t (participant_count o) m) (map pos (weights (standing (accepted o past)) (participant_count o))) (participant_count o) ≡ true
