-- What stands in an hour, told by the accepted calls alone; and which calls of a history are accepted.
-- Lists of calls have the newest call first.
use Rattle.std.specs.Prelude.{ℕ, suc, cond, List, [], ◌∷◌, ◌++◌, length, ℤ, pos, ◌-ℤ◌, Some, None, Option}
use Rattle.std.specs.Ordering.{int_eq}
use Rattle.std.specs.Option.{option_or, unwrap_or}
use Rattle.measures.specs.declared.amounts.KilowattHours.{KilowattHours}
use Rattle.measures.specs.declared.fault.Cause.{Cause}
use Rattle.postings.specs.Openings.{is_void, participant_count}
use Rattle.postings.specs.Revised.{revised_record, revised_bilateral}
use Rattle.postings.specs.declared.opening.Opening.{Opening}
use Rattle.postings.specs.declared.phase.Phase.{Phase}
use Rattle.postings.specs.declared.phase.Phase.TheVariants.{Void, DayAheadOpen}
use Rattle.obligations.specs.Charges.{Line, amount, fund}
use Rattle.obligations.specs.Positions.{Postings}
use Rattle.obligations.specs.Terms.{Terms}
use Rattle.histories.specs.Calls.{Call, post_record, post_bilateral, settle, Answer, numbered, done, fund_adjusted, refused, Revision, record_posted, bilateral_posted, record_revised, bilateral_revised, terms_brought, leads_to}
use Rattle.histories.specs.Causes.{first_cause, hour_fault}

-- ---- looking for calls of one sort
-- the last one
abbrev pub latest : {A : Type 0} → (Call → Option A) → List Call → Option A
latest sort [] = None
latest sort (c ∷ cs) = option_or (sort c) (latest sort cs)

abbrev pub with_last : {A : Type 0} → List A → Option A → List A
with_last xs None = xs
with_last xs (Some x) = xs ++ x ∷ []

-- all of them, in the order in which they came
abbrev pub in_order : {A : Type 0} → (Call → Option A) → List Call → List A
in_order sort [] = []
in_order sort (c ∷ cs) = with_last (in_order sort cs) (sort c)

-- ---- the phase: that of the last closing, settling or reopening; before any, the one at opening
abbrev pub opening_phase : Opening → Phase
opening_phase o = cond (is_void o) Void DayAheadOpen

abbrev pub phase_told : Opening → List Call → Phase
phase_told o cs = unwrap_or (latest leads_to cs) (opening_phase o)

-- ---- the postings: in order, numbered from 1, each with the quantity of the last revision of its number, else as posted
abbrev pub quantity_if : Option Revision → ℕ → Option KilowattHours
quantity_if None n = None
quantity_if (Some v) n = cond (int_eq v.number (pos n)) (Some v.quantity) None

-- the last quantity to which a number was revised
abbrev pub revised_to : (Call → Option Revision) → List Call → ℕ → Option KilowattHours
revised_to revision cs n = latest (λ c. quantity_if (revision c) n) cs

-- f of each element and its number, counted from n
abbrev pub number_from : {X Y : Type 0} → ℕ → (ℕ → X → Y) → List X → List Y
number_from n f [] = []
number_from n f (x ∷ xs) = f n x ∷ number_from (suc n) f xs

abbrev pub standing : List Call → Postings
standing cs = record {
  records = number_from 1 (λ n r. revised_record (unwrap_or (revised_to record_revised cs n) r.quantity) r) (in_order record_posted cs);
  bilaterals = number_from 1 (λ n x. revised_bilateral (unwrap_or (revised_to bilateral_revised cs n) x.quantity) x) (in_order bilateral_posted cs);
}

-- ---- the settlings, the last one first: each with the postings as they stood, and the terms that it brought
pub record Settling : Type 0 where
  pub postings : Postings
  pub terms : Terms

abbrev pub with_settling : Postings → Option Terms → List Settling → List Settling
with_settling b None ds = ds
with_settling b (Some t) ds = record { postings = b; terms = t } ∷ ds

abbrev pub settlings : List Call → List Settling
settlings [] = []
settlings (c ∷ cs) = with_settling (standing cs) (terms_brought c) (settlings cs)

-- the amounts and the fund of the last of some settlings; 0 where there is none
abbrev pub amount_by : ℕ → List Settling → ℤ → Line → ℤ
amount_by P [] p k = pos 0
amount_by P (d ∷ ds) p k = amount d.postings d.terms P p k

abbrev pub fund_by : ℕ → List Settling → ℤ
fund_by P [] = pos 0
fund_by P (d ∷ ds) = fund d.postings d.terms P

-- the settlings before the last
abbrev pub earlier : List Settling → List Settling
earlier [] = []
earlier (d ∷ ds) = ds

-- ---- all that stands in an hour
pub record State : Type 0 where
  pub phase : Phase
  pub postings : Postings
  pub amounts : ℤ → Line → ℤ
  pub adjustments : ℤ → Line → ℤ
  pub fund_amount : ℤ
  pub fund_adjustment : ℤ

-- amounts and fund are those of the last settling; adjustments are these less what stood before it
abbrev pub told : Opening → List Call → State
told o cs = record {
  phase = phase_told o cs;
  postings = standing cs;
  amounts = λ p k. amount_by (participant_count o) (settlings cs) p k;
  adjustments = λ p k. amount_by (participant_count o) (settlings cs) p k -ℤ amount_by (participant_count o) (earlier (settlings cs)) p k;
  fund_amount = fund_by (participant_count o) (settlings cs);
  fund_adjustment = fund_by (participant_count o) (settlings cs) -ℤ fund_by (participant_count o) (earlier (settlings cs));
}

-- ---- what a call is answered, and which are accepted
-- the first cause that holds of a call after the accepted calls cs
abbrev pub cause_after : Opening → List Call → Call → Option Cause
cause_after o cs c = first_cause o (phase_told o cs) (standing cs) c

-- accepted: a posting is told its number, a settling the fund's adjustment
abbrev pub reply_after : Opening → List Call → Call → Answer
reply_after o cs (post_record r) = numbered (suc (length (in_order record_posted cs)))
reply_after o cs (post_bilateral x) = numbered (suc (length (in_order bilateral_posted cs)))
reply_after o cs (settle t) = fund_adjusted (fund_by (participant_count o) (settlings (settle t ∷ cs)) -ℤ fund_by (participant_count o) (settlings cs))
reply_after o cs _ = done

abbrev pub answer_by : Answer → (Cause → Answer) → Option Cause → Answer
answer_by reply refusal None = reply
answer_by reply refusal (Some r) = refusal r

-- the answer due to a call after the accepted calls cs
abbrev pub answer_after : Opening → List Call → Call → Answer
answer_after o cs c = answer_by (reply_after o cs c) (λ r. refused (hour_fault (standing cs) c r)) (cause_after o cs c)

-- a call counts where no cause holds
abbrev pub counted_if : Option Cause → Call → List Call → List Call
counted_if None c cs = c ∷ cs
counted_if (Some r) c cs = cs

-- the accepted calls of a history
abbrev pub accepted : Opening → List Call → List Call
accepted o [] = []
accepted o (c ∷ past) = counted_if (cause_after o (accepted o past) c) c (accepted o past)

-- the answers to all calls of a history
abbrev pub answers : Opening → List Call → List Answer
answers o [] = []
answers o (c ∷ past) = answer_after o (accepted o past) c ∷ answers o past

-- ---- what has been issued, by all settlings: new amounts less old ones
pub record Issue : Type 0 where
  pub to_line : ℤ → Line → ℤ
  pub to_fund : ℤ

abbrev pub issued_by : ℕ → List Settling → List Issue
issued_by P [] = []
issued_by P (d ∷ ds) = record {
  to_line = λ p k. amount_by P (d ∷ ds) p k -ℤ amount_by P ds p k;
  to_fund = fund_by P (d ∷ ds) -ℤ fund_by P ds;
} ∷ issued_by P ds

-- all that a history has issued
abbrev pub issued : Opening → List Call → List Issue
issued o past = issued_by (participant_count o) (settlings (accepted o past))

-- as last settled: the last settling, where there is one
abbrev pub newest : List Settling → Option Settling
newest [] = None
newest (d ∷ ds) = Some d

abbrev pub last_settling : Opening → List Call → Option Settling
last_settling o past = newest (settlings (accepted o past))
