-- An hour call by call: what it answers to a call, and what stands after it.
use Rattle.std.specs.Prelude.{suc, List, [], ◌∷◌, length, ℤ, pos, ◌-ℤ◌, Some, None, Option}
use Rattle.measures.specs.declared.fault.Cause.{Cause}
use Rattle.postings.specs.Openings.{participant_count}
use Rattle.postings.specs.declared.opening.Opening.{Opening}
use Rattle.postings.specs.declared.phase.Phase.{Phase}
use Rattle.postings.specs.declared.phase.Phase.TheVariants.{RealTimeOpen, Settled}
use Rattle.obligations.specs.Charges.{amount, fund}
use Rattle.obligations.specs.Positions.{Postings}
use Rattle.obligations.specs.Terms.{Terms}
use Rattle.histories.specs.Calls.{Call, post_record, post_bilateral, revise_record, revise_bilateral, close, settle, reopen, Answer, numbered, done, fund_adjusted, refused}
use Rattle.histories.specs.Causes.{first_cause, hour_fault, postings_after}
use Rattle.histories.specs.Told.{State, opening_phase, answer_by}

-- at first there are no postings, and every amount is 0
abbrev pub opened : Opening → State
opened o = record {
  phase = opening_phase o;
  postings = record { records = []; bilaterals = [] };
  amounts = λ p k. pos 0;
  adjustments = λ p k. pos 0;
  fund_amount = pos 0;
  fund_adjustment = pos 0;
}

abbrev pub cause_in : Opening → State → Call → Option Cause
cause_in o h c = first_cause o h.phase h.postings c

-- the fund that a settling sets
abbrev pub fund_in : Opening → State → Terms → ℤ
fund_in o h t = fund h.postings t (participant_count o)

-- accepted: a posting is told its number, a settling the fund's adjustment
abbrev pub reply_in : Opening → State → Call → Answer
reply_in o h (post_record r) = numbered (suc (length h.postings.records))
reply_in o h (post_bilateral x) = numbered (suc (length h.postings.bilaterals))
reply_in o h (settle t) = fund_adjusted (fund_in o h t -ℤ h.fund_amount)
reply_in o h _ = done

abbrev pub answer_in : Opening → State → Call → Answer
answer_in o h c = answer_by (reply_in o h c) (λ r. refused (hour_fault h.postings c r)) (cause_in o h c)

-- postings change by posting and revising; the phase by closing, settling and reopening; amounts by settling alone
abbrev pub reposted : State → Postings → State
reposted h b = record { phase = h.phase; postings = b; amounts = h.amounts; adjustments = h.adjustments; fund_amount = h.fund_amount; fund_adjustment = h.fund_adjustment }

abbrev pub in_phase : State → Phase → State
in_phase h f = record { phase = f; postings = h.postings; amounts = h.amounts; adjustments = h.adjustments; fund_amount = h.fund_amount; fund_adjustment = h.fund_adjustment }

-- settling sets every adjustment to new amount less old, then stores the amounts
abbrev pub settled_by : Opening → State → Terms → State
settled_by o h t = record {
  phase = Settled;
  postings = h.postings;
  amounts = λ p k. amount h.postings t (participant_count o) p k;
  adjustments = λ p k. amount h.postings t (participant_count o) p k -ℤ h.amounts p k;
  fund_amount = fund_in o h t;
  fund_adjustment = fund_in o h t -ℤ h.fund_amount;
}

abbrev pub once_accepted : Opening → State → Call → State
once_accepted o h (post_record r) = reposted h (postings_after h.postings (post_record r))
once_accepted o h (post_bilateral x) = reposted h (postings_after h.postings (post_bilateral x))
once_accepted o h (revise_record n q) = reposted h (postings_after h.postings (revise_record n q))
once_accepted o h (revise_bilateral n q) = reposted h (postings_after h.postings (revise_bilateral n q))
once_accepted o h close = in_phase h RealTimeOpen
once_accepted o h (settle t) = settled_by o h t
once_accepted o h reopen = in_phase h RealTimeOpen

-- a refused call changes nothing
abbrev pub hour_if : Option Cause → State → State → State
hour_if None next h = next
hour_if (Some r) next h = h

abbrev pub after_call : Opening → State → Call → State
after_call o h c = hour_if (cause_in o h c) (once_accepted o h c) h

-- after all calls of a history, the newest first
abbrev pub hour_after : Opening → List Call → State
hour_after o [] = opened o
hour_after o (c ∷ past) = after_call o (hour_after o past) c
