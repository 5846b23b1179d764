-- The calls of an hour, what each names, and what it can be answered.
use Rattle.std.specs.Prelude.{ℕ, Bool, false, List, [], ◌∷◌, ℤ, Some, None, Option}
use Rattle.std.specs.Ordering.{int_eq}
use Rattle.measures.specs.declared.amounts.KilowattHours.{KilowattHours}
use Rattle.measures.specs.declared.code.LocationCode.{LocationCode}
use Rattle.measures.specs.declared.fault.Fault.{Fault}
use Rattle.postings.specs.declared.bilateral.Bilateral.{Bilateral}
use Rattle.postings.specs.declared.phase.Phase.{Phase}
use Rattle.postings.specs.declared.phase.Phase.TheVariants.{RealTimeOpen, Settled}
use Rattle.postings.specs.declared.record.Record.{Record}
use Rattle.obligations.specs.Terms.{Terms}

-- what can be asked of an hour; a revision names a posting's number and its new quantity
pub data Call : Type 0 where
  post_record : Record → Call
  post_bilateral : Bilateral → Call
  revise_record : ℤ → KilowattHours → Call
  revise_bilateral : ℤ → KilowattHours → Call
  close : Call
  settle : Terms → Call
  reopen : Call

-- a posting's number, nothing further, the fund's adjustment, or a refusal
pub data Answer : Type 0 where
  numbered : ℕ → Answer
  done : Answer
  fund_adjusted : ℤ → Answer
  refused : Fault → Answer

-- ---- what a call names
abbrev pub participants_named : Call → List ℤ
participants_named (post_record r) = r.participant ∷ []
participants_named (post_bilateral x) = x.buyer ∷ x.seller ∷ []
participants_named _ = []

abbrev pub quantities_named : Call → List ℤ
quantities_named (post_record r) = r.quantity.0 ∷ []
quantities_named (post_bilateral x) = x.quantity.0 ∷ []
quantities_named (revise_record n q) = q.0 ∷ []
quantities_named (revise_bilateral n q) = q.0 ∷ []
quantities_named _ = []

abbrev pub codes_named : Call → List LocationCode
codes_named (post_record r) = r.location ∷ []
codes_named (post_bilateral x) = x.location ∷ []
codes_named _ = []

-- a bilateral of one participant with itself
abbrev pub with_itself : Call → Bool
with_itself (post_bilateral x) = int_eq x.buyer x.seller
with_itself _ = false

-- ---- what a call is, where it is of one sort
abbrev pub record_posted : Call → Option Record
record_posted (post_record r) = Some r
record_posted _ = None

abbrev pub bilateral_posted : Call → Option Bilateral
bilateral_posted (post_bilateral x) = Some x
bilateral_posted _ = None

-- a posting's number and its new quantity
pub record Revision : Type 0 where
  pub number : ℤ
  pub quantity : KilowattHours

abbrev pub record_revised : Call → Option Revision
record_revised (revise_record n q) = Some (record { number = n; quantity = q })
record_revised _ = None

abbrev pub bilateral_revised : Call → Option Revision
bilateral_revised (revise_bilateral n q) = Some (record { number = n; quantity = q })
bilateral_revised _ = None

-- the terms that a settling brings
abbrev pub terms_brought : Call → Option Terms
terms_brought (settle t) = Some t
terms_brought _ = None

-- the phase that a call leads to, where it leads to one
abbrev pub leads_to : Call → Option Phase
leads_to close = Some RealTimeOpen
leads_to (settle t) = Some Settled
leads_to reopen = Some RealTimeOpen
leads_to _ = None
