-- Why a call is refused: one test for each cause, in a fixed order.
use Rattle.std.specs.Prelude.{ℕ, zero, suc, ◌-◌, Bool, false, cond, not, ◌&&◌, ◌||◌, List, [], ◌∷◌, ◌++◌, length, ℤ, pos, is_some, Some, None, Option, int_lt, nat_le, slice_get, unsigned_abs}
use Rattle.std.specs.Option.{option_and_then, option_map, option_or}
use Rattle.std.specs.List.{find, list_any}
use Rattle.measures.specs.Codes.{well_formed}
use Rattle.measures.specs.Faults.{fault}
use Rattle.measures.specs.declared.code.LocationCode.{LocationCode}
use Rattle.measures.specs.declared.fault.Cause.{Cause}
use Rattle.measures.specs.declared.fault.Cause.TheVariants.{UnknownParticipant, QuantityOutOfRange, MalformedCode, BuyerIsSeller, UnknownPosting, PostingWithoutPrice, WrongPhase, ListFull, MarketLimit, VoidHour}
use Rattle.measures.specs.declared.fault.Fault.{Fault}
use Rattle.measures.specs.declared.fault.Layer.TheVariants.{Hour}
use Rattle.prices.specs.Quotes.{Quote}
use Rattle.prices.specs.declared.price.Market.{Market}
use Rattle.prices.specs.declared.price.Market.TheVariants.{DayAhead, RealTime}
use Rattle.postings.specs.Kinds.{record_market, bilateral_market}
use Rattle.postings.specs.Openings.{within, is_void, participant_count, record_capacity, bilateral_capacity}
use Rattle.postings.specs.Phases.{same_phase, open_phase}
use Rattle.postings.specs.Revised.{revised_record, revised_bilateral}
use Rattle.postings.specs.declared.bilateral.Bilateral.{Bilateral}
use Rattle.postings.specs.declared.opening.Opening.{Opening}
use Rattle.postings.specs.declared.phase.Phase.{Phase}
use Rattle.postings.specs.declared.phase.Phase.TheVariants.{DayAheadOpen, RealTimeOpen, Settled}
use Rattle.postings.specs.declared.record.Record.{Record}
use Rattle.obligations.specs.Limits.{records_total, bilaterals_total}
use Rattle.obligations.specs.Positions.{Postings}
use Rattle.obligations.specs.Terms.{Terms}
use Rattle.histories.specs.Calls.{Call, post_record, post_bilateral, revise_record, revise_bilateral, close, settle, reopen, participants_named, quantities_named, codes_named, with_itself, terms_brought}

-- ---- postings by number
-- numbers count from 1, places from 0
abbrev pub place_of : ℤ → ℕ
place_of n = unsigned_abs n - 1

-- the market of the posting of a number, where there is one
abbrev pub record_market_at : Postings → ℤ → Option Market
record_market_at b n = option_map (λ (r : Record). record_market r.kind) (slice_get b.records (place_of n))

abbrev pub bilateral_market_at : Postings → ℤ → Option Market
bilateral_market_at b n = option_map (λ (x : Bilateral). bilateral_market x.kind) (slice_get b.bilaterals (place_of n))

-- one element changed, the others as they were
abbrev pub changed : {X : Type 0} → ℕ → (X → X) → List X → List X
changed i f [] = []
changed zero f (x ∷ xs) = f x ∷ xs
changed (suc i) f (x ∷ xs) = x ∷ changed i f xs

-- the postings once the call is accepted: one more at the end, one with another quantity, or as they were
abbrev pub postings_after : Postings → Call → Postings
postings_after b (post_record r) = record { records = b.records ++ r ∷ []; bilaterals = b.bilaterals }
postings_after b (post_bilateral x) = record { records = b.records; bilaterals = b.bilaterals ++ x ∷ [] }
postings_after b (revise_record n q) = record { records = changed (place_of n) (revised_record q) b.records; bilaterals = b.bilaterals }
postings_after b (revise_bilateral n q) = record { records = b.records; bilaterals = changed (place_of n) (revised_bilateral q) b.bilaterals }
postings_after b close = b
postings_after b (settle t) = b
postings_after b reopen = b

-- ---- the tests
-- no posting has the number that is revised
abbrev pub unknown_posting : Postings → Call → Bool
unknown_posting b (revise_record n q) = not (within (pos 1) (pos (length b.records)) n)
unknown_posting b (revise_bilateral n q) = not (within (pos 1) (pos (length b.bilaterals)) n)
unknown_posting b _ = false

-- a location has no price, or only in one market
abbrev pub unpriced : Quote → LocationCode → Bool
unpriced q l = not (is_some (q l DayAhead) && is_some (q l RealTime))

abbrev pub any_unpriced : Quote → Postings → Bool
any_unpriced q b = list_any (λ (r : Record). unpriced q r.location) b.records || list_any (λ (x : Bilateral). unpriced q x.location) b.bilaterals

-- a posting lacks a price in the terms that are brought
abbrev pub lacks_price : Postings → Option Terms → Bool
lacks_price b None = false
lacks_price b (Some t) = any_unpriced t.quote b

-- the phase that takes the call; a revision of no posting asks for none
abbrev pub phase_needed : Postings → Call → Option Phase
phase_needed b (post_record r) = Some (open_phase (record_market r.kind))
phase_needed b (post_bilateral x) = Some (open_phase (bilateral_market x.kind))
phase_needed b (revise_record n q) = option_map open_phase (record_market_at b n)
phase_needed b (revise_bilateral n q) = option_map open_phase (bilateral_market_at b n)
phase_needed b close = Some DayAheadOpen
phase_needed b (settle t) = Some RealTimeOpen
phase_needed b reopen = Some Settled

abbrev pub other_phase : Phase → Option Phase → Bool
other_phase f None = false
other_phase f (Some g) = not (same_phase f g)

-- the list has no place left
abbrev pub list_full : Opening → Postings → Call → Bool
list_full o b (post_record r) = nat_le (record_capacity o) (length b.records)
list_full o b (post_bilateral x) = nat_le (bilateral_capacity o) (length b.bilaterals)
list_full o b _ = false

-- a market's records together at most 100,000,000 kWh, its bilaterals 50,000,000
abbrev pub records_past : Postings → Option Market → Bool
records_past b None = false
records_past b (Some m) = int_lt (pos 100000000) (records_total m b.records)

abbrev pub bilaterals_past : Postings → Option Market → Bool
bilaterals_past b None = false
bilaterals_past b (Some m) = int_lt (pos 50000000) (bilaterals_total m b.bilaterals)

-- the posting's market would pass its limit once the call is accepted
abbrev pub past_limit : Postings → Call → Bool
past_limit b (post_record r) = records_past (postings_after b (post_record r)) (Some (record_market r.kind))
past_limit b (post_bilateral x) = bilaterals_past (postings_after b (post_bilateral x)) (Some (bilateral_market x.kind))
past_limit b (revise_record n q) = records_past (postings_after b (revise_record n q)) (record_market_at b n)
past_limit b (revise_bilateral n q) = bilaterals_past (postings_after b (revise_bilateral n q)) (bilateral_market_at b n)
past_limit b _ = false

-- whether a cause holds of a call, in a phase and with the postings that stand; causes of other layers never do
abbrev pub holds : Opening → Phase → Postings → Call → Cause → Bool
holds o f b c VoidHour = is_void o
holds o f b c UnknownParticipant = list_any (λ p. not (within (pos 1) (pos (participant_count o)) p)) (participants_named c)
holds o f b c QuantityOutOfRange = list_any (λ q. not (within (pos 0) (pos 10000000) q)) (quantities_named c)
holds o f b c MalformedCode = list_any (λ l. not (well_formed l)) (codes_named c)
holds o f b c BuyerIsSeller = with_itself c
holds o f b c UnknownPosting = unknown_posting b c
holds o f b c PostingWithoutPrice = lacks_price b (terms_brought c)
holds o f b c WrongPhase = other_phase f (phase_needed b c)
holds o f b c ListFull = list_full o b c
holds o f b c MarketLimit = past_limit b c
holds o f b c _ = false

-- the void hour first, then the numbers upward
abbrev pub cause_order : List Cause
cause_order = VoidHour ∷ UnknownParticipant ∷ QuantityOutOfRange ∷ MalformedCode ∷ BuyerIsSeller ∷ UnknownPosting ∷ PostingWithoutPrice ∷ WrongPhase ∷ ListFull ∷ MarketLimit ∷ []

-- the first cause that holds
abbrev pub first_cause : Opening → Phase → Postings → Call → Option Cause
first_cause o f b c = find (holds o f b c) cause_order

-- ---- the place of a refusal
-- the first element that passes the test, counted from n
abbrev pub first_place : {X : Type 0} → (X → Bool) → ℕ → List X → Option ℕ
first_place test n [] = None
first_place test n (x ∷ xs) = cond (test x) (Some n) (first_place test (suc n) xs)

-- the first posting without a price: records from 1, then bilaterals from 1,025
abbrev pub unpriced_place : Postings → Terms → Option ℕ
unpriced_place b t =
    option_or (first_place (λ (r : Record). unpriced t.quote r.location) 1 b.records)
    (first_place (λ (x : Bilateral). unpriced t.quote x.location) 1025 b.bilaterals)

-- only the refusal for want of a price (7) has a place
abbrev pub fault_place : Postings → Call → Cause → Option ℕ
fault_place b c PostingWithoutPrice = option_and_then (unpriced_place b) (terms_brought c)
fault_place b c _ = None

-- the refusal for a cause: the hour's layer, and the place
abbrev pub hour_fault : Postings → Call → Cause → Fault
hour_fault b c r = fault r Hour (fault_place b c r)
