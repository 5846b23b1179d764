-- Worked hours: their calls, oldest first, and the figures that they come to.
use Rattle.std.specs.Prelude.{◌≡◌, ℕ, List, [], ◌∷◌, ◌++◌, map, reverse, ℤ, pos, negsuc, neg_ℤ, Some, None, Option, codes}
use Rattle.measures.specs.Faults.{fault}
use Rattle.measures.specs.declared.code.LocationCode.{LocationCode}
use Rattle.measures.specs.declared.amounts.KilowattHours.{KilowattHours}
use Rattle.measures.specs.declared.fault.Cause.{Cause}
use Rattle.measures.specs.declared.fault.Cause.TheVariants.{UnknownParticipant, QuantityOutOfRange, MalformedCode, BuyerIsSeller, UnknownPosting, PostingWithoutPrice, WrongPhase, ListFull, MarketLimit, VoidHour}
use Rattle.measures.specs.declared.fault.Layer.TheVariants.{Hour}
use Rattle.prices.specs.Rows.{rows_quote}
use Rattle.prices.specs.declared.row.Components.{Components}
use Rattle.prices.specs.declared.row.PriceRow.{PriceRow}
use Rattle.rules.specs.Rounding.{half_away, toward_zero}
use Rattle.rules.specs.Sharing.{largest_remainder, running}
use Rattle.postings.specs.declared.bilateral.BilateralKind.{BilateralKind}
use Rattle.postings.specs.declared.bilateral.BilateralKind.TheVariants.{DayAheadEnergy, RealTimeEnergy, RealTimeLoad}
use Rattle.postings.specs.declared.opening.Opening.{Opening}
use Rattle.postings.specs.declared.phase.Phase.TheVariants.{Settled}
use Rattle.postings.specs.declared.record.RecordKind.{RecordKind}
use Rattle.postings.specs.declared.record.RecordKind.TheVariants.{DemandBid, DecrementBid, SupplyOffer, IncrementOffer, DayAheadPurchase, MeteredLoad, ExternalSale, MeteredGeneration, RealTimePurchase}
use Rattle.obligations.specs.Charges.{all_lines}
use Rattle.obligations.specs.Positions.{Postings, adjusted_load, day_ahead_net, real_time_net, deviation}
use Rattle.obligations.specs.Terms.{Terms}
use Rattle.histories.specs.Calls.{Call, post_record, post_bilateral, revise_record, close, settle, reopen, Answer, numbered, done, fund_adjusted, refused}
use Rattle.histories.specs.Told.{told, accepted, answer_after, answers}

-- ---- names for what the examples are made of
abbrev pub code : List ℕ → LocationCode
code bytes = record { bytes = bytes }

abbrev pub node_a : LocationCode
node_a = code (codes "NODE.A  ")

abbrev pub node_b : LocationCode
node_b = code (codes "NODE.B  ")

abbrev pub kwh : ℤ → KilowattHours
kwh q = record { 0 = q }

-- kind, participant, location, quantity
abbrev pub record_call : RecordKind → ℤ → LocationCode → ℤ → Call
record_call k p l q = post_record (record { kind = k; participant = p; location = l; quantity = kwh q })

-- kind, buyer, seller, location, quantity
abbrev pub bilateral_call : BilateralKind → ℤ → ℤ → LocationCode → ℤ → Call
bilateral_call k b s l q = post_bilateral (record { kind = k; buyer = b; seller = s; location = l; quantity = kwh q })

abbrev pub components : ℤ → ℤ → ℤ → Components
components e c l = record { energy = e; congestion = c; loss = l }

-- an hour for so many participants, with room for all that an hour can hold
abbrev pub hour_of : ℤ → Opening
hour_of P = record { participants = P; rows = 64; record_places = 1024; bilateral_places = 256 }

-- a refusal of the hour
abbrev pub refusal : Cause → Option ℕ → Answer
refusal r place = refused (fault r Hour place)

-- ---- prices
abbrev pub sample_rows : List PriceRow
sample_rows =
    record { code = node_a; day_ahead = components (pos 5000) (negsuc 199) (negsuc 49); real_time = components (pos 6000) (pos 0) (negsuc 59) } ∷
    record { code = node_b; day_ahead = components (pos 5000) (pos 300) (pos 75); real_time = components (pos 6000) (pos 0) (pos 90) } ∷ []

-- the same, with congestion in the real-time market
abbrev pub congested_rows : List PriceRow
congested_rows =
    record { code = node_a; day_ahead = components (pos 5000) (negsuc 199) (negsuc 49); real_time = components (pos 6000) (negsuc 14) (negsuc 59) } ∷
    record { code = node_b; day_ahead = components (pos 5000) (pos 300) (pos 75); real_time = components (pos 6000) (pos 25) (pos 90) } ∷ []

-- lawful terms with given prices, rounding rule and sharing rule
pub record TermsOf (rows : List PriceRow) (rounds : ℤ → ℤ) (shares : ℤ → List ℤ → List ℤ) : Type 0 where
  pub terms : Terms
  pub prices_are : terms.quote ≡ rows_quote rows
  pub rounding_is : terms.rounds ≡ rounds
  pub sharing_is : terms.shares ≡ shares

-- ---- the sample hour of two participants
abbrev pub sample_calls : Terms → List Call
sample_calls t =
    record_call SupplyOffer (pos 1) node_a (pos 10000) ∷
    record_call DemandBid (pos 2) node_b (pos 9800) ∷
    bilateral_call DayAheadEnergy (pos 2) (pos 1) node_b (pos 1000) ∷
    close ∷
    record_call MeteredGeneration (pos 1) node_a (pos 10100) ∷
    record_call MeteredLoad (pos 2) node_b (pos 9900) ∷
    settle t ∷ []

-- the amounts of a participant's eight lines, and the fund, after some calls
abbrev pub lines_after : Opening → List Call → ℤ → List ℤ
lines_after o calls p = map ((told o (accepted o (reverse calls))).amounts p) all_lines

abbrev pub adjustments_after : Opening → List Call → ℤ → List ℤ
adjustments_after o calls p = map ((told o (accepted o (reverse calls))).adjustments p) all_lines

pub record SampleHour (t : Terms) : Type 0 where
  pub first : lines_after (hour_of (pos 2)) (sample_calls t) (pos 1) ≡ neg_ℤ (pos 45000) ∷ pos 2300 ∷ pos 575 ∷ neg_ℤ (pos 6600) ∷ pos 0 ∷ neg_ℤ (pos 84) ∷ pos 0 ∷ pos 0 ∷ []
  pub second : lines_after (hour_of (pos 2)) (sample_calls t) (pos 2) ≡ pos 44000 ∷ pos 2640 ∷ pos 660 ∷ pos 6600 ∷ pos 0 ∷ pos 99 ∷ neg_ℤ (pos 235) ∷ neg_ℤ (pos 15) ∷ []
  pub fund_is : (told (hour_of (pos 2)) (accepted (hour_of (pos 2)) (reverse (sample_calls t)))).fund_amount ≡ pos 4940

-- ---- metered generation alone: nobody has weight, and the fund takes energy and loss
abbrev pub generation_calls : Terms → List Call
generation_calls t = close ∷ record_call MeteredGeneration (pos 1) node_a (pos 1000) ∷ settle t ∷ []

pub record GenerationAlone (t : Terms) : Type 0 where
  pub lines_are : lines_after (hour_of (pos 2)) (generation_calls t) (pos 1) ≡ pos 0 ∷ pos 0 ∷ pos 0 ∷ neg_ℤ (pos 6000) ∷ pos 0 ∷ pos 60 ∷ pos 0 ∷ pos 0 ∷ []
  pub fund_is : (told (hour_of (pos 2)) (accepted (hour_of (pos 2)) (reverse (generation_calls t)))).fund_amount ≡ neg_ℤ (pos 5940)

-- ---- limits: the largest quantity and one more; a market's most and one more
abbrev pub full_market : List Call
full_market =
    record_call SupplyOffer (pos 1) node_a (pos 10000000) ∷ record_call DemandBid (pos 2) node_b (pos 10000000) ∷
    record_call SupplyOffer (pos 1) node_a (pos 10000000) ∷ record_call DemandBid (pos 2) node_b (pos 10000000) ∷
    record_call SupplyOffer (pos 1) node_a (pos 10000000) ∷ record_call DemandBid (pos 2) node_b (pos 10000000) ∷
    record_call SupplyOffer (pos 1) node_a (pos 10000000) ∷ record_call DemandBid (pos 2) node_b (pos 10000000) ∷
    record_call SupplyOffer (pos 1) node_a (pos 10000000) ∷ []

-- the answer to a call after some calls
abbrev pub answer_to : Opening → List Call → Call → Answer
answer_to o calls c = answer_after o (accepted o (reverse calls)) c

pub record LimitsMet : Type 0 where
  pub largest_taken : answer_to (hour_of (pos 2)) [] (record_call DemandBid (pos 1) node_a (pos 10000000)) ≡ numbered 1
  pub one_more_refused : answer_to (hour_of (pos 2)) [] (record_call DemandBid (pos 1) node_a (pos 10000001)) ≡ refusal QuantityOutOfRange None
  pub market_filled : answer_to (hour_of (pos 2)) full_market (record_call DemandBid (pos 2) node_b (pos 10000000)) ≡ numbered 10
  pub market_passed : answer_to (hour_of (pos 2)) (full_market ++ record_call DemandBid (pos 2) node_b (pos 10000000) ∷ []) (record_call SupplyOffer (pos 1) node_a (pos 1)) ≡ refusal MarketLimit None

-- ---- a history with refusals, a reopening, a revision and a second settling, on other terms
abbrev pub played : Terms → Terms → List Call
played t u =
    record_call SupplyOffer (pos 1) node_a (pos 10000) ∷
    record_call DemandBid (pos 2) node_b (pos 9800) ∷
    bilateral_call DayAheadEnergy (pos 2) (pos 1) node_b (pos 1000) ∷
    record_call MeteredGeneration (pos 1) node_a (pos 10100) ∷
    close ∷
    record_call MeteredGeneration (pos 1) node_a (pos 10100) ∷
    record_call MeteredLoad (pos 2) node_b (pos 9900) ∷
    record_call MeteredLoad (pos 3) node_a (pos 333) ∷
    bilateral_call RealTimeLoad (pos 2) (pos 3) node_a (pos 400) ∷
    settle t ∷
    revise_record (pos 4) (kwh (pos 9777)) ∷
    reopen ∷
    revise_record (pos 6) (kwh (pos 1)) ∷
    revise_record (pos 4) (kwh (pos 9777)) ∷
    settle u ∷ []

pub record Played (t u : Terms) : Type 0 where
  -- the real-time record is too early, the first revision too late, and there is no record 6
  pub answers_are : reverse (answers (hour_of (pos 3)) (reverse (played t u))) ≡
      numbered 1 ∷ numbered 2 ∷ numbered 1 ∷ refusal WrongPhase None ∷ done ∷ numbered 3 ∷ numbered 4 ∷ numbered 5 ∷ numbered 2 ∷ fund_adjusted (pos 4940) ∷
      refusal WrongPhase None ∷ done ∷ refusal UnknownPosting None ∷ done ∷ fund_adjusted (neg_ℤ (pos 3)) ∷ []
  pub phase_is : (told (hour_of (pos 3)) (accepted (hour_of (pos 3)) (reverse (played t u)))).phase ≡ Settled
  pub first_amounts : lines_after (hour_of (pos 3)) (played t u) (pos 1) ≡ neg_ℤ (pos 45000) ∷ pos 2300 ∷ pos 575 ∷ neg_ℤ (pos 6600) ∷ neg_ℤ (pos 23) ∷ neg_ℤ (pos 84) ∷ pos 0 ∷ pos 0 ∷ []
  pub second_amounts : lines_after (hour_of (pos 3)) (played t u) (pos 2) ≡ pos 44000 ∷ pos 2640 ∷ pos 660 ∷ pos 3462 ∷ pos 30 ∷ pos 111 ∷ neg_ℤ (pos 217) ∷ neg_ℤ (pos 1153) ∷ []
  pub third_amounts : lines_after (hour_of (pos 3)) (played t u) (pos 3) ≡ pos 0 ∷ pos 0 ∷ pos 0 ∷ pos 4398 ∷ neg_ℤ (pos 10) ∷ neg_ℤ (pos 43) ∷ neg_ℤ (pos 18) ∷ neg_ℤ (pos 91) ∷ []
  pub first_adjustments : adjustments_after (hour_of (pos 3)) (played t u) (pos 1) ≡ pos 0 ∷ pos 0 ∷ pos 0 ∷ pos 0 ∷ neg_ℤ (pos 23) ∷ pos 0 ∷ pos 0 ∷ pos 0 ∷ []
  pub second_adjustments : adjustments_after (hour_of (pos 3)) (played t u) (pos 2) ≡ pos 0 ∷ pos 0 ∷ pos 0 ∷ neg_ℤ (pos 738) ∷ pos 30 ∷ neg_ℤ (pos 12) ∷ pos 1 ∷ pos 697 ∷ []
  pub third_adjustments : adjustments_after (hour_of (pos 3)) (played t u) (pos 3) ≡ pos 0 ∷ pos 0 ∷ pos 0 ∷ pos 0 ∷ neg_ℤ (pos 10) ∷ pos 1 ∷ neg_ℤ (pos 1) ∷ pos 52 ∷ []
  pub fund_is : (told (hour_of (pos 3)) (accepted (hour_of (pos 3)) (reverse (played t u)))).fund_amount ≡ pos 4937

-- ---- a refusal for each cause, and the order where two hold
abbrev pub elsewhere : LocationCode
elsewhere = code (codes "X       ")

abbrev pub malformed : LocationCode
malformed = code (codes "node.a  ")

-- room for one record and one bilateral
abbrev pub small_hour : Opening
small_hour = record { participants = pos 2; rows = 2; record_places = 1; bilateral_places = 1 }

-- five bilaterals of the real-time market, of both its kinds
abbrev pub full_bilaterals : List Call
full_bilaterals =
    close ∷
    bilateral_call RealTimeEnergy (pos 1) (pos 2) node_a (pos 10000000) ∷ bilateral_call RealTimeLoad (pos 2) (pos 1) node_b (pos 10000000) ∷
    bilateral_call RealTimeEnergy (pos 1) (pos 2) node_a (pos 10000000) ∷ bilateral_call RealTimeLoad (pos 2) (pos 1) node_b (pos 10000000) ∷
    bilateral_call RealTimeEnergy (pos 1) (pos 2) node_a (pos 10000000) ∷ []

pub record RefusalsMet (t : Terms) : Type 0 where
  -- too many participants, and fewer rows than participants
  pub void_by_count : answer_to (hour_of (pos 65)) [] close ≡ refusal VoidHour None
  pub void_by_rows : answer_to (record { participants = pos 3; rows = 2; record_places = 9; bilateral_places = 9 }) [] close ≡ refusal VoidHour None
  -- participant 3 of 2, with a quantity out of range and a malformed code besides; then without each
  pub participant_first : answer_to (hour_of (pos 2)) [] (record_call DemandBid (pos 3) malformed (neg_ℤ (pos 1))) ≡ refusal UnknownParticipant None
  pub then_quantity : answer_to (hour_of (pos 2)) [] (record_call DemandBid (pos 2) malformed (neg_ℤ (pos 1))) ≡ refusal QuantityOutOfRange None
  pub then_code : answer_to (hour_of (pos 2)) [] (record_call DemandBid (pos 2) malformed (pos 1)) ≡ refusal MalformedCode None
  pub buyer_is_seller : answer_to (hour_of (pos 2)) [] (bilateral_call DayAheadEnergy (pos 1) (pos 1) node_a (pos 1)) ≡ refusal BuyerIsSeller None
  -- in the settled phase, an unknown number is refused as such and a known one for the phase
  pub unknown_before_phase : answer_to (hour_of (pos 2)) (sample_calls t) (revise_record (pos 5) (kwh (pos 1))) ≡ refusal UnknownPosting None
  pub number_zero : answer_to (hour_of (pos 2)) (sample_calls t) (revise_record (pos 0) (kwh (pos 1))) ≡ refusal UnknownPosting None
  pub phase_of_known : answer_to (hour_of (pos 2)) (sample_calls t) (revise_record (pos 4) (kwh (pos 1))) ≡ refusal WrongPhase None
  -- no price, quantity 0 included: before the phase, by the first posting, records before bilaterals
  pub unpriced_bilateral : answer_to (hour_of (pos 2)) (record_call DemandBid (pos 1) node_a (pos 5) ∷ bilateral_call DayAheadEnergy (pos 1) (pos 2) elsewhere (pos 0) ∷ []) (settle t) ≡ refusal PostingWithoutPrice (Some 1025)
  pub unpriced_record : answer_to (hour_of (pos 2)) (bilateral_call DayAheadEnergy (pos 1) (pos 2) elsewhere (pos 0) ∷ record_call DemandBid (pos 1) node_a (pos 5) ∷ record_call DemandBid (pos 1) elsewhere (pos 0) ∷ []) (settle t) ≡ refusal PostingWithoutPrice (Some 2)
  -- a full list, before the market's limit; a closed market before the full list
  pub list_is_full : answer_to small_hour (record_call DemandBid (pos 1) node_a (pos 5) ∷ []) (record_call DemandBid (pos 1) node_a (pos 5)) ≡ refusal ListFull None
  pub phase_before_list : answer_to small_hour (record_call DemandBid (pos 1) node_a (pos 5) ∷ close ∷ []) (record_call DemandBid (pos 1) node_a (pos 5)) ≡ refusal WrongPhase None
  -- real-time bilaterals of both kinds count together: 50,000,000 and one more
  pub bilaterals_passed : answer_to (hour_of (pos 2)) full_bilaterals (bilateral_call RealTimeLoad (pos 2) (pos 1) node_b (pos 1)) ≡ refusal MarketLimit None
  -- a revision counts without the old quantity
  pub revision_counts : answer_to (hour_of (pos 2)) (full_market ++ record_call DemandBid (pos 2) node_b (pos 10000000) ∷ []) (revise_record (pos 10) (kwh (pos 10000000))) ≡ done

-- ---- every kind of posting in one place: what participant 1 has, and participant 2, who sold to it
abbrev pub every_kind : Postings
every_kind = record {
  records =
      record { kind = DemandBid; participant = pos 1; location = node_a; quantity = kwh (pos 1) } ∷
      record { kind = DecrementBid; participant = pos 1; location = node_a; quantity = kwh (pos 10) } ∷
      record { kind = SupplyOffer; participant = pos 1; location = node_a; quantity = kwh (pos 100) } ∷
      record { kind = IncrementOffer; participant = pos 1; location = node_a; quantity = kwh (pos 1000) } ∷
      record { kind = DayAheadPurchase; participant = pos 1; location = node_a; quantity = kwh (pos 10000) } ∷
      record { kind = MeteredLoad; participant = pos 1; location = node_a; quantity = kwh (pos 2) } ∷
      record { kind = ExternalSale; participant = pos 1; location = node_a; quantity = kwh (pos 20) } ∷
      record { kind = MeteredGeneration; participant = pos 1; location = node_a; quantity = kwh (pos 200) } ∷
      record { kind = RealTimePurchase; participant = pos 1; location = node_a; quantity = kwh (pos 2000) } ∷ [];
  bilaterals =
      record { kind = DayAheadEnergy; buyer = pos 1; seller = pos 2; location = node_a; quantity = kwh (pos 3) } ∷
      record { kind = RealTimeEnergy; buyer = pos 1; seller = pos 2; location = node_a; quantity = kwh (pos 30) } ∷
      record { kind = RealTimeLoad; buyer = pos 1; seller = pos 2; location = node_a; quantity = kwh (pos 300) } ∷ [];
}

-- adjusted load, day-ahead net, real-time net, deviation
abbrev pub positions_of : Postings → ℤ → LocationCode → List ℤ
positions_of b p l = adjusted_load b p l ∷ day_ahead_net b p l ∷ real_time_net b p l ∷ deviation b p l ∷ []

pub record EveryKind : Type 0 where
  pub of_buyer : positions_of every_kind (pos 1) node_a ≡ neg_ℤ (pos 278) ∷ pos 11092 ∷ pos 2508 ∷ neg_ℤ (pos 8584) ∷ []
  pub of_seller : positions_of every_kind (pos 2) node_a ≡ pos 300 ∷ neg_ℤ (pos 3) ∷ neg_ℤ (pos 330) ∷ neg_ℤ (pos 327) ∷ []
  pub elsewhere_none : positions_of every_kind (pos 1) node_b ≡ pos 0 ∷ pos 0 ∷ pos 0 ∷ pos 0 ∷ []

-- ---- all of them together
pub record WorkedHours : Type 0 where
  pub sample_terms : TermsOf sample_rows half_away largest_remainder
  pub other_terms : TermsOf congested_rows toward_zero running
  pub sample : SampleHour sample_terms.terms
  pub alone : GenerationAlone sample_terms.terms
  pub limits : LimitsMet
  pub refusals : RefusalsMet sample_terms.terms
  pub history : Played sample_terms.terms other_terms.terms
  pub kinds : EveryKind
