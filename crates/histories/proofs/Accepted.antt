-- An accepted call meets no cause; an hour comes, call by call, to what its accepted calls tell.
use Rattle.std.proofs.Common.{◌≡◌, ℕ, suc, Bool, true, false, cond, List, [], ◌∷◌, Some, None, Option, sym, refl, ap, ◌∙◌, arith}
use Rattle.std.specs.List.{AllByRecursion}
use Rattle.std.specs.List.{find}
use Rattle.measures.specs.declared.fault.Cause.{Cause}
use Rattle.measures.specs.declared.fault.Cause.TheVariants.{UnknownParticipant, QuantityOutOfRange, BuyerIsSeller, UnknownPosting, PostingWithoutPrice, ListFull, MarketLimit, VoidHour}
use Rattle.measures.specs.declared.fault.Fault.{Fault}
use Rattle.postings.specs.declared.opening.Opening.{Opening}
use Rattle.histories.specs.Calls.{Call, post_record, post_bilateral, revise_record, revise_bilateral, close, settle, reopen, numbered, refused}
use Rattle.histories.specs.Causes.{cause_order, holds, hour_fault}
use Rattle.histories.specs.Hours.{reposted, reply_in, answer_in, once_accepted, hour_if, after_call, hour_after}
use Rattle.histories.specs.Told.{told, standing, phase_told, cause_after, reply_after, answer_by, answer_after, counted_if, accepted}
use Rattle.histories.proofs.Standing.{UnrevisedPast, standing_after, unrevised_after, records_counted, bilaterals_counted}

pub some_is_not_none : {A : Type 0} (a : A) → ◌≡◌ {A = Option A} (Some a) None → ⊥
some_is_not_none a e = let z : ◌≡◌ {A = ℕ} 0 1 = cc in omega arith

-- where no element of a list passes the test, each fails it
none_passes : {X : Type 0} (test : X → Bool) (xs : List X) → find test xs ≡ None → AllByRecursion (λ x. test x ≡ false) xs
none_passes test [] e = tt
none_passes test (x ∷ xs) e = go (test x) refl e (λ d. none_passes test xs d)
  where
    go : (b : Bool) → test x ≡ b → cond b (Some x) (find test xs) ≡ None → (find test xs ≡ None → AllByRecursion (λ x. test x ≡ false) xs) → (test x ≡ false) × AllByRecursion (λ x. test x ≡ false) xs
    go true g e rest = absurd (some_is_not_none x e)
    go false g e rest = (g, rest e)

-- ---- what an accepted call has passed
pub record Passed (o : Opening) (cs : List Call) (c : Call) : Type 0 where
  pub not_void : holds o (phase_told o cs) (standing cs) c VoidHour ≡ false
  pub participants_known : holds o (phase_told o cs) (standing cs) c UnknownParticipant ≡ false
  pub quantities_in_range : holds o (phase_told o cs) (standing cs) c QuantityOutOfRange ≡ false
  pub two_parties : holds o (phase_told o cs) (standing cs) c BuyerIsSeller ≡ false
  pub posting_known : holds o (phase_told o cs) (standing cs) c UnknownPosting ≡ false
  pub priced : holds o (phase_told o cs) (standing cs) c PostingWithoutPrice ≡ false
  pub has_room : holds o (phase_told o cs) (standing cs) c ListFull ≡ false
  pub within_limit : holds o (phase_told o cs) (standing cs) c MarketLimit ≡ false

pub passed : (o : Opening) (cs : List Call) (c : Call) → cause_after o cs c ≡ None → Passed o cs c
passed o cs c e =
    let all : AllByRecursion (λ r. holds o (phase_told o cs) (standing cs) c r ≡ false) cause_order = none_passes (holds o (phase_told o cs) (standing cs) c) cause_order e in
    record {
      not_void = all.0;
      participants_known = all.1.0;
      quantities_in_range = all.1.1.0;
      two_parties = all.1.1.1.1.0;
      posting_known = all.1.1.1.1.1.0;
      priced = all.1.1.1.1.1.1.0;
      has_room = all.1.1.1.1.1.1.1.1.0;
      within_limit = all.1.1.1.1.1.1.1.1.1.0;
    }

-- ---- something that every accepted call keeps holds after every history
pub always : (o : Opening) (Q : List Call → Type 0) → Q [] → ((cs : List Call) (c : Call) → Q cs → cause_after o cs c ≡ None → Q (c ∷ cs)) → (past : List Call) → Q (accepted o past)
always o Q start step [] = start
always o Q start step (c ∷ past) = go (cause_after o (accepted o past) c) refl (always o Q start step past)
  where
    go : (r : Option Cause) → cause_after o (accepted o past) c ≡ r → Q (accepted o past) → Q (counted_if r c (accepted o past))
    go None e q = step (accepted o past) c q e
    go (Some r) e q = q

pub unrevised : (o : Opening) (past : List Call) → UnrevisedPast (accepted o past)
unrevised o = always o UnrevisedPast (record { of_records = λ n l. refl; of_bilaterals = λ n l. refl }) (λ cs c u e. unrevised_after cs u c (passed o cs c e).posting_known)

-- ---- call by call
accepted_told : (o : Opening) (cs : List Call) → UnrevisedPast cs → (c : Call) → cause_after o cs c ≡ None → once_accepted o (told o cs) c ≡ told o (c ∷ cs)
accepted_told o cs u (post_record r) e = ap (reposted (told o cs)) (sym (standing_after cs u (post_record r) (passed o cs (post_record r) e).posting_known))
accepted_told o cs u (post_bilateral x) e = ap (reposted (told o cs)) (sym (standing_after cs u (post_bilateral x) (passed o cs (post_bilateral x) e).posting_known))
accepted_told o cs u (revise_record n q) e = ap (reposted (told o cs)) (sym (standing_after cs u (revise_record n q) (passed o cs (revise_record n q) e).posting_known))
accepted_told o cs u (revise_bilateral n q) e = ap (reposted (told o cs)) (sym (standing_after cs u (revise_bilateral n q) (passed o cs (revise_bilateral n q) e).posting_known))
accepted_told o cs u close e = refl
accepted_told o cs u (settle t) e = refl
accepted_told o cs u reopen e = refl

call_told : (o : Opening) (cs : List Call) → UnrevisedPast cs → (c : Call) → after_call o (told o cs) c ≡ told o (counted_if (cause_after o cs c) c cs)
call_told o cs u c = go (cause_after o cs c) refl
  where
    go : (r : Option Cause) → cause_after o cs c ≡ r → hour_if r (once_accepted o (told o cs) c) (told o cs) ≡ told o (counted_if r c cs)
    go None e = accepted_told o cs u c e
    go (Some r) e = refl

pub hour_told : (o : Opening) (past : List Call) → hour_after o past ≡ told o (accepted o past)
hour_told o [] = refl
hour_told o (c ∷ past) = ap (λ h. after_call o h c) (hour_told o past) ∙ call_told o (accepted o past) (unrevised o past) c

-- ---- answers
reply_told : (o : Opening) (cs : List Call) (c : Call) → reply_in o (told o cs) c ≡ reply_after o cs c
reply_told o cs (post_record r) = ap (λ (n : ℕ). numbered (suc n)) (records_counted cs)
reply_told o cs (post_bilateral x) = ap (λ (n : ℕ). numbered (suc n)) (bilaterals_counted cs)
reply_told o cs (revise_record n q) = refl
reply_told o cs (revise_bilateral n q) = refl
reply_told o cs close = refl
reply_told o cs (settle t) = refl
reply_told o cs reopen = refl

pub answer_told : (o : Opening) (past : List Call) (c : Call) → answer_in o (hour_after o past) c ≡ answer_after o (accepted o past) c
answer_told o past c =
    ap (λ h. answer_in o h c) (hour_told o past)
    ∙ ap (λ reply. answer_by reply (λ r. refused (hour_fault (standing (accepted o past)) c r)) (cause_after o (accepted o past) c)) (reply_told o (accepted o past) c)

-- a reply is no refusal
reply_accepts : (o : Opening) (cs : List Call) (c : Call) (f : Fault) → reply_after o cs c ≡ refused f → ⊥
reply_accepts o cs (post_record r) f e = let z : ◌≡◌ {A = ℕ} 0 1 = cc in omega arith
reply_accepts o cs (post_bilateral x) f e = let z : ◌≡◌ {A = ℕ} 0 1 = cc in omega arith
reply_accepts o cs (revise_record n q) f e = let z : ◌≡◌ {A = ℕ} 0 1 = cc in omega arith
reply_accepts o cs (revise_bilateral n q) f e = let z : ◌≡◌ {A = ℕ} 0 1 = cc in omega arith
reply_accepts o cs close f e = let z : ◌≡◌ {A = ℕ} 0 1 = cc in omega arith
reply_accepts o cs (settle t) f e = let z : ◌≡◌ {A = ℕ} 0 1 = cc in omega arith
reply_accepts o cs reopen f e = let z : ◌≡◌ {A = ℕ} 0 1 = cc in omega arith

pub refusal_keeps : (o : Opening) (past : List Call) (c : Call) (f : Fault) → answer_after o (accepted o past) c ≡ refused f → told o (accepted o (c ∷ past)) ≡ told o (accepted o past)
refusal_keeps o past c f = go (cause_after o (accepted o past) c)
  where
    go : (r : Option Cause) → answer_by (reply_after o (accepted o past) c) (λ r. refused (hour_fault (standing (accepted o past)) c r)) r ≡ refused f → told o (counted_if r c (accepted o past)) ≡ told o (accepted o past)
    go None e = absurd (reply_accepts o (accepted o past) c f e)
    go (Some r) e = refl
