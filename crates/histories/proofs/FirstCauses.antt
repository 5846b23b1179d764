-- A refusal is for the first cause that holds; a void hour refuses every call.
use Rattle.std.proofs.Common.{◌≡◌, ℕ, ◌≤◌, Bool, true, false, cond, ◌&&◌, leb, ◌⊎◌, List, [], ◌∷◌, Some, None, sym, refl, ap, ◌∙◌, subst, inl, inr, arith}
use Rattle.std.proofs.lemmas.Bool.{and_parts, leb-true, false≢true, cond-true}
use Rattle.std.specs.List.{find}
use Rattle.measures.specs.Faults.{fault}
use Rattle.measures.specs.declared.fault.Cause.{Cause}
use Rattle.measures.specs.declared.fault.Cause.TheVariants.{UnknownParticipant, Layout, QuantityOutOfRange, MalformedCode, BuyerIsSeller, UnknownPosting, PostingWithoutPrice, ComponentOutOfRange, OtherEnergyComponent, PricedAlready, GroupOutOfRange, MemberWithoutPrice, SharingLimits, ExpenseOutOfRange, ShortPage, WrongPhase, ListFull, MarketLimit, SourceFull, VoidHour, OutOfMemory}
use Rattle.measures.specs.declared.fault.Layer.TheVariants.{Hour}
use Rattle.postings.specs.Openings.{is_void}
use Rattle.postings.specs.declared.opening.Opening.{Opening}
use Rattle.histories.specs.Calls.{Call, refused}
use Rattle.histories.specs.Causes.{cause_order, holds, hour_fault}
use Rattle.histories.specs.Hours.{opened}
use Rattle.histories.specs.Laws.{rank}
use Rattle.histories.specs.Told.{told, standing, phase_told, cause_after, reply_after, answer_by, answer_after, counted_if, accepted}
use Rattle.histories.proofs.Accepted.{some_is_not_none}

abbrev pub holds_after : Opening → List Call → Call → Cause → Bool
holds_after o cs c r = holds o (phase_told o cs) (standing cs) c r

module _ (test : Cause → Bool) where
  -- what is found passes the test
  pub first_holds : (rs : List Cause) (r : Cause) → find test rs ≡ Some r → test r ≡ true
  first_holds [] r e = absurd (some_is_not_none r (sym e))
  first_holds (s ∷ rs) r e = go (test s) refl e (first_holds rs r)
    where
      go : (b : Bool) → test s ≡ b → cond b (Some s) (find test rs) ≡ Some r → (find test rs ≡ Some r → test r ≡ true) → test r ≡ true
      go true g e rest = let same : s ≡ r = cc in subst (λ x. test x ≡ true) same g
      go false g e rest = rest e

  abbrev In : Cause → List Cause → Type 0
  In s [] = ⊥
  In s (r ∷ rs) = (s ≡ r) ⊎ In s rs

  -- ranks rise along the list, from n on
  abbrev rises : ℕ → List Cause → Bool
  rises n [] = true
  rises n (r ∷ rs) = leb n (rank r) && rises (rank r) rs

  above : (n : ℕ) (rs : List Cause) → rises n rs ≡ true → (s : Cause) → In s rs → n ≤ rank s
  above n [] u s i = absurd i
  above n (r ∷ rs) u s (inl d) = let p = and_parts (leb n (rank r)) (rises (rank r) rs) u in omega (arith, leb-true n (rank r) p.0, ap rank d)
  above n (r ∷ rs) u s (inr i) = let p = and_parts (leb n (rank r)) (rises (rank r) rs) u in omega (arith, leb-true n (rank r) p.0, above (rank r) rs p.1 s i)

  -- and no other element that passes comes before it
  first_lowest : (n : ℕ) (rs : List Cause) → rises n rs ≡ true → (r s : Cause) → find test rs ≡ Some r → In s rs → test s ≡ true → rank r ≤ rank s
  first_lowest n [] u r s e i t = absurd i
  first_lowest n (x ∷ rs) u r s e i t =
      let p = and_parts (leb n (rank x)) (rises (rank x) rs) u in
      go (test x) refl e i (first_lowest (rank x) rs p.1 r s) (above (rank x) rs p.1 s)
    where
      go : (b : Bool) → test x ≡ b → cond b (Some x) (find test rs) ≡ Some r → (s ≡ x) ⊎ In s rs → (find test rs ≡ Some r → In s rs → test s ≡ true → rank r ≤ rank s) → (In s rs → rank x ≤ rank s) → rank r ≤ rank s
      go true g e (inl d) rest up = let same : x ≡ r = cc in omega (arith, ap rank d, ap rank same)
      go true g e (inr i) rest up = let same : x ≡ r = cc in omega (arith, up i, ap rank same)
      go false g e (inl d) rest up = absurd (false≢true (sym g ∙ ap test (sym d) ∙ t))
      go false g e (inr i) rest up = rest e i t

  -- something passes where something is found
  found_some : (rs : List Cause) (s : Cause) → In s rs → test s ≡ true → find test rs ≡ None → ⊥
  found_some [] s i t e = i
  found_some (x ∷ rs) s i t e = go (test x) refl e i (found_some rs s)
    where
      go : (b : Bool) → test x ≡ b → cond b (Some x) (find test rs) ≡ None → (s ≡ x) ⊎ In s rs → (In s rs → test s ≡ true → find test rs ≡ None → ⊥) → ⊥
      go true g e i rest = some_is_not_none x e
      go false g e (inl d) rest = false≢true (sym g ∙ ap test (sym d) ∙ t)
      go false g e (inr i) rest = rest i t e

-- every cause that can hold of a call stands in the order
in_the_order : (o : Opening) (cs : List Call) (c : Call) (s : Cause) → holds_after o cs c s ≡ true → In (holds_after o cs c) s cause_order
in_the_order o cs c VoidHour t = inl refl
in_the_order o cs c UnknownParticipant t = inr (inl refl)
in_the_order o cs c QuantityOutOfRange t = inr (inr (inl refl))
in_the_order o cs c MalformedCode t = inr (inr (inr (inl refl)))
in_the_order o cs c BuyerIsSeller t = inr (inr (inr (inr (inl refl))))
in_the_order o cs c UnknownPosting t = inr (inr (inr (inr (inr (inl refl)))))
in_the_order o cs c PostingWithoutPrice t = inr (inr (inr (inr (inr (inr (inl refl))))))
in_the_order o cs c WrongPhase t = inr (inr (inr (inr (inr (inr (inr (inl refl)))))))
in_the_order o cs c ListFull t = inr (inr (inr (inr (inr (inr (inr (inr (inl refl))))))))
in_the_order o cs c MarketLimit t = inr (inr (inr (inr (inr (inr (inr (inr (inr (inl refl)))))))))
in_the_order o cs c Layout t = absurd (false≢true t)
in_the_order o cs c ComponentOutOfRange t = absurd (false≢true t)
in_the_order o cs c OtherEnergyComponent t = absurd (false≢true t)
in_the_order o cs c PricedAlready t = absurd (false≢true t)
in_the_order o cs c GroupOutOfRange t = absurd (false≢true t)
in_the_order o cs c MemberWithoutPrice t = absurd (false≢true t)
in_the_order o cs c SharingLimits t = absurd (false≢true t)
in_the_order o cs c ExpenseOutOfRange t = absurd (false≢true t)
in_the_order o cs c ShortPage t = absurd (false≢true t)
in_the_order o cs c SourceFull t = absurd (false≢true t)
in_the_order o cs c OutOfMemory t = absurd (false≢true t)

pub first_in_order : (o : Opening) (cs : List Call) (c : Call) (r s : Cause) → cause_after o cs c ≡ Some r → holds_after o cs c s ≡ true → rank r ≤ rank s
first_in_order o cs c r s e t = first_lowest (holds_after o cs c) 0 cause_order refl r s e (in_the_order o cs c s t) t

pub none_holds : (o : Opening) (cs : List Call) (c : Call) (s : Cause) → cause_after o cs c ≡ None → holds_after o cs c s ≡ true → ⊥
none_holds o cs c s e t = found_some (holds_after o cs c) cause_order s (in_the_order o cs c s t) t e

-- ---- void hours
void_first : (o : Opening) (cs : List Call) (c : Call) → is_void o ≡ true → cause_after o cs c ≡ Some VoidHour
void_first o cs c v = cond-true (is_void o) (Some VoidHour) _ v

pub void_refuses : (o : Opening) (past : List Call) → is_void o ≡ true → (c : Call) → answer_after o (accepted o past) c ≡ refused (fault VoidHour Hour None)
void_refuses o past v c = ap (answer_by (reply_after o (accepted o past) c) (λ r. refused (hour_fault (standing (accepted o past)) c r))) (void_first o (accepted o past) c v)

none_accepted : (o : Opening) (past : List Call) → is_void o ≡ true → accepted o past ≡ []
none_accepted o [] v = refl
none_accepted o (c ∷ past) v = ap (λ r. counted_if r c (accepted o past)) (void_first o (accepted o past) c v) ∙ none_accepted o past v

pub void_stays : (o : Opening) (past : List Call) → is_void o ≡ true → told o (accepted o past) ≡ opened o
void_stays o past v = ap (told o) (none_accepted o past v)
