-- What holds of every settling of a history.
use Rattle.std.proofs.Common.{◌≡◌, ℕ, ◌≤◌, false, List, [], ◌∷◌, ℤ, Some, None, sym, ap, subst}
use Rattle.std.specs.List.{AllByRecursion}
use Rattle.postings.specs.Openings.{participant_count}
use Rattle.postings.specs.declared.opening.Opening.{Opening}
use Rattle.obligations.specs.Charges.{Line, amount}
use Rattle.obligations.specs.Limits.{Kept}
use Rattle.obligations.proofs.Limits.{pools_shareable}
use Rattle.obligations.proofs.Totals.{PoolsShareable}
use Rattle.histories.specs.Calls.{Call, post_record, post_bilateral, revise_record, revise_bilateral, close, settle, reopen}
use Rattle.histories.specs.Causes.{any_unpriced}
use Rattle.histories.specs.Told.{Settling, settlings, amount_by, newest, cause_after, accepted, last_settling}
use Rattle.histories.proofs.Accepted.{passed, always, some_is_not_none}
use Rattle.histories.proofs.Keeping.{at_most_64, at_least_1, Sound, sound_after, sound}

-- the postings kept to the limits, every one of them had a price, and there was a participant
pub record SettledSoundly (P : ℕ) (d : Settling) : Type 0 where
  pub kept : Kept P d.postings
  pub priced : any_unpriced d.terms.quote d.postings ≡ false
  pub somebody : 1 ≤ P
  pub at_most : P ≤ 64

settled_after : (o : Opening) (cs : List Call) → Sound o cs → (c : Call) → cause_after o cs c ≡ None → AllByRecursion (SettledSoundly (participant_count o)) (settlings cs) → AllByRecursion (SettledSoundly (participant_count o)) (settlings (c ∷ cs))
settled_after o cs s (post_record r) e all = all
settled_after o cs s (post_bilateral x) e all = all
settled_after o cs s (revise_record n q) e all = all
settled_after o cs s (revise_bilateral n q) e all = all
settled_after o cs s close e all = all
settled_after o cs s (settle t) e all =
    let p = passed o cs (settle t) e in
    (record { kept = s.kept; priced = p.priced; somebody = at_least_1 o p.not_void; at_most = at_most_64 o }, all)
settled_after o cs s reopen e all = all

pub settled_soundly : (o : Opening) (past : List Call) → AllByRecursion (SettledSoundly (participant_count o)) (settlings (accepted o past))
settled_soundly o past =
    (always o (λ cs. Sound o cs × AllByRecursion (SettledSoundly (participant_count o)) (settlings cs)) (sound o [], tt)
    (λ cs c q e. (sound_after o cs c q.0 e, settled_after o cs q.0 c e q.1)) past).1

-- the pools of a settling could be shared
pub settled_shareable : (P : ℕ) (d : Settling) → SettledSoundly P d → PoolsShareable d.postings d.terms P
settled_shareable P d s = pools_shareable P d.postings s.kept s.at_most d.terms

-- ---- the last settling
newest_is : (ds : List Settling) (d : Settling) → newest ds ≡ Some d → (rest : List Settling) × (ds ≡ d ∷ rest)
newest_is [] d e = absurd (some_is_not_none d (sym e))
newest_is (f ∷ ds) d e = (ds, let same : f ≡ d = cc in ap (λ g. g ∷ ds) same)

module _ (o : Opening) (past : List Call) (d : Settling) (e : last_settling o past ≡ Some d) where
  abbrev rest : List Settling
  rest = (newest_is (settlings (accepted o past)) d e).0

  all_are : settlings (accepted o past) ≡ d ∷ rest
  all_are = (newest_is (settlings (accepted o past)) d e).1

  pub last_soundly : SettledSoundly (participant_count o) d
  last_soundly = (subst (AllByRecursion (SettledSoundly (participant_count o))) all_are (settled_soundly o past)).0

  pub last_amount : (p : ℤ) (k : Line) → amount_by (participant_count o) (settlings (accepted o past)) p k ≡ amount d.postings d.terms (participant_count o) p k
  last_amount p k = ap (λ ds. amount_by (participant_count o) ds p k) all_are
