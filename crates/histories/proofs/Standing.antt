-- An accepted call changes what the accepted calls tell in the one way that it says.
use Rattle.std.proofs.Common.{◌≡◌, ℕ, zero, suc, ◌+◌, ◌-◌, ◌<◌, ◌≤◌, Bool, true, false, cond, not, T, List, [], ◌∷◌, ◌++◌, length, ℤ, pos, negsuc, ◌≤ℤ◌, Some, None, Option, sym, refl, ap, ◌∙◌, arith, length-append}
use lib.Signed.{le_z, lt_z, le_z_yes, lt_z_no}
use borrow.Author.Differences.{ints}
use Rattle.std.proofs.lemmas.Bool.{false≢true, not-false, and_parts}
use Rattle.std.specs.Ordering.{int_eq}
use Rattle.std.specs.Option.{option_or, unwrap_or}
use Rattle.measures.specs.declared.amounts.KilowattHours.{KilowattHours}
use Rattle.measures.proofs.Numbers.{int_eq_self, int_eq_apart}
use Rattle.postings.specs.Openings.{within}
use Rattle.postings.specs.Revised.{revised_record, revised_bilateral}
use Rattle.postings.specs.declared.bilateral.Bilateral.{Bilateral}
use Rattle.postings.specs.declared.record.Record.{Record}
use Rattle.obligations.specs.Limits.{Between}
use Rattle.obligations.specs.Positions.{Postings}
use Rattle.histories.specs.Calls.{Call, post_record, post_bilateral, revise_record, revise_bilateral, close, settle, reopen, Revision, record_posted, bilateral_posted, record_revised, bilateral_revised}
use Rattle.histories.specs.Causes.{changed, place_of, postings_after, unknown_posting}
use Rattle.histories.specs.Told.{in_order, revised_to, number_from, standing}

-- ---- tests of a range, as facts
passes : (b : Bool) → b ≡ true → T b
passes true e = tt
passes false e = absurd (false≢true e)

le_yes : (a b : ℤ) → le_z a b ≡ true → a ≤ℤ b
le_yes a b e = le_z_yes (passes (le_z a b) e)

-- not above the limit
pub lt_no : (a b : ℤ) → lt_z a b ≡ false → b ≤ℤ a
lt_no a b e = lt_z_no (passes (not (lt_z a b)) (ap not e))

pub in_range : (low high z : ℤ) → within low high z ≡ true → Between low high z
in_range low high z e = let q = and_parts (le_z low z) (le_z z high) e in (le_yes low z q.0, le_yes z high q.1)

-- a posting's number, from 1 to how many there are
known_place : (n : ℤ) (k : ℕ) → Between (pos 1) (pos k) n → n ≡ pos (1 + place_of n)
known_place (pos n) k h = let e : n ≡ 1 + (n - 1) = omega (arith, ints, h.0) in ap pos e
known_place (negsuc n) k h = absurd (omega (arith, ints, h.0))

pos_same : (m n : ℕ) → pos m ≡ pos n → m ≡ n
pos_same m n e = omega (arith, ints)

-- ---- numbered lists
module _ {X : Type 0} where
  numbered_push : (k : ℕ) (f : ℕ → X → X) (xs : List X) (x : X) → number_from k f (xs ++ x ∷ []) ≡ number_from k f xs ++ f (k + length xs) x ∷ []
  numbered_push k f [] x = let e : k ≡ k + 0 = omega arith in ap (λ (n : ℕ). f n x ∷ []) e
  numbered_push k f (y ∷ xs) x =
      let e : suc k + length xs ≡ k + suc (length xs) = omega arith in
      ap (λ zs. f k y ∷ zs) (numbered_push (suc k) f xs x ∙ ap (λ (n : ℕ). number_from (suc k) f xs ++ f n x ∷ []) e)

  pub numbered_length : (k : ℕ) (f : ℕ → X → X) (xs : List X) → length (number_from k f xs) ≡ length xs
  numbered_length k f [] = refl
  numbered_length k f (x ∷ xs) = ap suc (numbered_length (suc k) f xs)

  numbered_same : (k : ℕ) (f g : ℕ → X → X) (xs : List X) → ((n : ℕ) → k ≤ n → (x : X) → f n x ≡ g n x) → number_from k f xs ≡ number_from k g xs
  numbered_same k f g [] e = refl
  numbered_same k f g (x ∷ xs) e = let h = e k (omega arith) x in let t = numbered_same (suc k) f g xs (λ n l x. e n (omega arith) x) in cc

-- ---- one sort of posting: a posting with another quantity, its own quantity, and which calls post and revise
pub record Sort (X : Type 0) : Type 0 where
  pub revised : KilowattHours → X → X
  pub quantity : X → KilowattHours
  pub posted : Call → Option X
  pub revision : Call → Option Revision
  -- the last quantity counts, and its own changes nothing
  pub again : (q p : KilowattHours) (x : X) → revised q (revised p x) ≡ revised q x
  pub as_posted : (x : X) → revised (quantity x) x ≡ x

abbrev pub record_sort : Sort Record
record_sort = record { revised = revised_record; quantity = λ r. r.quantity; posted = record_posted; revision = record_revised; again = λ q p r. refl; as_posted = λ r. refl }

abbrev pub bilateral_sort : Sort Bilateral
bilateral_sort = record { revised = revised_bilateral; quantity = λ x. x.quantity; posted = bilateral_posted; revision = bilateral_revised; again = λ q p x. refl; as_posted = λ x. refl }

module _ {X : Type 0} (s : Sort X) where
  abbrev shown : (ℕ → Option KilowattHours) → ℕ → X → X
  shown to n x = s.revised (unwrap_or (to n) (s.quantity x)) x

  abbrev listed : List Call → List X
  listed cs = number_from 1 (shown (revised_to s.revision cs)) (in_order s.posted cs)

  -- no number past the last posting's was revised
  abbrev pub Unrevised : List Call → Type 0
  Unrevised cs = (n : ℕ) → length (in_order s.posted cs) < n → revised_to s.revision cs n ≡ None

  count_listed : (cs : List Call) → length (listed cs) ≡ length (in_order s.posted cs)
  count_listed cs = numbered_length 1 (shown (revised_to s.revision cs)) (in_order s.posted cs)

  -- one more stands last, as it was posted
  posted_last : (cs : List Call) (x : X) → Unrevised cs → number_from 1 (shown (revised_to s.revision cs)) (in_order s.posted cs ++ x ∷ []) ≡ listed cs ++ x ∷ []
  posted_last cs x none =
      numbered_push 1 (shown (revised_to s.revision cs)) (in_order s.posted cs) x
      ∙ ap (λ y. listed cs ++ y ∷ []) (ap (λ q. s.revised (unwrap_or q (s.quantity x)) x) (none (1 + length (in_order s.posted cs)) (omega arith)) ∙ s.as_posted x)

  posted_unrevised : (cs : List Call) (x : X) → Unrevised cs → (n : ℕ) → length (in_order s.posted cs ++ x ∷ []) < n → revised_to s.revision cs n ≡ None
  posted_unrevised cs x none n l = none n (omega (arith, length-append (in_order s.posted cs) (x ∷ [])))

  -- a revision of a number changes that posting alone
  module _ (number : ℤ) (q : KilowattHours) (to : ℕ → Option KilowattHours) where
    abbrev now : ℕ → Option KilowattHours
    now n = option_or (cond (int_eq number (pos n)) (Some q) None) (to n)

    other : (n : ℕ) (x : X) → ¬ (number ≡ pos n) → shown now n x ≡ shown to n x
    other n x d = ap (λ t. s.revised (unwrap_or (option_or (cond t (Some q) None) (to n)) (s.quantity x)) x) (int_eq_apart number (pos n) d)

    this : (n : ℕ) (x : X) → number ≡ pos n → shown now n x ≡ s.revised q (shown to n x)
    this n x e = ap (λ t. s.revised (unwrap_or (option_or (cond t (Some q) None) (to n)) (s.quantity x)) x) (ap (λ z. int_eq z (pos n)) e ∙ int_eq_self (pos n)) ∙ sym (s.again q (unwrap_or (to n) (s.quantity x)) x)

    revise_one : (i k : ℕ) (xs : List X) → number ≡ pos (k + i) → number_from k (shown now) xs ≡ changed i (s.revised q) (number_from k (shown to) xs)
    revise_one i k [] e = refl
    revise_one zero k (x ∷ xs) e =
        let at : number ≡ pos k = e ∙ ap pos (none k) in
        let h = this k x at in
        let t = numbered_same (suc k) (shown now) (shown to) xs (λ n l y. other n y (λ d. past n l (sym at ∙ d))) in cc
      where
        none : (k : ℕ) → k + 0 ≡ k
        none k = omega arith

        past : (n : ℕ) → suc k ≤ n → pos k ≡ pos n → ⊥
        past n l d = let s : k ≡ n = pos_same k n d in omega arith
    revise_one (suc i) k (x ∷ xs) e =
        let h = other k x (λ d. past (sym d ∙ e)) in
        let t = revise_one i (suc k) xs (e ∙ ap pos (next i)) in cc
      where
        next : (i : ℕ) → k + suc i ≡ suc k + i
        next i = omega arith

        past : pos k ≡ pos (k + suc i) → ⊥
        past d = let s : k ≡ k + suc i = pos_same k (k + suc i) d in omega arith

  revised_there : (cs : List Call) (number : ℤ) (q : KilowattHours) → Between (pos 1) (pos (length (listed cs))) number → number_from 1 (shown (now number q (revised_to s.revision cs))) (in_order s.posted cs) ≡ changed (place_of number) (s.revised q) (listed cs)
  revised_there cs number q h = revise_one number q (revised_to s.revision cs) (place_of number) 1 (in_order s.posted cs) (known_place number (length (listed cs)) h)

  revised_unrevised : (cs : List Call) (number : ℤ) (q : KilowattHours) → Between (pos 1) (pos (length (listed cs))) number → Unrevised cs → (n : ℕ) → length (in_order s.posted cs) < n → now number q (revised_to s.revision cs) n ≡ None
  revised_unrevised cs number q h none n l = rw (int_eq_apart number (pos n) beyond) (none n l)
    where
      beyond : number ≡ pos n → ⊥
      beyond e = omega (arith, ints, e, h.1, count_listed cs)

-- ---- both sorts
abbrev pub RecordsUnrevised : List Call → Type 0
RecordsUnrevised = Unrevised record_sort

abbrev pub BilateralsUnrevised : List Call → Type 0
BilateralsUnrevised = Unrevised bilateral_sort

pub record UnrevisedPast (cs : List Call) : Type 0 where
  pub of_records : RecordsUnrevised cs
  pub of_bilaterals : BilateralsUnrevised cs

pub records_counted : (cs : List Call) → length (standing cs).records ≡ length (in_order record_posted cs)
records_counted = count_listed record_sort

pub bilaterals_counted : (cs : List Call) → length (standing cs).bilaterals ≡ length (in_order bilateral_posted cs)
bilaterals_counted = count_listed bilateral_sort

both_lists : (rs rs' : List Record) (xs xs' : List Bilateral) → rs ≡ rs' → xs ≡ xs' → ◌≡◌ {A = Postings} (record { records = rs; bilaterals = xs }) (record { records = rs'; bilaterals = xs' })
both_lists rs rs' xs xs' e f = cc

module _ (cs : List Call) (u : UnrevisedPast cs) where
  -- the postings that the longer list of calls tells
  pub standing_after : (c : Call) → unknown_posting (standing cs) c ≡ false → standing (c ∷ cs) ≡ postings_after (standing cs) c
  standing_after (post_record r) k =
      both_lists (standing (post_record r ∷ cs)).records ((standing cs).records ++ r ∷ []) (standing cs).bilaterals (standing cs).bilaterals
      (posted_last record_sort cs r u.of_records) refl
  standing_after (post_bilateral x) k =
      both_lists (standing cs).records (standing cs).records (standing (post_bilateral x ∷ cs)).bilaterals ((standing cs).bilaterals ++ x ∷ []) refl
      (posted_last bilateral_sort cs x u.of_bilaterals)
  standing_after (revise_record n q) k =
      both_lists (standing (revise_record n q ∷ cs)).records (changed (place_of n) (revised_record q) (standing cs).records) (standing cs).bilaterals (standing cs).bilaterals
      (revised_there record_sort cs n q (in_range (pos 1) (pos (length (standing cs).records)) n (not-false _ k))) refl
  standing_after (revise_bilateral n q) k =
      both_lists (standing cs).records (standing cs).records (standing (revise_bilateral n q ∷ cs)).bilaterals (changed (place_of n) (revised_bilateral q) (standing cs).bilaterals) refl
      (revised_there bilateral_sort cs n q (in_range (pos 1) (pos (length (standing cs).bilaterals)) n (not-false _ k)))
  standing_after close k = refl
  standing_after (settle t) k = refl
  standing_after reopen k = refl

  pub unrevised_after : (c : Call) → unknown_posting (standing cs) c ≡ false → UnrevisedPast (c ∷ cs)
  unrevised_after (post_record r) k = record { of_records = posted_unrevised record_sort cs r u.of_records; of_bilaterals = u.of_bilaterals }
  unrevised_after (post_bilateral x) k = record { of_records = u.of_records; of_bilaterals = posted_unrevised bilateral_sort cs x u.of_bilaterals }
  unrevised_after (revise_record n q) k = record {
    of_records = revised_unrevised record_sort cs n q (in_range (pos 1) (pos (length (standing cs).records)) n (not-false _ k)) u.of_records;
    of_bilaterals = u.of_bilaterals;
  }
  unrevised_after (revise_bilateral n q) k = record {
    of_records = u.of_records;
    of_bilaterals = revised_unrevised bilateral_sort cs n q (in_range (pos 1) (pos (length (standing cs).bilaterals)) n (not-false _ k)) u.of_bilaterals;
  }
  unrevised_after close k = record { of_records = u.of_records; of_bilaterals = u.of_bilaterals }
  unrevised_after (settle t) k = record { of_records = u.of_records; of_bilaterals = u.of_bilaterals }
  unrevised_after reopen k = record { of_records = u.of_records; of_bilaterals = u.of_bilaterals }
