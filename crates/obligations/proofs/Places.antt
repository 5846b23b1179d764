-- A sum over locations, or over participants, of what stands at each is a sum over the postings.
use Rattle.std.proofs.Common.{◌≡◌, ℕ, zero, suc, ◌+◌, ◌<◌, ◌≤◌, Bool, true, false, cond, ◌||◌, List, [], ◌∷◌, ◌++◌, map, ℤ, pos, negsuc, ◌+ℤ◌, ◌*ℤ◌, sym, refl, ap, ◌∙◌, inl, inr, arith}
use lib.IntN.{zero-*ℤ}
use borrow.Author.Differences.{ints}
use Rattle.std.specs.List.{AllByRecursion}
use Rattle.std.proofs.lemmas.Bool.{cond-true, cond-false, or_cases, or_left, or_right}
use Rattle.measures.specs.Codes.{same_code}
use Rattle.std.specs.Ordering.{int_eq}
use Rattle.measures.specs.declared.code.LocationCode.{LocationCode}
use Rattle.measures.proofs.Codes.{same_self, same_code_is}
use Rattle.measures.proofs.Numbers.{int_eq_true, int_eq_self, int_eq_apart}
use Rattle.postings.specs.declared.bilateral.Bilateral.{Bilateral}
use Rattle.postings.specs.declared.record.Record.{Record}
use Rattle.obligations.specs.Charges.{from, participants}
use Rattle.obligations.specs.Limits.{Between}
use Rattle.obligations.specs.Positions.{Postings, without, each_once, locations}
use Rattle.obligations.specs.Sums.{sum_over, sum_where}
use Rattle.obligations.proofs.Integers.{linear, sum_add, sum_same, sum_mul, sum_zero}

-- ---- a list of keys in which a key stands once
-- summed over the list, what belongs to key k alone is counted once
abbrev pub StandsOnce : {I : Type 0} → (I → I → Bool) → List I → I → Type 0
StandsOnce {I} same ls k = (g : I → ℤ) → sum_where (same k) g ls ≡ g k

-- over such keys, each element is counted at its own key
pub sum_by_key : {X I : Type 0} (same : I → I → Bool) (ls : List I) (key : X → I) (v : X → I → ℤ) (xs : List X) → AllByRecursion (λ x. StandsOnce same ls (key x)) xs →
    sum_over (λ l. sum_over (λ x. cond (same (key x) l) (v x l) (pos 0)) xs) ls ≡ sum_over (λ x. v x (key x)) xs
sum_by_key same ls key v [] a = sum_zero ls
sum_by_key same ls key v (x ∷ xs) a =
    omega (
      arith,
      linear,
      sum_add (λ l. cond (same (key x) l) (v x l) (pos 0)) (λ l. sum_over (λ y. cond (same (key y) l) (v y l) (pos 0)) xs) ls,
      a.0 (v x),
      sum_by_key same ls key v xs a.1,
    )

times_cond : (t : Bool) (v c : ℤ) → cond t v (pos 0) *ℤ c ≡ cond t (v *ℤ c) (pos 0)
times_cond true v c = refl
times_cond false v c = zero-*ℤ c

-- and times a number of the key
pub sum_by_key_times : {X I : Type 0} (same : I → I → Bool) (ls : List I) (key : X → I) (v : X → ℤ) (g : I → ℤ) (xs : List X) → AllByRecursion (λ x. StandsOnce same ls (key x)) xs →
    sum_over (λ l. sum_where (λ x. same (key x) l) v xs *ℤ g l) ls ≡ sum_over (λ x. v x *ℤ g (key x)) xs
sum_by_key_times same ls key v g xs a =
    sum_same (λ l. sum_where (λ x. same (key x) l) v xs *ℤ g l) (λ l. sum_over (λ x. cond (same (key x) l) (v x *ℤ g l) (pos 0)) xs)
    (λ l. sym (sum_mul (λ x. cond (same (key x) l) (v x) (pos 0)) (g l) xs) ∙ sum_same (λ x. cond (same (key x) l) (v x) (pos 0) *ℤ g l) (λ x. cond (same (key x) l) (v x *ℤ g l) (pos 0)) (λ x. times_cond (same (key x) l) (v x) (g l)) xs) ls
    ∙ sum_by_key same ls key (λ x l. v x *ℤ g l) xs a

-- ---- locations
abbrev names : List LocationCode → LocationCode → Bool
names [] k = false
names (c ∷ cs) k = same_code k c || names cs k

module _ (g : LocationCode → ℤ) (k : LocationCode) where
  elsewhere : (l : LocationCode) → same_code k l ≡ false → cond (same_code k l) (g l) (pos 0) ≡ pos 0
  elsewhere l e = cond-false (same_code k l) (g l) (pos 0) e

  without_step : (c l : LocationCode) (ls rest : List LocationCode) (t : Bool) → same_code c l ≡ t → (u : Bool) → same_code k c ≡ u → sum_where (same_code k) g rest ≡ cond u (pos 0) (sum_where (same_code k) g ls) →
      sum_where (same_code k) g (cond t rest (l ∷ rest)) ≡ cond u (pos 0) (cond (same_code k l) (g l) (pos 0) +ℤ sum_where (same_code k) g ls)
  without_step c l ls rest true e true f ih = ih
  without_step c l ls rest true e false f ih = omega (arith, linear, ih, elsewhere l (rw (sym (same_code_is c l e)) f))
  without_step c l ls rest false e true f ih = omega (arith, linear, ih, elsewhere l (rw (same_code_is k c f) e))
  without_step c l ls rest false e false f ih = omega (arith, linear, ih)

  without_sum : (c : LocationCode) (ls : List LocationCode) → sum_where (same_code k) g (without c ls) ≡ cond (same_code k c) (pos 0) (sum_where (same_code k) g ls)
  without_sum c [] = elim (same_code k c) as (λ t. pos 0 ≡ cond t (pos 0) (pos 0)) [ true ↦ refl | false ↦ refl ]
  without_sum c (l ∷ ls) = without_step c l ls (without c ls) (same_code c l) refl (same_code k c) refl (without_sum c ls)

  once_step : (c : LocationCode) (ls rest : List LocationCode) (named here : Bool) → same_code k c ≡ here → sum_where (same_code k) g rest ≡ cond here (pos 0) (sum_where (same_code k) g ls) →
      sum_where (same_code k) g ls ≡ cond named (g k) (pos 0) → cond here (g c) (pos 0) +ℤ sum_where (same_code k) g rest ≡ cond (here || named) (g k) (pos 0)
  once_step c ls rest named true e p ih = omega (arith, linear, p, ap g (same_code_is k c e))
  once_step c ls rest named false e p ih = omega (arith, linear, p, ih)

  once_sum : (cs : List LocationCode) → sum_where (same_code k) g (each_once cs) ≡ cond (names cs k) (g k) (pos 0)
  once_sum [] = refl
  once_sum (c ∷ cs) = once_step c (each_once cs) (without c (each_once cs)) (names cs k) (same_code k c) refl (without_sum c (each_once cs)) (once_sum cs)

named_once : (cs : List LocationCode) (k : LocationCode) → names cs k ≡ true → StandsOnce same_code (each_once cs) k
named_once cs k h g = once_sum g k cs ∙ cond-true (names cs k) (g k) (pos 0) h

names_left : (cs ds : List LocationCode) (k : LocationCode) → names cs k ≡ true → names (cs ++ ds) k ≡ true
names_left [] ds k h = search
names_left (c ∷ cs) ds k h = elim (or_cases (same_code k c) (names cs k) h) [ inl e ↦ or_left (same_code k c) (names (cs ++ ds) k) e | inr e ↦ or_right (same_code k c) (names (cs ++ ds) k) (names_left cs ds k e) ]

names_right : (cs ds : List LocationCode) (k : LocationCode) → names ds k ≡ true → names (cs ++ ds) k ≡ true
names_right [] ds k h = h
names_right (c ∷ cs) ds k h = or_right (same_code k c) (names (cs ++ ds) k) (names_right cs ds k h)

module _ {X : Type 0} (key : X → LocationCode) where
  names_more : (c : LocationCode) (cs : List LocationCode) (xs : List X) → AllByRecursion (λ x. names cs (key x) ≡ true) xs → AllByRecursion (λ x. names (c ∷ cs) (key x) ≡ true) xs
  names_more c cs [] a = tt
  names_more c cs (x ∷ xs) a = (or_right (same_code (key x) c) (names cs (key x)) a.0, names_more c cs xs a.1)

  names_own : (xs : List X) → AllByRecursion (λ x. names (map key xs) (key x) ≡ true) xs
  names_own [] = tt
  names_own (x ∷ xs) = (or_left (same_code (key x) (key x)) (names (map key xs) (key x)) (same_self (key x)), names_more (key x) (map key xs) xs (names_own xs))

  all_left : (cs ds : List LocationCode) (xs : List X) → AllByRecursion (λ x. names cs (key x) ≡ true) xs → AllByRecursion (λ x. names (cs ++ ds) (key x) ≡ true) xs
  all_left cs ds [] a = tt
  all_left cs ds (x ∷ xs) a = (names_left cs ds (key x) a.0, all_left cs ds xs a.1)

  all_right : (cs ds : List LocationCode) (xs : List X) → AllByRecursion (λ x. names ds (key x) ≡ true) xs → AllByRecursion (λ x. names (cs ++ ds) (key x) ≡ true) xs
  all_right cs ds [] a = tt
  all_right cs ds (x ∷ xs) a = (names_right cs ds (key x) a.0, all_right cs ds xs a.1)

  all_once : (cs : List LocationCode) (xs : List X) → AllByRecursion (λ x. names cs (key x) ≡ true) xs → AllByRecursion (λ x. StandsOnce same_code (each_once cs) (key x)) xs
  all_once cs [] a = tt
  all_once cs (x ∷ xs) a = (named_once cs (key x) a.0, all_once cs xs a.1)

-- each posting's location stands once among the locations
pub records_once : (b : Postings) → AllByRecursion (λ r. StandsOnce same_code (locations b) r.location) b.records
records_once b =
    all_once (λ (r : Record). r.location) (map (λ r. r.location) b.records ++ map (λ x. x.location) b.bilaterals) b.records
    (all_left (λ (r : Record). r.location) (map (λ r. r.location) b.records) (map (λ x. x.location) b.bilaterals) b.records (names_own (λ (r : Record). r.location) b.records))

pub bilaterals_once : (b : Postings) → AllByRecursion (λ x. StandsOnce same_code (locations b) x.location) b.bilaterals
bilaterals_once b =
    all_once (λ (x : Bilateral). x.location) (map (λ r. r.location) b.records ++ map (λ x. x.location) b.bilaterals) b.bilaterals
    (all_right (λ (x : Bilateral). x.location) (map (λ r. r.location) b.records) (map (λ x. x.location) b.bilaterals) b.bilaterals (names_own (λ (x : Bilateral). x.location) b.bilaterals))

-- ---- participants
module _ (g : ℤ → ℤ) where
  absent_sum : (q k n : ℕ) → q < k → sum_where (int_eq (pos q)) g (from k n) ≡ pos 0
  absent_sum q k zero h = refl
  absent_sum q k (suc n) h =
      let e : int_eq (pos q) (pos k) ≡ false = int_eq_apart (pos q) (pos k) (λ d. apart' d) in
      omega (arith, linear, cond-false (int_eq (pos q) (pos k)) (g (pos k)) (pos 0) e, absent_sum q (suc k) n (omega arith))
    where
      apart' : pos q ≡ pos k → ⊥
      apart' d = omega (arith, ints, h)

  present_sum : (q k n : ℕ) → k ≤ q → q < k + n → sum_where (int_eq (pos q)) g (from k n) ≡ g (pos q)
  present_sum q k zero h l = absurd (omega arith)
  present_sum q k (suc n) h l = go (int_eq (pos q) (pos k)) refl (λ a b. present_sum q (suc k) n a b)
    where
      differ : int_eq (pos q) (pos k) ≡ false → ¬ (q ≡ k)
      differ e d = let z : ◌≡◌ {A = ℕ} 0 1 = cc (int_eq_self (pos k), e, d) in omega arith

      go : (t : Bool) → int_eq (pos q) (pos k) ≡ t → (suc k ≤ q → q < suc k + n → sum_where (int_eq (pos q)) g (from (suc k) n) ≡ g (pos q)) → cond (int_eq (pos q) (pos k)) (g (pos k)) (pos 0) +ℤ sum_where (int_eq (pos q)) g (from (suc k) n) ≡ g (pos q)
      go true e ih =
          let same : pos k ≡ pos q = int_eq_true (pos q) (pos k) e in
          omega (arith, linear, cond-true (int_eq (pos q) (pos k)) (g (pos k)) (pos 0) e, ap g same, absent_sum q (suc k) n (omega (arith, ints)))
      go false e ih = let d : ¬ (q ≡ k) = differ e in omega (arith, linear, cond-false (int_eq (pos q) (pos k)) (g (pos k)) (pos 0) e, ih (omega arith) (omega arith))

-- a participant stands once among the participants
pub participant_once : (P : ℕ) (p : ℤ) → Between (pos 1) (pos P) p → StandsOnce int_eq (participants P) p
participant_once P (pos q) h g = present_sum g q 1 P (omega (arith, ints, h.0)) (omega (arith, ints, h.1))
participant_once P (negsuc q) h g = absurd (omega (arith, ints, h.0))
