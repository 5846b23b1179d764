-- Sums over the first n places, and that ranks are the places anew: k of n ranks lie below k.
use Rattle.std.specs.Prelude.{◌≡◌, ℕ, zero, suc, ◌+◌, ◌-◌, ◌*◌, ◌<◌, ◌≤◌, Bool, cond, ◌⊎◌, sum_by, nat_lt, refl}
use Rattle.std.proofs.Common.{inl, inr, ⊎_elim, sym, ap, subst, add-mul, zero-mul, add-one, arith}
use Rattle.std.specs.List.{range_with_len}
use Rattle.std.proofs.lemmas.List.FromFn.{sum_by-map-range_with_len_more}
use Rattle.std.proofs.lemmas.List.Sums.{sum-map}
use Rattle.std.proofs.lemmas.Bool.{cases_lt}
use Rattle.std.proofs.lemmas.Bool.Decides.{nat_tests}
use Rattle.rules.specs.Sharing.{ahead}

abbrev pub upto : (ℕ → ℕ) → ℕ → ℕ
upto g zero = 0
upto g (suc n) = upto g n + g n

pub upto_is : (g : ℕ → ℕ) (n : ℕ) → sum_by g (range_with_len 0 n) ≡ upto g n
upto_is g zero = refl
upto_is g (suc n) =
    let P : ℕ → Type 0 = λ m. sum_by g (range_with_len 0 m) ≡ upto g n + g n in
    let step = sum_by-map-range_with_len_more (λ x. x) g 0 n n (omega arith) in
    let a = sum-map g (range_with_len 0 (n + 1)) in
    let b = sum-map g (range_with_len 0 n) in
    let before = upto_is g n in
    let at : P (n + 1) = omega arith in
    subst P (add-one n) at

pub upto_more : (g : ℕ → ℕ) (n : ℕ) → upto g (n + 1) ≡ upto g n + g n
upto_more g n = ap (upto g) (add-one n)

-- one place more
pub count_more : (g : ℕ → ℕ) (n : ℕ) → sum_by g (range_with_len 0 (n + 1)) ≡ sum_by g (range_with_len 0 n) + g n
count_more g n = omega (arith, upto_is g (n + 1), upto_is g n, upto_more g n)

pub upto_grows : (g : ℕ → ℕ) (m n : ℕ) → m ≤ n → upto g m ≤ upto g n
upto_grows g m zero h = let e : m ≡ 0 = omega arith in subst (λ (k : ℕ). upto g k ≤ 0) (sym e) (omega arith)
upto_grows g m (suc n) h =
    ⊎_elim
    (λ (l : m < suc n). omega (arith, upto_grows g m n (omega arith)))
    (λ (l : suc n ≤ m). let e : m ≡ suc n = omega arith in subst (λ (k : ℕ). upto g k ≤ upto g n + g n) (sym e) (omega arith))
    (cases_lt m (suc n))

pub upto_le : (g h : ℕ → ℕ) (n : ℕ) → ((i : ℕ) → i < n → g i ≤ h i) → upto g n ≤ upto h n
upto_le g h zero below = omega arith
upto_le g h (suc n) below = omega (arith, upto_le g h n (λ i k. below i (omega arith)), below n (omega arith))

pub upto_lt : (g h : ℕ → ℕ) (n i : ℕ) → i < n → ((j : ℕ) → j < n → g j ≤ h j) → g i < h i → upto g n < upto h n
upto_lt g h zero i k below here = absurd (omega arith)
upto_lt g h (suc n) i k below here =
    let rest : (j : ℕ) → j < n → g j ≤ h j = λ j l. below j (omega arith) in
    ⊎_elim
    (λ (l : i < n). omega (arith, upto_lt g h n i l rest here, below n (omega arith)))
    (λ (l : n ≤ i). let e : i ≡ n = omega arith in let last : g n < h n = subst (λ (m : ℕ). g m < h m) e here in omega (arith, upto_le g h n rest))
    (cases_lt i n)

pub upto_same : (g h : ℕ → ℕ) (n : ℕ) → ((i : ℕ) → i < n → g i ≡ h i) → upto g n ≡ upto h n
upto_same g h zero same = refl
upto_same g h (suc n) same = omega (arith, upto_same g h n (λ i k. same i (omega arith)), same n (omega arith))

pub upto_add : (g h : ℕ → ℕ) (n : ℕ) → upto (λ i. g i + h i) n ≡ upto g n + upto h n
upto_add g h zero = refl
upto_add g h (suc n) = omega (arith, upto_add g h n)

pub upto_mul : (g : ℕ → ℕ) (k n : ℕ) → upto (λ i. g i * k) n ≡ upto g n * k
upto_mul g k zero = sym (zero-mul k)
upto_mul g k (suc n) = omega (arith, upto_mul g k n, add-mul (upto g n) (g n) k)

abbrev pub mark : Bool → ℕ
mark b = cond b 1 0

pub marks_le : (p : ℕ → Bool) (n : ℕ) → upto (λ i. mark (p i)) n ≤ n
marks_le p zero = omega arith
marks_le p (suc n) = let b : mark (p n) ≤ 1 = grind arith in omega (arith, marks_le p n)

module _ (f : ℕ → ℕ) where
  abbrev pub ranked : ℕ → ℕ → ℕ
  ranked n i = upto (λ j. mark (ahead f i j)) n

  -- a place with at least as much as place n goes before it
  before_last : (n i : ℕ) → i < n → f n ≤ f i → ranked n i < ranked n n
  before_last n i k h = upto_lt (λ j. mark (ahead f i j)) (λ j. mark (ahead f n j)) n i k (λ j l. grind (arith, nat_tests)) (grind (arith, nat_tests))

  -- and one with less after it
  after_last : (n i : ℕ) → f i < f n → ranked n n ≤ ranked n i
  after_last n i h = upto_le (λ j. mark (ahead f n j)) (λ j. mark (ahead f i j)) n (λ j l. grind (arith, nat_tests))

  last_not_ahead : (n : ℕ) → mark (ahead f n n) ≡ 0
  last_not_ahead n = grind (arith, nat_tests)

  last_ahead : (n i : ℕ) → i < n → ((f n ≤ f i) × (mark (ahead f i n) ≡ 0)) ⊎ ((f i < f n) × (mark (ahead f i n) ≡ 1))
  last_ahead n i k = ⊎_elim (λ (h : f i < f n). inr (h, grind (arith, nat_tests))) (λ (h : f n ≤ f i). inl (h, grind (arith, nat_tests))) (cases_lt (f i) (f n))

  abbrev pub below : ℕ → ℕ → ℕ
  below n k = upto (λ i. mark (nat_lt (ranked n i) k)) n

  -- one place more, with p places before it: of the others, those below k
  keeps : (n k i : ℕ) → i < n → k ≤ ranked n n → mark (nat_lt (ranked n i + mark (ahead f i n)) k) ≡ mark (nat_lt (ranked n i) k)
  keeps n k i l h =
      ⊎_elim
      (λ (w : (f n ≤ f i) × (mark (ahead f i n) ≡ 0)). ap (λ (m : ℕ). mark (nat_lt m k)) (omega (arith, w.1)))
      (λ (w : (f i < f n) × (mark (ahead f i n) ≡ 1)). let a = after_last n i w.0 in let e = w.1 in grind (arith, nat_tests))
      (last_ahead n i l)

  shifts : (n k i : ℕ) → i < n → ranked n n ≤ k → mark (nat_lt (ranked n i + mark (ahead f i n)) (k + 1)) ≡ mark (nat_lt (ranked n i) k)
  shifts n k i l h =
      ⊎_elim
      (λ (w : (f n ≤ f i) × (mark (ahead f i n) ≡ 0)). let a = before_last n i l w.0 in let e = w.1 in grind (arith, nat_tests))
      (λ (w : (f i < f n) × (mark (ahead f i n) ≡ 1)). let e = w.1 in grind (arith, nat_tests))
      (last_ahead n i l)

  pub below_is : (n k : ℕ) → k ≤ n → below n k ≡ k
  below_is zero k h = omega arith
  below_is (suc n) k h =
      let none = last_not_ahead n in
      let few = marks_le (ahead f n) n in
      ⊎_elim
      (λ (l : ranked n n < k).
      let m : ℕ = k - 1 in
      let e : k ≡ m + 1 = omega arith in
      let old = upto_same (λ i. mark (nat_lt (ranked n i + mark (ahead f i n)) (m + 1))) (λ i. mark (nat_lt (ranked n i) m)) n (λ i w. shifts n m i w (omega arith)) in
      let last : mark (nat_lt (ranked n n + mark (ahead f n n)) (m + 1)) ≡ 1 = grind (arith, nat_tests) in
      let at : below (suc n) (m + 1) ≡ m + 1 = omega (arith, below_is n m (omega arith)) in
      subst (λ (q : ℕ). below (suc n) q ≡ q) (sym e) at)
      (λ (l : k ≤ ranked n n).
      let old = upto_same (λ i. mark (nat_lt (ranked n i + mark (ahead f i n)) k)) (λ i. mark (nat_lt (ranked n i) k)) n (λ i w. keeps n k i w l) in
      let last : mark (nat_lt (ranked n n + mark (ahead f n n)) k) ≡ 0 = grind (arith, nat_tests) in
      omega (arith, below_is n k (omega arith)))
      (cases_lt (ranked n n) k)
