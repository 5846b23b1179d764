-- Laws of signed numbers: products over sums, sums over lists, distances.
use Rattle.std.proofs.Common.{◌≡◌, ℕ, ◌+◌, ◌*◌, ◌≤◌, Bool, true, false, cond, ◌&&◌, List, [], ◌∷◌, ◌++◌, ℤ, pos, ◌+ℤ◌, ◌-ℤ◌, ◌*ℤ◌, neg_ℤ, nat_abs, ◌≤ℤ◌, sym, refl, ap, ◌∙◌, arith}
use lib.IntN.{*ℤ_comm, zero-*ℤ}
use borrow.Author.Differences.{up, down, ints, same_out, Apart-out, lt_out, le_out, same_in, below_in, at_most_in, sum_is_lem, neg_is, abs_is, product_is}
use Rattle.std.proofs.lemmas.Int.{unsigned_abs-mul}
use Rattle.std.specs.List.{AllByRecursion}
use Rattle.obligations.specs.Sums.{sum_over, sum_where, apart}

-- for `omega`: a product is an unknown of which nothing is known
pub ruleset linear = (same_out, Apart-out, lt_out, le_out, same_in, below_in, at_most_in, sum_is_lem, neg_is, abs_is)

-- ---- products
pub mul_add : (a b c : ℤ) → a *ℤ (b +ℤ c) ≡ a *ℤ b +ℤ a *ℤ c
mul_add a b c = omega (arith, ints, ap (λ (n : ℕ). up a * n) (sum_is_lem b c), ap (λ (n : ℕ). down a * n) (sum_is_lem b c))

pub add_mul : (a b c : ℤ) → (a +ℤ b) *ℤ c ≡ a *ℤ c +ℤ b *ℤ c
add_mul a b c = omega (arith, ints, ap (λ (n : ℕ). n * up c) (sum_is_lem a b), ap (λ (n : ℕ). n * down c) (sum_is_lem a b))

pub mul_neg : (a b : ℤ) → a *ℤ neg_ℤ b ≡ neg_ℤ (a *ℤ b)
mul_neg a b = omega (arith, ints, ap (λ (n : ℕ). up a * n) (neg_is b).0, ap (λ (n : ℕ). up a * n) (neg_is b).1, ap (λ (n : ℕ). down a * n) (neg_is b).0, ap (λ (n : ℕ). down a * n) (neg_is b).1)

pub neg_mul : (a b : ℤ) → neg_ℤ a *ℤ b ≡ neg_ℤ (a *ℤ b)
neg_mul a b = *ℤ_comm (neg_ℤ a) b ∙ mul_neg b a ∙ ap neg_ℤ (*ℤ_comm b a)

pub mul_assoc : (a b c : ℤ) → (a *ℤ b) *ℤ c ≡ a *ℤ (b *ℤ c)
mul_assoc a b c =
    omega (
      arith,
      ints,
      ap (λ (n : ℕ). n * up c) (product_is a b).0,
      ap (λ (n : ℕ). n * down c) (product_is a b).0,
      ap (λ (n : ℕ). n * up c) (product_is a b).1,
      ap (λ (n : ℕ). n * down c) (product_is a b).1,
      ap (λ (n : ℕ). up a * n) (product_is b c).0,
      ap (λ (n : ℕ). down a * n) (product_is b c).0,
      ap (λ (n : ℕ). up a * n) (product_is b c).1,
      ap (λ (n : ℕ). down a * n) (product_is b c).1,
    )

pub sub_mul : (a b c : ℤ) → (a -ℤ b) *ℤ c ≡ a *ℤ c -ℤ b *ℤ c
sub_mul a b c = add_mul a (neg_ℤ b) c ∙ ap (λ z. a *ℤ c +ℤ z) (neg_mul b c)

pub mul_sub : (a b c : ℤ) → a *ℤ (b -ℤ c) ≡ a *ℤ b -ℤ a *ℤ c
mul_sub a b c = mul_add a b (neg_ℤ c) ∙ ap (λ z. a *ℤ b +ℤ z) (mul_neg a c)

pub mul_one : (a : ℤ) → a *ℤ pos 1 ≡ a
mul_one a = omega (arith, ints)

-- ---- sums over a list
pub sum_add : {X : Type 0} (f g : X → ℤ) (xs : List X) → sum_over (λ x. f x +ℤ g x) xs ≡ sum_over f xs +ℤ sum_over g xs
sum_add f g [] = refl
sum_add f g (x ∷ xs) = omega (arith, linear, sum_add f g xs)

pub sum_sub : {X : Type 0} (f g : X → ℤ) (xs : List X) → sum_over (λ x. f x -ℤ g x) xs ≡ sum_over f xs -ℤ sum_over g xs
sum_sub f g [] = refl
sum_sub f g (x ∷ xs) = omega (arith, linear, sum_sub f g xs)

pub sum_neg : {X : Type 0} (f : X → ℤ) (xs : List X) → sum_over (λ x. neg_ℤ (f x)) xs ≡ neg_ℤ (sum_over f xs)
sum_neg f [] = refl
sum_neg f (x ∷ xs) = omega (arith, linear, sum_neg f xs)

pub sum_zero : {X : Type 0} (xs : List X) → sum_over (λ (x : X). pos 0) xs ≡ pos 0
sum_zero [] = refl
sum_zero (x ∷ xs) = omega (arith, linear, sum_zero xs)

pub sum_same : {X : Type 0} (f g : X → ℤ) → ((x : X) → f x ≡ g x) → (xs : List X) → sum_over f xs ≡ sum_over g xs
sum_same f g e [] = refl
sum_same f g e (x ∷ xs) = omega (arith, linear, e x, sum_same f g e xs)

pub sum_mul : {X : Type 0} (f : X → ℤ) (c : ℤ) (xs : List X) → sum_over (λ x. f x *ℤ c) xs ≡ sum_over f xs *ℤ c
sum_mul f c [] = sym (zero-*ℤ c)
sum_mul f c (x ∷ xs) = omega (arith, linear, add_mul (f x) (sum_over f xs) c, sum_mul f c xs)

pub sum_append : {X : Type 0} (f : X → ℤ) (xs ys : List X) → sum_over f (xs ++ ys) ≡ sum_over f xs +ℤ sum_over f ys
sum_append f [] ys = omega (arith, linear)
sum_append f (x ∷ xs) ys = omega (arith, linear, sum_append f xs ys)

pub sum_swap : {X Y : Type 0} (h : X → Y → ℤ) (xs : List X) (ys : List Y) → sum_over (λ x. sum_over (λ y. h x y) ys) xs ≡ sum_over (λ y. sum_over (λ x. h x y) xs) ys
sum_swap h [] ys = sym (sum_zero ys)
sum_swap h (x ∷ xs) ys = omega (arith, linear, sum_swap h xs ys, sum_add (λ y. h x y) (λ y. sum_over (λ x. h x y) xs) ys)

-- products with a number of the element
pub sum_times_add : {X : Type 0} (f h g : X → ℤ) (xs : List X) → sum_over (λ x. (f x +ℤ h x) *ℤ g x) xs ≡ sum_over (λ x. f x *ℤ g x) xs +ℤ sum_over (λ x. h x *ℤ g x) xs
sum_times_add f h g [] = refl
sum_times_add f h g (x ∷ xs) = omega (arith, linear, add_mul (f x) (h x) (g x), sum_times_add f h g xs)

pub sum_times_sub : {X : Type 0} (f h g : X → ℤ) (xs : List X) → sum_over (λ x. (f x -ℤ h x) *ℤ g x) xs ≡ sum_over (λ x. f x *ℤ g x) xs -ℤ sum_over (λ x. h x *ℤ g x) xs
sum_times_sub f h g [] = refl
sum_times_sub f h g (x ∷ xs) = omega (arith, linear, sub_mul (f x) (h x) (g x), sum_times_sub f h g xs)

pub sum_le : {X : Type 0} (f g : X → ℤ) (xs : List X) → AllByRecursion (λ x. f x ≤ℤ g x) xs → sum_over f xs ≤ℤ sum_over g xs
sum_le f g [] a = omega (arith, linear)
sum_le f g (x ∷ xs) a = omega (arith, linear, a.0, sum_le f g xs a.1)

-- ---- sums over the elements that pass a test
-- the second of two tests, made first
pub where_split : {X : Type 0} (first second : X → Bool) (f : X → ℤ) (xs : List X) → sum_where (λ x. first x && second x) f xs ≡ sum_where second (λ x. cond (first x) (f x) (pos 0)) xs
where_split first second f xs =
    sum_same (λ x. cond (first x && second x) (f x) (pos 0)) (λ x. cond (second x) (cond (first x) (f x) (pos 0)) (pos 0)) (λ x. turn (first x) (second x) (f x)) xs
  where
    turn : (a b : Bool) (v : ℤ) → cond (a && b) v (pos 0) ≡ cond b (cond a v (pos 0)) (pos 0)
    turn true true v = refl
    turn true false v = refl
    turn false true v = refl
    turn false false v = refl

pub where_add : {X : Type 0} (test : X → Bool) (f g : X → ℤ) (xs : List X) → sum_where test (λ x. f x +ℤ g x) xs ≡ sum_where test f xs +ℤ sum_where test g xs
where_add test f g xs =
    sum_same (λ x. cond (test x) (f x +ℤ g x) (pos 0)) (λ x. cond (test x) (f x) (pos 0) +ℤ cond (test x) (g x) (pos 0)) (λ x. turn (test x) (f x) (g x)) xs
    ∙ sum_add (λ x. cond (test x) (f x) (pos 0)) (λ x. cond (test x) (g x) (pos 0)) xs
  where
    turn : (t : Bool) (a b : ℤ) → cond t (a +ℤ b) (pos 0) ≡ cond t a (pos 0) +ℤ cond t b (pos 0)
    turn true a b = refl
    turn false a b = refl

pub where_neg : {X : Type 0} (test : X → Bool) (f : X → ℤ) (xs : List X) → sum_where test (λ x. neg_ℤ (f x)) xs ≡ neg_ℤ (sum_where test f xs)
where_neg test f xs =
    sum_same (λ x. cond (test x) (neg_ℤ (f x)) (pos 0)) (λ x. neg_ℤ (cond (test x) (f x) (pos 0))) (λ x. turn (test x) (f x)) xs
    ∙ sum_neg (λ x. cond (test x) (f x) (pos 0)) xs
  where
    turn : (t : Bool) (a : ℤ) → cond t (neg_ℤ a) (pos 0) ≡ neg_ℤ (cond t a (pos 0))
    turn true a = refl
    turn false a = refl

pub where_sub : {X : Type 0} (test : X → Bool) (f g : X → ℤ) (xs : List X) → sum_where test (λ x. f x -ℤ g x) xs ≡ sum_where test f xs -ℤ sum_where test g xs
where_sub test f g xs = where_add test f (λ x. neg_ℤ (g x)) xs ∙ ap (λ z. sum_where test f xs +ℤ z) (where_neg test g xs)

-- ---- sizes and distances
pub abs_neg : (a : ℤ) → nat_abs (neg_ℤ a) ≡ nat_abs a
abs_neg a = omega (arith, linear)

pub apart_same : (a b : ℤ) → a ≡ b → apart a b ≡ 0
apart_same a b e = omega (arith, linear)

pub apart_sym : (a b : ℤ) → apart a b ≡ apart b a
apart_sym a b = omega (arith, linear)

pub apart_trans : (a b c : ℤ) → apart a c ≤ apart a b + apart b c
apart_trans a b c = omega (arith, linear)

pub apart_add : (a b c d : ℤ) → apart (a +ℤ c) (b +ℤ d) ≤ apart a b + apart c d
apart_add a b c d = omega (arith, linear)

pub apart_neg : (a b : ℤ) → apart (neg_ℤ a) (neg_ℤ b) ≡ apart a b
apart_neg a b = omega (arith, linear)

pub apart_zero : (a : ℤ) → apart a (pos 0) ≡ nat_abs a
apart_zero a = omega (arith, linear)

pub apart_mul_left : (c a b : ℤ) → apart (c *ℤ a) (c *ℤ b) ≡ nat_abs c * apart a b
apart_mul_left c a b = ap nat_abs (sym (mul_sub c a b)) ∙ unsigned_abs-mul c (a -ℤ b)

pub apart_mul_right : (a b c : ℤ) → apart (a *ℤ c) (b *ℤ c) ≡ apart a b * nat_abs c
apart_mul_right a b c = ap nat_abs (sym (sub_mul a b c)) ∙ unsigned_abs-mul (a -ℤ b) c
