-- Sums of signed numbers over a list, and how far two numbers lie apart.
use Rattle.std.specs.Prelude.{ℕ, Bool, cond, List, [], ◌∷◌, ℤ, pos, ◌+ℤ◌, ◌-ℤ◌, unsigned_abs}

-- f of each element, added up
abbrev pub sum_over : {X : Type 0} → (X → ℤ) → List X → ℤ
sum_over f [] = pos 0
sum_over f (x ∷ xs) = f x +ℤ sum_over f xs

-- f of each element that passes the test, added up
abbrev pub sum_where : {X : Type 0} → (X → Bool) → (X → ℤ) → List X → ℤ
sum_where test f xs = sum_over (λ x. cond (test x) (f x) (pos 0)) xs

-- the distance of two numbers
abbrev pub apart : ℤ → ℤ → ℕ
apart a b = unsigned_abs (a -ℤ b)
