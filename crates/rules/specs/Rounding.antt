-- Rounding rules: a number of cents for each number of thousandths of a cent.
use Rattle.std.specs.Prelude.{ℕ, ◌+◌, ◌/◌, ◌%◌, ◌<◌, cond, ◌&&◌, ◌||◌, ℤ, ◌-ℤ◌, ◌==◌, nat_lt, unsigned_abs}
use Rattle.measures.specs.Signs.{signed}

-- a lies less than d from b
abbrev pub Near : ℕ → ℤ → ℤ → Type 0
Near d a b = unsigned_abs (a -ℤ b) < d

-- nearest, halves away from zero
abbrev pub half_away : ℤ → ℤ
half_away x = signed x ((unsigned_abs x + 500) / 1000)

-- of a size: the whole part, and one more past a half, or at a half where the whole part is odd
abbrev pub evened : ℕ → ℕ
evened n = cond (nat_lt 500 (n % 1000) || (n % 1000 == 500 && n / 1000 % 2 == 1)) (n / 1000 + 1) (n / 1000)

-- nearest, halves to even
abbrev pub half_even : ℤ → ℤ
half_even x = signed x (evened (unsigned_abs x))

-- toward zero
abbrev pub toward_zero : ℤ → ℤ
toward_zero x = signed x (unsigned_abs x / 1000)
