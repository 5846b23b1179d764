-- The figures of a participant's month.
use Rattle.std.specs.Prelude.{Bool, ◌&&◌, ℤ, nat_lt, unsigned_abs}

-- a figure has at most ten digits
abbrev pub ten_digits : ℤ → Bool
ten_digits z = nat_lt (unsigned_abs z) 10000000000

-- all four have
abbrev pub figures_fit : ℤ → ℤ → ℤ → ℤ → Bool
figures_fit load generation peak_load peak_generation = ten_digits load && (ten_digits generation && (ten_digits peak_load && ten_digits peak_generation))
