-- Signed numbers: the sign put back on a size that was worked out without it.
use Rattle.std.specs.Prelude.{ℕ, ℤ, pos, negsuc, neg_ℤ}

-- the size n with the sign of x
abbrev pub signed : ℤ → ℕ → ℤ
signed (pos m) n = pos n
signed (negsuc m) n = neg_ℤ (pos n)
