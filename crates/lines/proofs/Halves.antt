-- The two pools of an expense.
use Rattle.std.proofs.Common.{◌≡◌, ℤ, pos, negsuc, ◌+ℤ◌, arith}
use borrow.Author.Differences.{ints}
use Rattle.lines.specs.Expense.{volume_pool, peak_pool}

-- the two pools add up to the expense
pub pools_add : (e : ℤ) → volume_pool e +ℤ peak_pool e ≡ e
pools_add (pos n) = omega (arith, ints)
pools_add (negsuc n) = omega (arith, ints)
