-- No amount of an accepted month is too long for its columns.
use Rattle.std.proofs.Common.{◌≡◌, ℕ, ◌≤◌, true, List, length, get_or, ℤ, pos, negsuc, ◌≤ℤ◌, arith}
use borrow.Author.Differences.{ints}
use Rattle.std.proofs.lemmas.Bool.Decides.{nat_tests}
use Rattle.measures.specs.declared.amounts.Cents.{Cents}
use Rattle.rules.specs.Sharing.{Within, amounts}
use Rattle.lines.specs.Expense.{expense_in_range, peak_pool, volume_pool}
use Rattle.text.specs.Fields.{dollars_text}
use Rattle.text.proofs.Sizes.{dollars_size}
use Rattle.expense_text.specs.Bills.{AllShown}

-- an amount from 0 to 4,000,000,000 cents
shown : (z : ℤ) → pos 0 ≤ℤ z → z ≤ℤ pos 4000000000 → length (dollars_text z) ≤ 15
shown z low high = dollars_size z 11 (omega arith) (omega (arith, ints)) (omega (arith, ints))

-- the pools of an expense in range are
volume_range : (e : ℤ) → expense_in_range e ≡ true → (pos 0 ≤ℤ volume_pool e) × (volume_pool e ≤ℤ pos 4000000000)
volume_range (pos n) h = let k : n ≤ 4000000000 = grind (arith, nat_tests) in (omega (arith, ints), omega (arith, ints))
volume_range (negsuc n) h = let z : ◌≡◌ {A = ℕ} 0 1 = cc in absurd (omega arith)

peak_range : (e : ℤ) → expense_in_range e ≡ true → (pos 0 ≤ℤ peak_pool e) × (peak_pool e ≤ℤ pos 4000000000)
peak_range (pos n) h = let k : n ≤ 4000000000 = grind (arith, nat_tests) in (omega (arith, ints), omega (arith, ints))
peak_range (negsuc n) h = let z : ◌≡◌ {A = ℕ} 0 1 = cc in absurd (omega arith)

whole_range : (e : ℤ) → expense_in_range e ≡ true → (pos 0 ≤ℤ e) × (e ≤ℤ pos 4000000000)
whole_range (pos n) h = let k : n ≤ 4000000000 = grind (arith, nat_tests) in (omega (arith, ints), omega (arith, ints))
whole_range (negsuc n) h = let z : ◌≡◌ {A = ℕ} 0 1 = cc in absurd (omega arith)

shares_shown : (pool : ℤ) (xs : List Cents) → pool ≤ℤ pos 4000000000 → Within pool (amounts xs) → AllShown xs
shares_shown pool xs high within i h =
    let w = within i h in
    shown (get_or (amounts xs) i (pos 0)) w.0 (omega (arith, ints))

pub volumes_shown : (e : ℤ) (xs : List Cents) → expense_in_range e ≡ true → Within (volume_pool e) (amounts xs) → AllShown xs
volumes_shown e xs h within = shares_shown (volume_pool e) xs (volume_range e h).1 within

pub peaks_shown : (e : ℤ) (xs : List Cents) → expense_in_range e ≡ true → Within (peak_pool e) (amounts xs) → AllShown xs
peaks_shown e xs h within = shares_shown (peak_pool e) xs (peak_range e h).1 within

pub sums_shown : (e : ℤ) → expense_in_range e ≡ true → (length (dollars_text (volume_pool e)) ≤ 15) × (length (dollars_text (peak_pool e)) ≤ 15) × (length (dollars_text e) ≤ 15)
sums_shown e h =
    let v = volume_range e h in
    let p = peak_range e h in
    let w = whole_range e h in
    (shown (volume_pool e) v.0 v.1, shown (peak_pool e) p.0 p.1, shown e w.0 w.1)
