-- No line of a month's file holds a line feed.
use Rattle.std.proofs.Common.{◌≡◌, ℕ, zero, suc, ◌+◌, ◌-◌, ◌%◌, ◌^◌, ◌<◌, List, length, replicate, ℤ, pos, negsuc, nat_abs, decimal, refl, arith}
use Rattle.std.specs.List.{AllByRecursion as All}
use Rattle.std.proofs.lemmas.Fmt.{decimal_by_steps}
use Rattle.std.proofs.ByRecursion.{All-append, All-get_or, All-push}
use Rattle.text.specs.Fields.{Field, number_text, right}
use Rattle.text.specs.Lines.{NoLineFeed}
use Rattle.text.proofs.Sizes.{field_small}
use Rattle.lines.specs.declared.month_use.MonthUse.{MonthUse}
use Rattle.expense_text.specs.Months.{expense_line, use_columns, use_line}
use Rattle.expense_text.proofs.Columns.{expense_apart, use_apart}

abbrev Within : ℕ → Type 0
Within b = b ≡ 10 → ⊥

spaces_within : (k : ℕ) → All Within (replicate k 32)
spaces_within zero = tt
spaces_within (suc k) = (λ e. omega arith, spaces_within k)

decimal_within : (n : ℕ) → n < 2 ^ 64 → All Within (decimal n)
decimal_within n h =
    decimal_by_steps (λ m ds. All Within ds) (λ m k. (λ e. omega arith, tt)) (λ m ds k a. All-push Within ds (48 + m % 10) a (λ e. omega arith)) n h

number_within : (z : ℤ) → nat_abs z < 10 ^ 18 → All Within (number_text z)
number_within (pos n) h = decimal_within n (omega arith)
number_within (negsuc n) h = (λ e. omega arith, decimal_within (suc n) (omega arith))

-- a number that some field holds, right-justified
right_within : (w : ℕ) (z : ℤ) (bs : List ℕ) → Field bs z → All Within (right w (number_text z))
right_within w z bs f =
    let k = w - length (number_text z) in
    All-append Within (replicate k 32) (number_text z) (spaces_within k) (number_within z (field_small bs z f))

pub use_unbroken : (n : ℕ) (u : MonthUse) → length (use_line n u) ≡ 46 → NoLineFeed (use_line n u)
use_unbroken n u l k h = All-get_or Within (use_line n u) k 0 h (λ e. omega arith, (λ e. omega arith, columns))
  where
    columns : All Within (use_columns n u)
    columns =
        let f = use_apart (use_columns n u) n u (omega arith, refl) in
        All-append Within _ _ (right_within 4 (pos n) _ f.first)
        (All-append Within _ _ (right_within 10 u.load.0 _ f.second)
        (All-append Within _ _ (right_within 10 u.generation.0 _ f.third)
        (All-append Within _ _ (right_within 10 u.peak_load.0 _ f.fourth) (right_within 10 u.peak_generation.0 _ f.fifth))))

pub expense_unbroken : (x : ℤ) → length (expense_line x) ≡ 14 → NoLineFeed (expense_line x)
expense_unbroken x l k h =
    All-get_or Within (expense_line x) k 0 h (λ e. omega arith, (λ e. omega arith, right_within 12 x _ (expense_apart (expense_line x) x (l, refl))))
