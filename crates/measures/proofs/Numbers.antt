-- What the test of equality says of two numbers.
use Rattle.std.proofs.Common.{◌≡◌, true, false, ℤ, rules}
use Rattle.std.specs.Ordering.{int_eq}
use Rattle.std.proofs.lemmas.Bool.Decides.{Decides-int_eq}

pub int_eq_true : (a b : ℤ) → int_eq a b ≡ true → b ≡ a
int_eq_true a b h = search (rules, Decides-int_eq)

pub int_eq_self : (a : ℤ) → int_eq a a ≡ true
int_eq_self a = search (rules, Decides-int_eq)

pub int_eq_apart : (a b : ℤ) → ¬ (a ≡ b) → int_eq a b ≡ false
int_eq_apart a b n = search (rules, Decides-int_eq)
