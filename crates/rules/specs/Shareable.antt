-- The test of a pool and weights, as plain facts.
use Rattle.std.specs.Prelude.{◌≡◌, ℕ, ◌*◌, ◌<◌, ◌≤◌, true, List, length, ℤ, sum, is_none, unsigned_abs}
use Rattle.std.proofs.Common.{arith}
use Rattle.std.proofs.lemmas.Bool.Decides.{nat_tests}
use Rattle.rules.specs.Sharing.{first_negative, sizes, shareable}

-- what a pool and weights that can be shared meet
pub record Facts (pool : ℤ) (ws : List ℤ) (places : ℕ) : Type 0 where
  pub each : places ≡ length ws
  pub some : 0 < length ws
  pub few : length ws ≤ 64
  pub none_negative : is_none (first_negative ws) ≡ true
  pub positive : 0 < sum (sizes ws)
  pub bounded : sum (sizes ws) ≤ 2000000000
  pub product : unsigned_abs pool * sum (sizes ws) ≤ 9000000000000000000

pub shareable_facts : (pool : ℤ) (ws : List ℤ) (places : ℕ) → shareable pool ws places ≡ true → Facts pool ws places
shareable_facts pool ws places h =
    record {
      each = grind (arith, nat_tests);
      some = grind (arith, nat_tests);
      few = grind (arith, nat_tests);
      none_negative = grind (arith, nat_tests);
      positive = grind (arith, nat_tests);
      bounded = grind (arith, nat_tests);
      product = grind (arith, nat_tests);
    }

pub shareable_from : (pool : ℤ) (ws : List ℤ) (places : ℕ) → Facts pool ws places → shareable pool ws places ≡ true
shareable_from pool ws places f = grind (arith, nat_tests)
