-- What it means that no member fails a test.
use Rattle.std.proofs.Common.{◌≡◌, ℕ, suc, ◌+◌, ◌≤◌, Bool, true, false, cond, not, ◌&&◌, ltb, List, [], ◌∷◌, length, Some, None, refl, arith}
use Rattle.std.specs.List.{list_all, position, position_or_len}
use Rattle.std.proofs.lemmas.Bool.{ltb-false}
use Rattle.prices.specs.declared.member.Member.{Member}

none_before : (test : Member → Bool) (xs : List Member) → length xs ≤ position_or_len (λ x. not (test x)) xs → list_all test xs ≡ true
none_before test [] h = refl
none_before test (x ∷ xs) h = here (test x) h (λ k. none_before test xs k)
  where
    after : ℕ
    after = position_or_len (λ y. not (test y)) xs

    here : (b : Bool) → suc (length xs) ≤ cond (not (not b)) (1 + after) 0 → (length xs ≤ after → list_all test xs ≡ true) → (b && list_all test xs) ≡ true
    here true k rest = rest (omega arith)
    here false k rest = absurd (omega arith)

-- then all pass it
pub none_fails : (test : Member → Bool) (xs : List Member) → position (λ x. not (test x)) xs ≡ None → list_all test xs ≡ true
none_fails test xs h = let p = position_or_len (λ x. not (test x)) xs in none_before test xs (ltb-false p (length xs) (not_there (ltb p (length xs)) p h))
  where
    not_there : (b : Bool) (k : ℕ) → cond b (Some k) None ≡ None → b ≡ false
    not_there true k h = cc
    not_there false k h = refl
