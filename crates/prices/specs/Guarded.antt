-- A value that is there where a test passes.
use Rattle.std.specs.Prelude.{◌≡◌, ℕ, Bool, true, false, cond, is_some, Some, None, Option, refl}
use Rattle.std.proofs.Common.{ap, arith}

pub guarded : {X : Type 0} (b : Bool) (o : Option X) (p : X) → cond b o None ≡ Some p → o ≡ Some p
guarded true o p e = e
guarded false o p e = let z : ◌≡◌ {A = ℕ} 0 1 = cc in absurd (omega arith)

-- the value behind a test that passes
pub guard_passed : {X : Type 0} (b : Bool) (o : Option X) (p : X) → cond b o None ≡ Some p → b ≡ true
guard_passed true o p e = refl
guard_passed false o p e = let z : ◌≡◌ {A = ℕ} 0 1 = cc in absurd (omega arith)

-- the same test before two values that are both there or both not
pub guard_both : {X : Type 0} (b : Bool) (o u : Option X) → is_some o ≡ is_some u → is_some (cond b o None) ≡ is_some (cond b u None)
guard_both true o u e = e
guard_both false o u e = refl

-- two tests before one value answer alike where both pass
pub guarded_alike : {X Y : Type 0} (f : X → Y) (b c : Bool) (x p q : X) → cond b (Some x) None ≡ Some p → cond c (Some x) None ≡ Some q → f p ≡ f q
guarded_alike f b c x p q e g =
    let at = guarded b (Some x) p e in
    let there = guarded c (Some x) q g in
    let same : p ≡ q = cc in
    ap f same

-- what is some is some value
pub some_value : {X : Type 0} (o : Option X) → is_some o ≡ true → (x : X) × (o ≡ Some x)
some_value (Some x) e = (x, refl)
some_value None e = let z : ◌≡◌ {A = ℕ} 0 1 = cc in absurd (omega arith)
