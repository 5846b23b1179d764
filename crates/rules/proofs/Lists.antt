-- A loop that pushes the values of a function one after another.
use Rattle.std.proofs.Common.{◌≡◌, ℕ, ◌+◌, List, [], ◌∷◌, ◌++◌, map, sym, ap, ◌∙◌, arith}
use Rattle.std.specs.List.{range_with_len}
use Rattle.std.proofs.lemmas.List.FromFn.{map-range_with_len_more}

pub one_more : {X : Type 0} (f : ℕ → X) (xs ys : List X) (i : ℕ) (x : X) → ys ≡ xs ++ x ∷ [] → xs ≡ map f (range_with_len 0 i) → x ≡ f i → ys ≡ map f (range_with_len 0 (i + 1))
one_more f xs ys i x pushed before e =
    pushed ∙ ap (λ zs. zs ++ x ∷ []) before ∙ ap (λ y. map f (range_with_len 0 i) ++ y ∷ []) e ∙ sym (map-range_with_len_more f 0 i i (omega arith))
