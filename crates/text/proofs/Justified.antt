-- Right-justified text.
use Rattle.std.proofs.Common.{◌≡◌, ℕ, ◌+◌, ◌-◌, ◌≤◌, List, [], ◌++◌, length, take, drop, replicate, ap, ◌∙◌, ap₂, append-nil, arith}
use borrow.Rule.Slice.PartMut.{post_of, put_mid}
use Rattle.std.proofs.lemmas.List.{length-append, length-replicate, length-drop, take_at, drop_all, drop-drop}
use Rattle.text.specs.Fields.{right}

pub length_right : (w : ℕ) (bs : List ℕ) → length bs ≤ w → length (right w bs) ≡ w
length_right w bs h = length-append (replicate (w - length bs) 32) bs ∙ omega (arith, length-replicate {A = ℕ} (w - length bs) 32)

-- spaces written to the front of a field, and then bs to the rest of it
pub justified : (xs bs ys zs : List ℕ) → length bs ≤ length xs → ys ≡ replicate (length xs - length bs) 32 → zs ≡ bs → put_mid (length xs - length bs) (length xs - (length xs - length bs)) (ys ++ post_of 0 (length xs - length bs - 0) xs) zs ≡ right (length xs) bs
justified xs bs ys zs h e f =
    let a = length xs - length bs in
    let l = ys ++ post_of 0 (a - 0) xs in
    let n : length ys ≡ a = ap length e ∙ length-replicate a 32 in
    let m : length l ≡ length ys + (length xs - (a - 0)) = length-append ys (drop (a - 0) xs) ∙ ap (λ (k : ℕ). length ys + k) (length-drop (a - 0) xs) in
    let front : take a l ≡ replicate a 32 = take_at ys (post_of 0 (a - 0) xs) a n ∙ e in
    let back : drop (length xs - a) (drop a l) ≡ [] = drop-drop (length xs - a) a l ∙ drop_all (a + (length xs - a)) l (omega arith) in
    ap₂ (λ (u v : List ℕ). u ++ v) front (ap₂ (λ (u v : List ℕ). u ++ v) f back ∙ append-nil bs)
