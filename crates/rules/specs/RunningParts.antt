-- The running rule is fair.
use Rattle.std.specs.Prelude.{◌≡◌, ℕ, zero, suc, ◌+◌, ◌-◌, ◌*◌, ◌/◌, ◌<◌, ◌≤◌, true, List, map, length, get_or, take, ℤ, sum_by, sum, slice_index, unsigned_abs}
use Rattle.std.proofs.Common.{take_all, take-take, ap, subst, ◌∙◌, div-add-mod', mod-lt, mul-add, mul-le-mul_left, mul-div_cancel, mul-zero, add-one, arith}
use Rattle.std.proofs.Math.Nat.{mul-sub, zero-div}
use Rattle.std.specs.List.{range_with_len}
use Rattle.std.proofs.lemmas.Nat.{le-div}
use Rattle.std.proofs.lemmas.List.FromFn.{sum_by-map-range_with_len_more}
use Rattle.std.proofs.lemmas.List.Sums.{sum_by_more, sum_by-take-le, sum-map}
use Rattle.rules.specs.Sharing.{sizes, shareable, Fair, reached, running_part, running}
use Rattle.rules.specs.Shareable.{shareable_facts}
use Rattle.rules.specs.Shares.{fair_by_place}

-- the steps of a rising function add up to its rise
telescope : (F : ℕ → ℕ) → ((i : ℕ) → F i ≤ F (i + 1)) → (n : ℕ) → sum (map (λ i. F (i + 1) - F i) (range_with_len 0 n)) + F 0 ≡ F n
telescope F rises zero = omega arith
telescope F rises (suc n) =
    let P : ℕ → Type 0 = λ m. sum (map (λ i. F (i + 1) - F i) (range_with_len 0 m)) + F 0 ≡ F m in
    let step = sum_by-map-range_with_len_more (λ x. x) (λ i. F (i + 1) - F i) 0 n n (omega arith) in
    let before = telescope F rises n in
    let at : P (n + 1) = omega (arith, rises n) in
    subst P (add-one n) at

sum_take_rises : (ws : List ℕ) (i : ℕ) → sum (take i ws) ≤ sum (take (i + 1) ws)
sum_take_rises ws i = let h : i ≤ i + 1 = omega arith in simp take-take at (sum_by-take-le (λ x. x) (take (i + 1) ws) i)

quotient_rises : (m n k : ℕ) → 0 < k → m ≤ n → m / k ≤ n / k
quotient_rises m n k p h = le-div (m / k) n k p (omega (arith, div-add-mod' m k))

reached_rises : (t : ℕ) (ws : List ℕ) → 0 < sum ws → (i : ℕ) → reached t ws i ≤ reached t ws (i + 1)
reached_rises t ws p i = quotient_rises _ _ (sum ws) p (mul-le-mul_left t (sum_take_rises ws i))

pub running_adds : (t : ℕ) (ws : List ℕ) → 0 < sum ws → sum_by (running_part t ws) (range_with_len 0 (length ws)) ≡ t
running_adds t ws p =
    let up = telescope (reached t ws) (reached_rises t ws p) (length ws) in
    let start : reached t ws 0 ≡ 0 = ap (λ n. n / sum ws) (mul-zero t) ∙ zero-div (sum ws) in
    let end : reached t ws (length ws) ≡ t = ap (λ xs. t * sum xs / sum ws) (take_all (length ws) ws (omega arith)) ∙ mul-div_cancel t p in
    let same = sum-map (running_part t ws) (range_with_len 0 (length ws)) in
    omega arith

pub running_near : (t : ℕ) (ws : List ℕ) → 0 < sum ws → (i : ℕ) → i < length ws → (running_part t ws i * sum ws < t * slice_index ws i + sum ws) × (t * slice_index ws i < running_part t ws i * sum ws + sum ws)
running_near t ws p i h =
    let a = sum (take i ws) in
    let b = sum (take (i + 1) ws) in
    let more : b ≡ a + get_or ws i 0 = sum_by_more (λ x. x) ws i 0 h in
    let products : t * b ≡ t * a + t * get_or ws i 0 = ap (λ n. t * n) more ∙ mul-add t a (slice_index ws i) in
    let da = div-add-mod' (t * a) (sum ws) in
    let db = div-add-mod' (t * b) (sum ws) in
    let la = mod-lt (t * a) p in
    let lb = mod-lt (t * b) p in
    let less = mul-sub (sum ws) (reached t ws (i + 1)) (reached t ws i) in
    let up = reached_rises t ws p i in
    let up-mul = mul-le-mul_left (sum ws) up in
    (omega arith, omega arith)

pub running_fair : (pool : ℤ) (ws : List ℤ) → shareable pool ws (length ws) ≡ true → Fair pool ws (running pool ws)
running_fair pool ws ok =
    let f = shareable_facts pool ws (length ws) ok in
    fair_by_place running_part pool ws f.none_negative (running_adds (unsigned_abs pool) (sizes ws) f.positive) (running_near (unsigned_abs pool) (sizes ws) f.positive)
