-- The test of line 22, and the refusal of an expense from the tests of its lines.
use Rattle.std.proofs.Common.{◌≤◌, ◌≡◌, ℕ, ◌-◌, ◌/◌, true, eqb, List, length, ℤ, pos, negsuc, ◌+ℤ◌, None, Ok, Err, Result, sym, refl, ap, ◌∙◌, subst, arith}
use borrow.Author.Differences.{ints}
use Rattle.std.proofs.lemmas.Bool.{and_parts}
use Rattle.measures.specs.declared.amounts.Cents.{Cents}
use Rattle.measures.specs.declared.fault.Fault.{Fault}
use Rattle.rules.specs.Shareable.{shareable_facts}
use Rattle.rules.proofs.Within.{fair_within}
use Rattle.rules.specs.Sharing.{amounts, shareable, total, Fair, Within}
use Rattle.lines.specs.Expense.{peak_pool, volume_pool, expense_in_range, expense_refusal, peaks_shareable, ExpenseShared, ExpenseAnswered}
use Rattle.lines.specs.Shared.{LineShared}
use Rattle.lines.proofs.Halves.{pools_add}

-- where line 22 passed its test, its pool can be shared
pub peaks_pass : (e : ℤ) (participants : ℕ) (peaks : List ℤ) (places : ℕ) → peaks_shareable e participants peaks places ≡ true → shareable (peak_pool e) peaks places ≡ true
peaks_pass e participants peaks places h = (and_parts (eqb (length peaks) participants) _ h).1

-- an accepted line charges nobody less than 0 or more than its pool
line_within : (rule : ℤ → List ℤ → List ℤ) (number : ℕ) (pool : ℤ) (t : ℕ) (ws : List ℤ) (before after : List Cents) → pool ≡ pos t → LineShared rule number pool ws before after (Ok tt) → Within pool (amounts after)
line_within rule number pool t ws before after same h =
    let can = subst (λ (n : ℕ). shareable pool ws n ≡ true) (shareable_facts pool ws (length before) h.0).each h.0 in
    let can-t = subst (λ (z : ℤ). shareable z ws (length ws) ≡ true) same can in
    let fair-t = subst (λ (z : ℤ). Fair z ws (amounts after)) same h.2 in
    subst (λ (z : ℤ). Within z (amounts after)) (sym same) (fair_within t ws (amounts after) can-t fair-t)

rest_of_half : (n : ℕ) → volume_pool (pos n) ≡ pos (n - n / 2)
rest_of_half n = omega (arith, ints)

-- both lines shared: every cent of the expense is in one of them
pub both_shared : (rule : ℤ → List ℤ → List ℤ) (e : ℤ) (volumes peaks : List ℤ) (before21 after21 before22 after22 : List Cents) → expense_in_range e ≡ true → LineShared rule 21 (volume_pool e) volumes before21 after21 (Ok tt) → LineShared rule 22 (peak_pool e) peaks before22 after22 (Ok tt) → ExpenseShared rule e volumes peaks (amounts after21) (amounts after22)
both_shared rule (pos n) volumes peaks before21 after21 before22 after22 c a b =
    record {
      by_volume = a.1;
      by_peak = b.1;
      volume_fair = a.2;
      peak_fair = b.2;
      volume_within = line_within rule 21 (volume_pool (pos n)) (n - n / 2) volumes before21 after21 (rest_of_half n) a;
      peak_within = line_within rule 22 (peak_pool (pos n)) (n / 2) peaks before22 after22 refl b;
      every_cent = ap (λ (z : ℤ). z +ℤ total (amounts after22)) a.2.adds ∙ ap (λ (z : ℤ). volume_pool (pos n) +ℤ z) b.2.adds ∙ pools_add (pos n);
    }
both_shared rule (negsuc n) volumes peaks before21 after21 before22 after22 c a b = absurd (cc)

-- after both tests and an accepted line 21, line 22 is accepted too
pub expense_done : (rule : ℤ → List ℤ → List ℤ) (e : ℤ) (volumes peaks : List ℤ) (before21 after21 before22 after22 : List Cents) (r : Result Unit Fault) → shareable (volume_pool e) volumes (length before21) ≡ true → peaks_shareable e (length volumes) peaks (length before22) ≡ true → expense_in_range e ≡ true → LineShared rule 21 (volume_pool e) volumes before21 after21 (Ok tt) → LineShared rule 22 (peak_pool e) peaks before22 after22 r → ExpenseAnswered rule e volumes peaks before21 after21 before22 after22 r
expense_done rule e volumes peaks before21 after21 before22 after22 (Ok u) a b c x y =
    (simp (a, b, c) refl, both_shared rule e volumes peaks before21 after21 before22 after22 c x y)
expense_done rule e volumes peaks before21 after21 before22 after22 (Err f) a b c x y =
    let yes = peaks_pass e (length volumes) peaks (length before22) b in
    let no = y.0 in
    absurd (cc)

-- an expense that is not refused is in range
pub accepted_range : (e : ℤ) (volumes peaks : List ℤ) (m n : ℕ) → expense_refusal e volumes peaks m n ≡ None → expense_in_range e ≡ true
accepted_range e volumes peaks m n h = grind arith

-- and its participants are at most 64
pub accepted_few : (e : ℤ) (volumes peaks : List ℤ) (m n : ℕ) → expense_refusal e volumes peaks m n ≡ None → length volumes ≤ 64
accepted_few e volumes peaks m n h =
    let can : shareable (volume_pool e) volumes m ≡ true = grind arith in
    (shareable_facts (volume_pool e) volumes m can).few
