-- The lines of a month's file one after another.
use Rattle.std.proofs.Common.{None, Some, Err, Option, ◌≡◌, ℕ, suc, ◌+◌, ◌<◌, ◌⊎◌, List, [], ◌∷◌, ◌++◌, length, get_or, take, ℤ, sym, refl, ap, ◌∙◌, subst, ap₂, inl, inr, append_assoc, arith}
use Rattle.std.proofs.lemmas.List.{length-append, get_or_append_left, get_or_at, take_at}
use Rattle.std.specs.Option.{ok_or}
use Rattle.measures.specs.declared.fault.Fault.{Fault}
use Rattle.text.specs.Lines.{FirstLine, NoLineFeed}
use Rattle.lines.specs.declared.month_use.MonthUse.{MonthUse}
use Rattle.expense_text.proofs.Unbroken.{expense_unbroken, use_unbroken}
use Rattle.expense_text.specs.Months.{AgainstLayout, AreUses, IsExpense, IsUse, NoExpense, NoUse, UsesBefore, WrongAmong, expense_line, layout_fault, no_memory, use_line}

-- what is refused for want of a value is refused as it was said
pub refused_so : {T E : Type 0} (o : Option T) (e f : E) → o ≡ None → Err f ≡ ok_or o e → f ≡ e
refused_so None e f none h = cc
refused_so (Some x) e f none h = cc

-- where a first line ends there is a line feed
line_end : (bs line rest : List ℕ) → FirstLine bs line rest → (length line < length bs) × (get_or bs (length line) 0 ≡ 10)
line_end bs line rest f =
    (omega (arith, ap length f.parts, length-append line (10 ∷ rest)), ap (λ (xs : List ℕ). get_or xs (length line) 0) f.parts ∙ get_or_at line 10 rest 0 (length line) refl)

-- without a line feed there is no line
pub no_first_line : (bs line rest : List ℕ) → NoLineFeed bs → FirstLine bs line rest → ⊥
no_first_line bs line rest none f = let e = line_end bs line rest f in none (length line) e.0 e.1

-- no first line is longer than another
no_longer : (bs line rest line' rest' : List ℕ) → FirstLine bs line rest → FirstLine bs line' rest' → length line < length line' → ⊥
no_longer bs line rest line' rest' f g h =
    g.unbroken (length line) h
    (sym (get_or_append_left line' (10 ∷ rest') 0 (length line) h) ∙ sym (ap (λ (xs : List ℕ). get_or xs (length line) 0) g.parts) ∙ (line_end bs line rest f).1)

-- so there is one at most
pub one_first_line : (bs line rest line' rest' : List ℕ) → FirstLine bs line rest → FirstLine bs line' rest' → line' ≡ line
one_first_line bs line rest line' rest' f g =
    let short = no_longer bs line rest line' rest' f g in
    let long = no_longer bs line' rest' line rest g f in
    let n : length line' ≡ length line = grind arith in
    sym (take_at line' (10 ∷ rest') (length line) n) ∙ sym (ap (take (length line)) g.parts) ∙ ap (take (length line)) f.parts ∙ take_at line (10 ∷ rest) (length line) refl

-- one line more
line_after : (n k : ℕ) (us : List MonthUse) (u : MonthUse) (front line : List ℕ) → AreUses n us front → IsUse line k u → k ≡ n + length us → AreUses n (us ++ (u ∷ [])) (front ++ (line ++ (10 ∷ [])))
line_after n k [] u front line e h d =
    let same : line ≡ use_line n u = h.1 ∙ ap (λ (m : ℕ). use_line m u) (omega arith) in
    ([], (sym (ap length same) ∙ h.0, ap₂ (λ (xs ys : List ℕ). xs ++ (ys ++ (10 ∷ []))) e same, refl))
line_after n k (v ∷ us) u front line (rest, (l, p, more)) h d =
    (rest ++ (line ++ (10 ∷ [])), (l, ap (λ (xs : List ℕ). xs ++ (line ++ (10 ∷ []))) p ∙ append_assoc (use_line n v) (10 ∷ rest) (line ++ (10 ∷ [])), line_after (suc n) k us u rest line more h (omega arith)))

pub one_more : (us : List MonthUse) (u : MonthUse) (bs rest line more : List ℕ) → UsesBefore us bs rest → FirstLine rest line more → IsUse line (suc (length us)) u → UsesBefore (us ++ (u ∷ [])) bs more
one_more us u bs rest line more b f h =
    record {
      front = b.front ++ (line ++ (10 ∷ []));
      parts = b.parts ∙ ap (λ (xs : List ℕ). b.front ++ xs) (f.parts ∙ sym (append_assoc line (10 ∷ []) more)) ∙ sym (append_assoc b.front (line ++ (10 ∷ [])) more);
      lines = line_after 1 (suc (length us)) us u b.front line b.lines h (omega arith);
    }

-- a participant's line and an expense's line are first lines, so a line is wrong that is not ended, or that states nothing
use_first : (n : ℕ) (u : MonthUse) (bs rest : List ℕ) → length (use_line n u) ≡ 46 → bs ≡ use_line n u ++ (10 ∷ rest) → FirstLine bs (use_line n u) rest
use_first n u bs rest l e = record { parts = e; unbroken = use_unbroken n u l }

pub unended : (n : ℕ) (bs : List ℕ) → NoLineFeed bs → NoUse n bs
unended n bs none u rest l e = no_first_line bs (use_line n u) rest none (use_first n u bs rest l e)

pub not_a_use : (n : ℕ) (bs line rest : List ℕ) → FirstLine bs line rest → ((u : MonthUse) → IsUse line n u → ⊥) → NoUse n bs
not_a_use n bs line rest f none u rest' l e =
    let same = one_first_line bs line rest (use_line n u) rest' f (use_first n u bs rest' l e) in none u (sym (ap length same) ∙ l, sym same)

expense_first : (x : ℤ) (bs rest : List ℕ) → length (expense_line x) ≡ 14 → bs ≡ expense_line x ++ (10 ∷ rest) → FirstLine bs (expense_line x) rest
expense_first x bs rest l e = record { parts = e; unbroken = expense_unbroken x l }

pub unended_expense : (bs : List ℕ) → NoLineFeed bs → NoExpense bs
unended_expense bs none x rest l e = no_first_line bs (expense_line x) rest none (expense_first x bs rest l e)

pub not_an_expense : (bs line rest : List ℕ) → FirstLine bs line rest → ((x : ℤ) → IsExpense line x → ⊥) → NoExpense bs
not_an_expense bs line rest f none x rest' l e =
    let same = one_first_line bs line rest (expense_line x) rest' f (expense_first x bs rest' l e) in none x (sym (ap length same) ∙ l, sym same)

-- the refusal of the line after the participants read
pub refused_line : (us : List MonthUse) (bs rest : List ℕ) (before : ℕ) (f : Fault) → UsesBefore us bs rest → 0 < length rest → before ≡ length us → NoUse (suc before) rest → f ≡ layout_fault (before + 2) → ((vs : List MonthUse) × (WrongAmong vs bs × (f ≡ layout_fault (length vs + 2)))) ⊎ (f ≡ no_memory)
refused_line us bs rest before f b some n wrong e =
    inl (us, (record { rest = rest; before = b; some_left = λ none. omega (arith, ap length none); wrong = subst (λ (k : ℕ). NoUse (suc k) rest) n wrong }, e ∙ ap (λ (k : ℕ). layout_fault (k + 2)) n))

-- a refusal among the participants' lines refuses the file
pub refused_file : (bs line rest : List ℕ) (e : ℤ) (f : Fault) → FirstLine bs line rest → IsExpense line e → ((us : List MonthUse) × (WrongAmong us rest × (f ≡ layout_fault (length us + 2)))) ⊎ (f ≡ no_memory) → AgainstLayout bs f ⊎ (f ≡ no_memory)
refused_file bs line rest e f first is (inr m) = inr m
refused_file bs line rest e f first is (inl (us, (w, n))) =
    inl (inr (
      e,
      (
        us,
        (
          record {
            front = line ++ (10 ∷ w.before.front);
            rest = w.rest;
            parts = first.parts ∙ ap (λ (xs : List ℕ). line ++ (10 ∷ xs)) w.before.parts ∙ sym (append_assoc line (10 ∷ w.before.front) w.rest);
            right_so_far = (w.before.front, (sym (ap length is.1) ∙ is.0, ap (λ (xs : List ℕ). xs ++ (10 ∷ w.before.front)) is.1, w.before.lines));
            some_left = w.some_left;
            wrong = w.wrong;
          },
          n,
        ),
      ),
    ))
