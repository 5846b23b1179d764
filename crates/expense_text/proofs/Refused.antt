-- Texts and numbers that fit their columns, and the text line of a refusal.
use Rattle.std.proofs.Common.{◌≡◌, ℕ, ◌-◌, ◌^◌, ◌<◌, ◌≤◌, min, List, [], length, replicate, pos, decimal, refl, sym, ap, ◌∙◌, arith}
use Rattle.std.proofs.lemmas.Bool.{le-leb}
use Rattle.std.proofs.lemmas.Fmt.{length-decimal-le}
use Rattle.std.proofs.lemmas.List.{length-append, length-replicate}
use Rattle.std.specs.Fmt.{digits}
use Rattle.text.specs.Fields.{Field, number_text, right}
use Rattle.expense_text.specs.Refusals.{field, line_field}

-- a text that fits is at the right end of its columns
pub shown : (w : ℕ) (bs : List ℕ) → length bs ≤ w → right w bs ≡ field w bs
shown w bs h =
    let wide : length (replicate {A = ℕ} w 32) ≡ w = length-replicate w 32 in
    rw (wide, le-leb (length bs) w h) refl

-- so is a number of few enough digits
pub number_shown : (w n : ℕ) → 0 < w → n < 10 ^ w → n < 2 ^ 64 → right w (number_text (pos n)) ≡ field w (number_text (pos n))
number_shown w n some low h = shown w (decimal n) (length-decimal-le w n some low h)

-- and its columns read as that number
pub number_read : (w n : ℕ) → 0 < w → w ≤ 18 → n < 10 ^ w → n < 2 ^ 64 → Field (field w (number_text (pos n))) (pos n)
number_read w n some few low h =
    let fits = length-decimal-le w n some low h in
    let laid = number_shown w n some low h in
    let columns = length-append (replicate {A = ℕ} (w - length (decimal n)) 32) (decimal n) in
    let spaces = length-replicate {A = ℕ} (w - length (decimal n)) 32 in
    let wide : length (field w (number_text (pos n))) ≡ w = sym (ap length laid) ∙ omega arith in
    record {
      columns = omega arith;
      printed = sym laid ∙ ap (λ (m : ℕ). right m (number_text (pos n))) (sym wide);
    }

-- the text line, where it has six digits at most, and a longer one
pub short_line : (n : ℕ) → n < 1000000 → right 6 (number_text (pos n)) ≡ line_field n
short_line n low =
    let same : n ≡ min n 1000000 = omega arith in
    number_shown 6 n (omega arith) (omega arith) (omega arith) ∙ ap (λ (k : ℕ). field 6 (number_text (pos k))) same

blank_line : right 6 [] ≡ field 6 (number_text (pos 1000000))
unfolding digits
blank_line = refl

pub long_line : (n : ℕ) → 1000000 ≤ n → right 6 [] ≡ line_field n
long_line n high =
    let same : 1000000 ≡ min n 1000000 = omega arith in
    blank_line ∙ ap (λ (k : ℕ). field 6 (number_text (pos k))) same
