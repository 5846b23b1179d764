-- The number that a field's text states is the only one that the field can hold.
use Rattle.std.proofs.Common.{◌≡◌, ℕ, zero, suc, ◌+◌, ◌-◌, ◌%◌, ◌^◌, ◌<◌, ◌==◌, Bool, true, false, List, [], ◌∷◌, ◌++◌, length, get_or, take, drop, replicate, ℤ, pos, negsuc, nat_abs, Some, None, Ok, Option, Result, decimal, Decides, Bor, MatchOption, IsUtf8, sym, refl, ap, ◌∙◌, arith, w64}
use lib.Dec.{eqb}
use lib.Signed.{mag}
use lib.Pointwise.{pointwise}
use Rattle.std.specs.Char.{is_ascii_whitespace}
use Rattle.std.specs.List.{list_all, prefix_len}
use Rattle.std.specs.Str.{IsTrimAsciiStart}
use Rattle.std.specs.Str.Parse.{ParsesSigned}
use Rattle.std.proofs.lemmas.Bool.{both_ways, cond_both}
use Rattle.std.proofs.lemmas.Bool.Decides.{Decides-eqb, nat_tests}
use Rattle.std.proofs.lemmas.Fmt.{IsAscii-signed, decimal_by_steps, parse-signed_decimal, signed_decimal_injective}
use Rattle.std.proofs.lemmas.List.{drop_at, length-append, length-replicate, take_at, get_or_append_left}
use Rattle.std.proofs.lemmas.List.Folds.{prefix_len-append, prefix_len-replicate}
use Rattle.std.proofs.lemmas.List.Sums.{prefix_len-drop_no}
use Rattle.std.proofs.lemmas.Slice.Eq.{strip_suffix_is}
use Rattle.std.proofs.lemmas.Str.{IsUtf8-from_ascii}
use Rattle.std.proofs.lemmas.Str.Ascii.{trim_ascii_start_is}
use Rattle.text.specs.Fields.{Field, right, number_text}
use Rattle.text.proofs.Sizes.{field_small}

-- a printed number does not begin with a space
record Begins (bs : List ℕ) : Type 0 where
  some : 0 < length bs
  dense : is_ascii_whitespace (get_or bs 0 0) ≡ false

decimal_begins : (n : ℕ) → n < 2 ^ 64 → Begins (decimal n)
decimal_begins n h =
    decimal_by_steps (λ m ds. Begins ds)
    (λ m k. record { some = omega arith; dense = grind (arith, nat_tests) })
    (λ m ds k b. record { some = omega (arith, b.some, length-append ds ((48 + m % 10) ∷ [])); dense = ap is_ascii_whitespace (get_or_append_left ds ((48 + m % 10) ∷ []) 0 0 b.some) ∙ b.dense })
    n h

number_begins : (z : ℤ) → nat_abs z < 10 ^ 18 → Begins (number_text z)
number_begins (pos n) h = decimal_begins n (omega arith)
number_begins (negsuc n) h = record { some = omega arith; dense = refl }

-- so a field without its spaces is the text of its number
unspaced : (bs : List ℕ) (z : ℤ) → Field bs z → drop (prefix_len is_ascii_whitespace bs) bs ≡ number_text z
unspaced bs z f =
    let k = length bs - length (number_text z) in
    let b = number_begins z (field_small bs z f) in
    let none : prefix_len is_ascii_whitespace (number_text z) ≡ 0 = prefix_len-drop_no is_ascii_whitespace (number_text z) 0 0 b.some b.dense in
    let spaces : prefix_len is_ascii_whitespace (replicate k 32) ≡ k = prefix_len-replicate is_ascii_whitespace k 32 refl in
    let wide : length (replicate {A = ℕ} k 32) ≡ k = length-replicate k 32 in
    let skipped : prefix_len is_ascii_whitespace (replicate k 32 ++ number_text z) ≡ k =
    prefix_len-append is_ascii_whitespace (replicate k 32) (number_text z)
    ∙ cond_both _ (length (replicate {A = ℕ} k 32) + prefix_len is_ascii_whitespace (number_text z)) (prefix_len is_ascii_whitespace (replicate k 32)) (λ n. n ≡ k) (λ t. omega arith) (λ t. spaces) in
    ap (λ (xs : List ℕ). drop (prefix_len is_ascii_whitespace xs) xs) f.printed
    ∙ ap (λ (n : ℕ). drop n (replicate k 32 ++ number_text z)) skipped
    ∙ drop_at (replicate k 32) (number_text z) k wide

pub stated : (bs text : List ℕ) (z : ℤ) → Field bs z → IsTrimAsciiStart bs text → text ≡ number_text z
stated bs text z f trimmed = trim_ascii_start_is bs text trimmed ∙ unspaced bs z f

-- whether the number's text, after spaces, is the whole field
all_spaces : (xs : List ℕ) → list_all (λ (b : ℕ). b == 32) xs ≡ true → xs ≡ replicate (length xs) 32
all_spaces [] t = refl
all_spaces (x ∷ xs) t = let r = all_spaces xs in grind (arith, nat_tests)

spaces_all : (n : ℕ) → list_all (λ (b : ℕ). b == 32) (replicate n 32) ≡ true
spaces_all zero = refl
spaces_all (suc n) = spaces_all n

pub held : (bs text : List ℕ) (z : ℤ) (front : Option (Bor (List ℕ))) (t : Bool) → text ≡ number_text z → MatchOption front (pointwise eqb (drop (length bs - length text) bs) text ≡ false) (λ x. (pointwise eqb (drop (length bs - length text) bs) text ≡ true) × (x.now ≡ take (length bs - length text) bs) × (length x.now + length text ≡ length bs)) → MatchOption front (t ≡ false) (λ x. t ≡ list_all (λ (b : ℕ). b == 32) x.now) → Decides t (bs ≡ right (length bs) (number_text z))
held bs text z None t e cut all =
    (λ h. absurd (both_ways t all h), λ same. absurd (strip_suffix_is Decides-eqb bs text None cut (replicate (length bs - length (number_text z)) 32) (same ∙ ap (λ (xs : List ℕ). replicate (length bs - length (number_text z)) 32 ++ xs) (sym e))))
held bs text z (Some x) t e cut all = (λ h. spaced (all_spaces x.now (sym all ∙ h)), λ same. all ∙ ap (list_all (λ (b : ℕ). b == 32)) (blank same) ∙ spaces_all (length bs - length (number_text z)))
  where
    k : ℕ
    k = length bs - length (number_text z)

    parts : bs ≡ x.now ++ number_text z
    parts = strip_suffix_is Decides-eqb bs text (Some x) cut ∙ ap (λ (xs : List ℕ). x.now ++ xs) e

    wide : length x.now ≡ k
    wide = omega (arith, cut, ap length e)

    spaced : x.now ≡ replicate (length x.now) 32 → bs ≡ right (length bs) (number_text z)
    spaced h = parts ∙ ap (λ (xs : List ℕ). xs ++ number_text z) (h ∙ ap (λ (n : ℕ). replicate n 32) wide)

    blank : bs ≡ right (length bs) (number_text z) → x.now ≡ replicate k 32
    blank same =
        sym (take_at x.now (number_text z) k wide) ∙ ap (take k) (sym parts ∙ same) ∙ take_at (replicate k 32) (number_text z) k (length-replicate k 32)

small : (z : ℤ) → nat_abs z < 10 ^ 18 → mag z < 2 ^ 63
small (pos n) h = omega arith
small (negsuc n) h = omega arith

-- a field holds one number at most
pub field_only : (bs : List ℕ) (y z : ℤ) → Field bs y → Field bs z → y ≡ z
field_only bs y z f g = signed_decimal_injective y z (small y (field_small bs y f)) (small z (field_small bs z g)) (sym (unspaced bs y f) ∙ unspaced bs z g)

-- the text of a field's number is text, and parses as the number
pub is_text : (bs text : List ℕ) (z : ℤ) → Field bs z → IsTrimAsciiStart bs text → IsUtf8 text
is_text bs text z f trimmed = IsUtf8-from_ascii text (rw (stated bs text z f trimmed) (IsAscii-signed z (small z (field_small bs z f))))

pub parsed : {E : Type 0} (bs text : List ℕ) (z : ℤ) (r : Result ℤ E) → Field bs z → IsTrimAsciiStart bs text → ParsesSigned w64 10 text r → r ≡ Ok z
parsed bs text z r f trimmed h =
    let room = small z (field_small bs z f) in parse-signed_decimal w64 z text r (record { sfits = room }) room (stated bs text z f trimmed) h
