-- Fixed-column fields: how numbers and amounts are printed in them, what a written field holds, and what a field reads as.
use Rattle.std.specs.Prelude.{◌≡◌, ℕ, suc, ◌+◌, ◌-◌, ◌/◌, ◌%◌, ◌≤◌, Bool, cond, List, [], ◌∷◌, ◌++◌, length, replicate, ℤ, pos, negsuc, Some, None, decimal, Option, nat_le}
use Rattle.std.specs.Fmt.{signed_decimal}

-- the bytes bs at the right end of w columns, after spaces
abbrev pub right : ℕ → List ℕ → List ℕ
right w bs = replicate (w - length bs) 32 ++ bs

-- a number in decimal digits, after a minus sign where it is negative; no leading zeros, no -0
abbrev pub number_text : ℤ → List ℕ
number_text z = signed_decimal z

-- n cents in dollars: the whole dollars, a point, two digits
abbrev pub whole_and_cents : ℕ → List ℕ
whole_and_cents n = decimal (n / 100) ++ (46 ∷ (48 + n / 10 % 10) ∷ (48 + n % 10) ∷ [])

-- a number of cents in dollars, after a minus sign where it is negative: -84 cents is -0.84
abbrev pub dollars_text : ℤ → List ℕ
dollars_text (pos n) = whole_and_cents n
dollars_text (negsuc n) = 45 ∷ whole_and_cents (suc n)

-- the bytes bs are a field of at most 18 columns that holds the number z: z as printed, right-justified
pub record Field (bs : List ℕ) (z : ℤ) : Type 0 where
  pub columns : length bs ≤ 18
  pub printed : bs ≡ right (length bs) (number_text z)

-- what a field reads as: the one number that it holds, or none where it holds no number
abbrev pub Reads : List ℕ → Option ℤ → Type 0
Reads bs None = (z : ℤ) → Field bs z → ⊥
Reads bs (Some z) = Field bs z × ((y : ℤ) → Field bs y → y ≡ z)

-- whether the bytes bs fit in the columns of a field
abbrev pub fits : List ℕ → List ℕ → Bool
fits bs columns = nat_le (length bs) (length columns)

-- what a field holds after bs was to be written in it: bs right-justified where they fit, else what it held before
abbrev pub written : List ℕ → List ℕ → List ℕ
written bs before = cond (fits bs before) (right (length before) bs) before
