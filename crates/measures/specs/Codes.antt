-- Location codes: which are well-formed, and when two are the same.
use Rattle.std.specs.Prelude.{ℕ, Bool, true, false, cond, ◌&&◌, ◌||◌, List, [], ◌∷◌, ◌==◌, nat_le}
use Rattle.std.specs.List.{list_all}
use Rattle.std.specs.Str.{bytes_eq}
use Rattle.measures.specs.declared.code.LocationCode.{LocationCode}

-- a code byte: A to Z, 0 to 9, a full stop or a hyphen
abbrev pub code_byte : ℕ → Bool
code_byte b = (nat_le 65 b && nat_le b 90) || ((nat_le 48 b && nat_le b 57) || (b == 46 || b == 45))

-- only spaces
abbrev pub blank : List ℕ → Bool
blank = list_all (λ b. b == 32)

-- code bytes, and from some place on only spaces
abbrev pub padded : List ℕ → Bool
padded [] = true
padded (b ∷ bs) = cond (code_byte b) (padded bs) (blank (b ∷ bs))

-- a code byte first, then code bytes, then spaces
abbrev pub well_formed_bytes : List ℕ → Bool
well_formed_bytes [] = false
well_formed_bytes (b ∷ bs) = code_byte b && padded bs

abbrev pub well_formed : LocationCode → Bool
well_formed c = well_formed_bytes c.bytes

-- two codes are the same where all their bytes are
abbrev pub same_code : LocationCode → LocationCode → Bool
same_code c d = bytes_eq c.bytes d.bytes
