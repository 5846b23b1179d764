-- Openings: when an hour is void, how many participants it has, and how much it can hold.
use Rattle.std.specs.Prelude.{ℕ, min, Bool, not, cond, ◌&&◌, ℤ, pos, int_le, unsigned_abs}
use Rattle.postings.specs.declared.opening.Opening.{Opening}

-- from the lower bound to the upper one
abbrev pub within : ℤ → ℤ → ℤ → Bool
within low high z = int_le low z && int_le z high

-- void unless 1 to 64 participants are asked for and the account table has a row for each
abbrev pub is_void : Opening → Bool
is_void o = not (within (pos 1) (pos 64) o.participants && int_le o.participants (pos o.rows))

-- a void hour has no participants
abbrev pub participant_count : Opening → ℕ
participant_count o = cond (is_void o) 0 (unsigned_abs o.participants)

-- at most 1,024 records and 256 bilaterals, and neither more than its list holds
abbrev pub record_capacity : Opening → ℕ
record_capacity o = min o.record_places 1024

abbrev pub bilateral_capacity : Opening → ℕ
bilateral_capacity o = min o.bilateral_places 256
