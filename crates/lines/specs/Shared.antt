-- Shared lines: what sharing a line's pool by its weights answers and leaves.
use Rattle.std.specs.Prelude.{◌≡◌, ℕ, true, false, List, length, ℤ, Ok, Err, Result}
use Rattle.measures.specs.Faults.{on_charge_line}
use Rattle.measures.specs.declared.amounts.Cents.{Cents}
use Rattle.measures.specs.declared.fault.Fault.{Fault}
use Rattle.rules.specs.Sharing.{amounts, shareable, sharing_fault, Fair}

-- the refusal of a pool that cannot be shared, with the number of its charge line
abbrev pub line_fault : ℕ → List ℤ → ℕ → Fault
line_fault number ws places = on_charge_line number (sharing_fault ws places)

-- the test before anything is written
abbrev pub LineChecked : ℕ → ℤ → List ℤ → ℕ → Result Unit Fault → Type 0
LineChecked number pool ws places (Ok _) = shareable pool ws places ≡ true
LineChecked number pool ws places (Err f) = (shareable pool ws places ≡ false) × (f ≡ line_fault number ws places)

-- the shares are written to the list handed over, and are fair; or it stays as it was
abbrev pub LineShared : (ℤ → List ℤ → List ℤ) → ℕ → ℤ → List ℤ → List Cents → List Cents → Result Unit Fault → Type 0
LineShared rule number pool ws before after (Ok _) = (shareable pool ws (length before) ≡ true) × (amounts after ≡ rule pool ws) × Fair pool ws (amounts after)
LineShared rule number pool ws before after (Err f) = (shareable pool ws (length before) ≡ false) × (f ≡ line_fault number ws (length before)) × (after ≡ before)
