-- Lines: the bytes before a line feed. Only the line feed, byte 10, ends a line.
use Rattle.std.specs.Prelude.{◌≡◌, ℕ, ◌<◌, List, ◌∷◌, ◌++◌, length, ◌≢◌, slice_index}

-- no byte is a line feed
abbrev pub NoLineFeed : List ℕ → Type 0
NoLineFeed bs = (k : ℕ) → k < length bs → slice_index bs k ≢ 10

-- the line is all before the first line feed, and the rest is all after it
pub record FirstLine (bs line rest : List ℕ) : Type 0 where
  pub parts : bs ≡ line ++ (10 ∷ rest)
  pub unbroken : NoLineFeed line
