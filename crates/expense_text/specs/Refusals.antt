-- The row that a refusal prints.
use Rattle.std.specs.Prelude.{ℕ, ◌≤◌, min, List, [], ◌∷◌, ◌++◌, replicate, pos, codes}
use Rattle.std.specs.Option.{unwrap_or}
use Rattle.measures.specs.Faults.{number_of, layer_name}
use Rattle.measures.specs.declared.fault.Fault.{Fault}
use Rattle.text.specs.Fields.{Field, number_text, written}

-- w columns with the text at their right end, or blank where it does not fit
abbrev pub field : ℕ → List ℕ → List ℕ
field w bs = written bs (replicate w 32)

-- the text line in 6 columns (0 where there is none, blank past 999,999)
abbrev pub line_field : ℕ → List ℕ
line_field line = field 6 (number_text (pos (min line 1000000)))

-- ERR and a space, the text line, the refusal's number in 15, the layer in 15, a line feed
abbrev pub fault_row : Fault → List ℕ
fault_row f =
    codes "ERR "
    ++ (line_field (unwrap_or f.text_line 0) ++ (field 15 (number_text (pos (number_of f.cause))) ++ (field 15 (layer_name f.layer) ++ (10 ∷ []))))

-- its numbers, in their columns, read as those numbers: the text line up to 999,999, and the refusal's number
abbrev pub RowRead : Fault → Type 0
RowRead f =
    (unwrap_or f.text_line 0 ≤ 999999 → Field (line_field (unwrap_or f.text_line 0)) (pos (unwrap_or f.text_line 0)))
    × Field (field 15 (number_text (pos (number_of f.cause)))) (pos (number_of f.cause))
