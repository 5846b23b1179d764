-- The numbers of a bill's rows and of a refusal's row read as what they tell.
use Rattle.std.proofs.Common.{◌≡◌, ℕ, ◌+◌, ◌^◌, ◌<◌, ◌≤◌, min, List, length, pos, subst, arith}
use Rattle.std.specs.Option.{unwrap_or}
use Rattle.measures.specs.Faults.{number_of}
use Rattle.measures.specs.declared.amounts.Cents.{Cents}
use Rattle.measures.specs.declared.fault.Fault.{Fault}
use Rattle.text.specs.Fields.{Field, number_text}
use Rattle.expense_text.specs.Bills.{LinesRead, ParticipantsRead}
use Rattle.expense_text.specs.Refusals.{RowRead, field}
use Rattle.expense_text.proofs.Refused.{number_read}

pub participants_read : (xs : List Cents) → length xs ≤ 64 → ParticipantsRead xs
participants_read xs few i h = number_read 4 (i + 1) (omega arith) (omega arith) (omega arith) (omega arith)

pub lines_read : LinesRead
lines_read = (number_read 6 21 (omega arith) (omega arith) (omega arith) (omega arith), number_read 6 22 (omega arith) (omega arith) (omega arith) (omega arith))

-- a refusal's row
pub row_read : (f : Fault) → number_of f.cause < 2 ^ 8 → RowRead f
row_read f small =
    let line = unwrap_or f.text_line 0 in (
      λ (low : line ≤ 999999).
          let same : line ≡ min line 1000000 = omega arith in
          subst (λ (n : ℕ). Field (field 6 (number_text (pos n))) (pos line)) same (number_read 6 line (omega arith) (omega arith) (omega arith) (omega arith)),
      number_read 15 (number_of f.cause) (omega arith) (omega arith) (omega arith) (omega arith),
    )
