use Rattle.std.proofs.Common.{◌≡◌, ◌-◌, ◌≤◌, ◌++◌, length, replicate}
use Rattle.expense_text.proofs.row.push_column.Given as goal

-- a space for each turn so far, and no more turns than the columns leave room for
abbrev pub invariant-loop : goal.invariant-loop
invariant-loop l =
    (l.row.bytes ≡ l.initial.row.bytes ++ replicate (l.counter - length l.text) 32)
    × (l.counter - length l.text ≤ l.width - length l.text)
