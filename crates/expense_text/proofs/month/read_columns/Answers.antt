use Rattle.std.proofs.Common.{◌≡◌, suc, ◌-◌, pos, nat_abs, arith, w64, to_z, of_z}
use Rattle.std.proofs.lemmas.Int.{ints}
use Rattle.expense_text.proofs.Columns.{in_word, use_apart, use_read, word_held}
use Rattle.expense_text.proofs.month.read_columns.Goals as goal
use Rattle.expense_text.proofs.month.read_columns.Goals.{then-participant-lt1-via-then-participant-lt1, then-participant-lt1-via-else-participant-lt1+then-participant-before}

pub returns-in_err-participant : goal.returns-in_err-participant
returns-in_err-participant c = rw c.from_residual.ensures (λ u h. c.in_err-participant.ensures _ (use_apart _ _ u h).first)

pub returns-then-participant-lt1 : goal.returns-then-participant-lt1
returns-then-participant-lt1 c u h =
    let e = c.in_ok-participant.ensures.1 _ (use_apart _ _ u h).first in
    let same = in_word _ _ c.in_ok-participant.ensures.0 in
    elim c.then-participant-lt1.branch [ then-participant-lt1-via-then-participant-lt1 w ↦ grind (arith, ints) | then-participant-lt1-via-else-participant-lt1+then-participant-before w ↦ grind (arith, ints) ]

pub returns-in_err-load : goal.returns-in_err-load
returns-in_err-load c = rw c.from_residual-in_err-load.ensures (λ u h. c.in_err-load.ensures _ (use_apart _ _ u h).second)

pub returns-in_err-generation : goal.returns-in_err-generation
returns-in_err-generation c = rw c.from_residual-in_err-generation.ensures (λ u h. c.in_err-generation.ensures _ (use_apart _ _ u h).third)

pub returns-in_err-peak_load : goal.returns-in_err-peak_load
returns-in_err-peak_load c = rw c.from_residual-in_err-peak_load.ensures (λ u h. c.in_err-peak_load.ensures _ (use_apart _ _ u h).fourth)

pub returns-in_err-peak_generation : goal.returns-in_err-peak_generation
returns-in_err-peak_generation c = rw c.from_residual-in_err-peak_generation.ensures (λ u h. c.in_err-peak_generation.ensures _ (use_apart _ _ u h).fifth)

pub returns : goal.returns
returns c =
    let read = c.in_ok-participant.ensures.0 in
    let same = in_word _ _ read in
    let one_less : nat_abs (to_z w64 (of_z w64 c.in_ok-participant.participant)) - 1 ≡ c.args.before = omega arith in
    let p : c.in_ok-participant.participant ≡ pos (suc c.args.before) = grind (arith, ints) in
    use_read _ c.args.columns.now (suc c.args.before) _ _ _ _ c.if-columns-ne44.false
    (record { first = rw (← p) read; second = word_held _ _ c.in_ok-load.ensures.0; third = word_held _ _ c.in_ok-generation.ensures.0; fourth = word_held _ _ c.in_ok-peak_load.ensures.0; fifth = word_held _ _ c.in_ok-peak_generation.ensures.0 })
    c.new.ensures
