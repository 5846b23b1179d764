-- From the answer of billing a month to that of its file.
use Rattle.std.proofs.Common.{◌≡◌, ℕ, ◌≤◌, ◌⊎◌, List, length, ℤ, Ok, Err, None, Some, MatchResult, Result, String, Global, ap, ◌∙◌, inl, inr}
use Rattle.std.specs.Result.{IsErrAnd}
use Rattle.std.proofs.lemmas.Result.{err_from_is_err_and}
use Rattle.measures.specs.declared.fault.Fault.{Fault}
use Rattle.lines.specs.declared.month_use.MonthUse.{MonthUse}
use Rattle.expense_text.specs.Bills.{BillAnswered, bill_refusal}
use Rattle.expense_text.specs.Files.{FileAnswered, at_its_line}
use Rattle.expense_text.specs.Months.{IsMonth, no_memory}

pub not_billed : (rule : ℤ → List ℤ → List ℤ) (bs : List ℕ) (e : ℤ) (us : List MonthUse) (why f : Fault) → length bs ≤ 65536 → IsMonth e us bs → f ≡ at_its_line why → (bill_refusal e us ≡ Some why) ⊎ ((bill_refusal e us ≡ None) × (why ≡ no_memory)) → FileAnswered rule bs (Err f)
not_billed rule bs e us why f short month at (inl h) = inr (short, inr (inl (e, (us, (why, (month, h, at))))))
not_billed rule bs e us why f short month at (inr h) = inr (short, inr (inr (inr (e, (us, (month, h.0, at ∙ ap at_its_line h.1))))))

pub filed : (rule : ℤ → List ℤ → List ℤ) (bs : List ℕ) (e : ℤ) (us : List MonthUse) (billed r : Result (String Global) Fault) → length bs ≤ 65536 → IsMonth e us bs → BillAnswered rule e us billed → MatchResult billed (λ page. r ≡ Ok page) (λ why. IsErrAnd r (λ f. f ≡ at_its_line why)) → FileAnswered rule bs r
filed rule bs e us (Ok page) r short month bill h = rw h (short, (e, (us, (month, bill))))
filed rule bs e us (Err why) r short month bill h =
    let p = err_from_is_err_and r h in rw p.1 (not_billed rule bs e us why p.0 short month p.2 bill)
