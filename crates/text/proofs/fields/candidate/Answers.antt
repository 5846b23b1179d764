use Rattle.std.proofs.Common.{rules, ◌≡◌, ◌∙◌, ap}
use Rattle.std.specs.Result.{result_ok}
use Rattle.text.proofs.Readings.{is_text, parsed}
use Rattle.text.proofs.fields.candidate.Goals as goal

pub returns-in_err-text : goal.returns-in_err-text
returns-in_err-text c z f = let u = is_text _ _ z f c.trim_ascii_start.ensures.value in absurd (search rules)

pub returns : goal.returns
returns c z f =
    let same : c.in_ok-text.text.now ≡ c.trim_ascii_start.result.now = search rules in
    c.ok-2.ensures.value ∙ ap result_ok (parsed _ _ z c.parse.result f c.trim_ascii_start.ensures.value (rw (← same) c.parse.ensures.value.0))
