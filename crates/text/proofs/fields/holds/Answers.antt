use Rattle.std.proofs.Common.{◌∙◌, ap, w64}
use Rattle.std.proofs.lemmas.Int.{to_z-of_z}
use Rattle.text.specs.Fields.{number_text}
use Rattle.text.proofs.Readings.{held}
use Rattle.text.proofs.fields.holds.Goals as goal

pub returns : goal.returns
returns c =
    let printed = c.as_bytes.ensures.value ∙ c.format.ensures.text ∙ ap number_text (to_z-of_z w64 c.args.number c.ranges.number) in
    held c.args.field.now c.as_bytes.result.now c.args.number c.strip_suffix.result _ printed c.strip_suffix.ensures.cases c.is_some_and.ensures
