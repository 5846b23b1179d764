use Rattle.std.proofs.Common.{◌≡◌, ◌-◌, length, replicate, rules}
use Rattle.std.proofs.lemmas.List.{length-take}
use Rattle.text.proofs.Justified.{justified}
use Rattle.text.proofs.fields.write_text.Goals as goal

pub returns : goal.returns
returns c =
    let spaces : c.fill.new.self ≡ replicate (length c.args.field.now - length c.args.text.now) 32 = search (rules, length-take) in
    record { answer = search rules; holds = search (rules, justified) }
