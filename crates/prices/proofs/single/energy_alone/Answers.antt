use Rattle.std.proofs.Common.{◌≡◌, ◌∙◌, ap, rules}
use Rattle.std.specs.Option.{ok_or}
use Rattle.prices.specs.Priced.{price_of}
use Rattle.prices.specs.Singles.{energy_alone}
use Rattle.prices.proofs.Alone.{told}
use Rattle.prices.proofs.single.energy_alone.Goals as goal

pub returns : goal.returns
returns c =
    let made : c.new.result ≡ price_of (energy_alone c.args.energy) = search rules in
    told c.args.energy c.new.result _ made (c.ok_or.ensures.value ∙ ap (ok_or c.new.result) c.price_fault.ensures)
