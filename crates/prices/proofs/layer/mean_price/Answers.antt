use Rattle.std.proofs.Common.{◌≡◌, List, [], get_or, pos, ap, ap₂, ◌∙◌, rules}
use Rattle.prices.specs.Means.{component, energy_of, nearest_mean}
use Rattle.prices.specs.Priced.{price_of}
use Rattle.prices.specs.declared.member.Member.{Member}
use Rattle.prices.proofs.Turns.{mean_is}
use Rattle.prices.proofs.layer.mean_price.Goals as goal

-- what is read past the end
abbrev blank : Member
blank = record { code = record { bytes = [] }; weight = pos 0 }

pub returns : goal.returns
returns g c =
    let q = g.S.PriceSource.quote c.args.below.now in
    let sums = c.in_ok-sums.ensures.1 in
    let first = c.in_ok-first.ensures ∙ ap (λ (xs : List Member). q (get_or xs 0 blank).code c.args.market) c.as_slice.ensures in
    let energy : c.components.result.energy ≡ c.energy.result = search rules in
    let made : c.new.result ≡ price_of (record { energy = c.components.result.energy; congestion = c.components.result.congestion; loss = c.components.result.loss }) = search rules in
    mean_is q c.args.market c.args.members.now.list.items blank _ _ _ c.new.result c.args.members.now.some c.in_ok-sums.ensures.0
    (energy ∙ c.energy.ensures ∙ ap (component energy_of) first)
    (c.components.ensures.congestion ∙ ap₂ nearest_mean sums.congestion sums.weight)
    (c.components.ensures.loss ∙ ap₂ nearest_mean sums.loss sums.weight)
    made
