use Rattle.std.proofs.Common.{◌≡◌, rules}
use Rattle.std.proofs.lemmas.Bool.{and_from}
use Rattle.prices.specs.Singles.{energy_alone}
use Rattle.prices.proofs.Alone.{alone_in_range, says_alone}
use Rattle.prices.proofs.single.SinglePrice.new.Goals as goal

pub returns : goal.returns
returns c =
    let day_ahead = c.in_ok-energy_alone.field-0 in
    let real_time = c.in_ok-energy_alone-2.field-0 in
    let d : day_ahead.components ≡ energy_alone c.args.day_ahead = search rules in
    let r : real_time.components ≡ energy_alone c.args.real_time = search rules in
    (and_from _ _ (alone_in_range day_ahead _ d) (alone_in_range real_time _ r), says_alone (record { day_ahead = day_ahead; real_time = real_time }) _ _ d r)
