use Rattle.std.proofs.Common.{◌∙◌, ap, length, arith}
use Rattle.rules.specs.Sharing.{largest_remainder}
use Rattle.rules.specs.Shareable.{shareable_facts}
use Rattle.rules.proofs.sharing.LargestRemainderSharing.share.Goals as goal

pub write_largest_remainder-requires : goal.write_largest_remainder-requires
write_largest_remainder-requires c =
    let e = c.in_ok-pool.ensures in
    omega (arith, (shareable_facts c.args.pool.0 c.args.weights.now _ e.0).each, ap length e.2)

pub returns : goal.returns
returns c =
    let e = c.in_ok-pool.ensures in
    (e.0, c.write_largest_remainder.ensures ∙ ap (λ p. largest_remainder p.0 c.in_ok-pool.pool.weights.now) e.1 ∙ ap (largest_remainder c.args.pool.0) e.2)
