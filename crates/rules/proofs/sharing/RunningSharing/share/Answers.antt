use Rattle.std.proofs.Common.{◌∙◌, ap, length, arith}
use Rattle.rules.specs.Sharing.{running}
use Rattle.rules.specs.Shareable.{shareable_facts}
use Rattle.rules.proofs.sharing.RunningSharing.share.Goals as goal

pub write_running-requires : goal.write_running-requires
write_running-requires c =
    let e = c.in_ok-pool.ensures in
    omega (arith, (shareable_facts c.args.pool.0 c.args.weights.now _ e.0).each, ap length e.2)

pub returns : goal.returns
returns c =
    let e = c.in_ok-pool.ensures in
    (e.0, c.write_running.ensures ∙ ap (λ p. running p.0 c.in_ok-pool.pool.weights.now) e.1 ∙ ap (running c.args.pool.0) e.2)
