use Rattle.std.proofs.Common.{◌≡◌, ◌*◌, ◌%◌, ◌∙◌, ap, get_or, pos, sum, unsigned_abs, sym, rules, arith}
use Rattle.rules.specs.Sharing.{sizes, remainder}
use Rattle.rules.specs.Weights.{get_or_sizes}
use Rattle.rules.proofs.Lists.{one_more}
use Rattle.rules.proofs.Parts.{weight_fits}
use Rattle.rules.proofs.sharing.Pool.remainders.Goals as goal

pub remainder-requires : goal.remainder-requires
remainder-requires c =
    let ws = c.args.self.now.weights.now in
    let fits = weight_fits ws c.loop-weight.weight-index (omega arith) in
    let own : c.unsigned_abs.result ≡ unsigned_abs (get_or ws c.loop-weight.weight-index (pos 0)) = search rules in
    omega (arith, c.args.self.now.sums)

pub loop-weight-preserved : goal.loop-weight-preserved
loop-weight-preserved c =
    let ws = c.args.self.now.weights.now in
    let i = c.loop-weight.weight-index in
    let t = unsigned_abs c.args.self.now.cents.0 in
    let own : c.unsigned_abs.result ≡ unsigned_abs (get_or ws i (pos 0)) = search rules in
    let rest : c.remainder.result ≡ remainder t (sizes ws) i = c.remainder.ensures ∙ ap (λ n. t * n % sum (sizes ws)) (own ∙ sym (get_or_sizes ws i)) in
    (omega arith, one_more (remainder t (sizes ws)) _ _ i _ c.push.ensures.items c.loop-weight.invariant.1 rest)
