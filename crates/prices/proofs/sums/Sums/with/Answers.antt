use Rattle.std.proofs.Common.{◌≡◌, ◌+ℤ◌, ◌*ℤ◌, nat_abs, ap, ◌∙◌, arith, rules}
use Rattle.prices.specs.Prices.{congestion_bound, loss_bound}
use Rattle.prices.specs.Summed.{weight_bounds}
use Rattle.prices.proofs.Products.{small_through, sum_within}
use Rattle.prices.proofs.sums.Sums.with.Goals as goal

pub invariant_of-result : goal.invariant_of-result
invariant_of-result c =
    let s = c.args.self.now in
    let p = c.args.price.now.components in
    let w = c.args.member.now.weight in
    let in_range = weight_bounds c.args.member.now c.requires.in_range in
    let weight : c.unsigned_abs.result ≡ nat_abs w = c.unsigned_abs.ensures.value ∙ ap nat_abs (small_through w (omega arith)) in
    let room = c.requires.few in
    let congestion : c.with_component.result ≡ s.congestion +ℤ (p.congestion *ℤ w) = search rules in
    let loss : c.with_component-2.result ≡ s.loss +ℤ (p.loss *ℤ w) = search rules in
    let congestion_within = sum_within s.congestion p.congestion w s.weight s.congestion_bound (congestion_bound c.args.price.now) in
    let loss_within = sum_within s.loss p.loss w s.weight s.loss_bound (loss_bound c.args.price.now) in
    record { few = omega arith; congestion_bound = search rules; loss_bound = search rules }
