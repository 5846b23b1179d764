use Rattle.std.proofs.Common.{◌≡◌, ◌+◌, drop, ◌+ℤ◌}
use Rattle.prices.specs.Means.{all_priced, congestion_of, loss_of, weighted_sum}
use Rattle.prices.specs.Members.{total_weight}
use Rattle.prices.proofs.layer.sums_over.Given as goal

-- the sums so far and those over the members left make up the whole
abbrev pub invariant-loop-member : goal.invariant-loop-member
invariant-loop-member g l =
    let q = g.S.PriceSource.quote l.below in
    let xs = l.member-items in
    let left = drop l.member-index xs in record {
      weight : l.sums.weight + total_weight left ≡ total_weight xs;
      congestion : l.sums.congestion +ℤ weighted_sum congestion_of q l.market left ≡ weighted_sum congestion_of q l.market xs;
      loss : l.sums.loss +ℤ weighted_sum loss_of q l.market left ≡ weighted_sum loss_of q l.market xs;
      priced : all_priced q l.market left ≡ all_priced q l.market xs;
    }
