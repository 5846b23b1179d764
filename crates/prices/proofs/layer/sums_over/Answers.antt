use Rattle.std.proofs.Common.{[], pos, ap, arith}
use Rattle.prices.specs.Means.{congestion_of, loss_of}
use Rattle.prices.specs.Members.{total_weight}
use Rattle.prices.specs.declared.member.Member.{Member}
use Rattle.prices.proofs.Turns.{priced_again, sum_again, total_few, total_more}
use Rattle.prices.proofs.layer.sums_over.Goals as goal

-- what is read past the end
abbrev blank : Member
blank = record { code = record { bytes = [] }; weight = pos 0 }

pub with-sums-requires-clause-few : goal.with-sums-requires-clause-few
with-sums-requires-clause-few g c =
    let more = total_more c.as_slice-member-items.result.now c.loop-member.member-index blank c.loop-member-test.true in
    let same = ap total_weight c.as_slice-member-items.ensures in
    let most = total_few c.args.members.now.list.items c.args.members.now.weighed in
    let few = c.args.members.now.few in
    let so_far = c.loop-member.invariant.weight in
    omega arith

pub loop-member-preserved : goal.loop-member-preserved
loop-member-preserved g c =
    let q = g.S.PriceSource.quote c.args.below.now in
    let xs = c.as_slice-member-items.result.now in
    let i = c.loop-member.member-index in
    let here = c.loop-member-test.true in
    record {
      weight = omega (arith, total_more xs i blank here, c.with-sums.ensures.weight, c.loop-member.invariant.weight);
      congestion = sum_again congestion_of q c.args.market xs i blank c.in_ok-price.price _ _ here c.in_ok-price.ensures c.with-sums.ensures.congestion c.loop-member.invariant.congestion;
      loss = sum_again loss_of q c.args.market xs i blank c.in_ok-price.price _ _ here c.in_ok-price.ensures c.with-sums.ensures.loss c.loop-member.invariant.loss;
      priced = priced_again q c.args.market xs i blank c.in_ok-price.price here c.in_ok-price.ensures c.loop-member.invariant.priced;
    }
