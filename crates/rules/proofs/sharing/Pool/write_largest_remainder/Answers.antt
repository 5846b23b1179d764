use Rattle.std.proofs.Common.{◌≡◌, ◌<◌, ◌+◌, ◌*◌, ◌/◌, ◌∙◌, ap, cond, length, get_or, pos, sum, unsigned_abs, nat_lt, sym, rules, arith}
use Rattle.std.proofs.lemmas.List.FromFn.{length-map-range_with_len}
use Rattle.measures.specs.Signs.{signed}
use Rattle.rules.specs.Sharing.{sizes, remainder, whole_part, largest_part, largest_remainder}
use Rattle.rules.specs.Shares.{length_by_place, get_or_by_place, put_share, all_put}
use Rattle.rules.specs.Weights.{get_or_sizes, length_sizes}
use Rattle.rules.proofs.Parts.{part_agrees, weight_fits}
use Rattle.rules.proofs.sharing.Pool.write_largest_remainder.Goals as goal

pub rank_of-requires : goal.rank_of-requires
rank_of-requires c =
    let ns = sizes c.args.self.now.weights.now in
    let many = length-map-range_with_len (remainder (unsigned_abs c.args.self.now.cents.0) ns) 0 (length ns) in
    let rests = ap length (c.deref-in-loop-i.ensures.0 ∙ c.remainders-rests.ensures) in
    omega (arith, length_sizes c.args.self.now.weights.now)

pub whole_cents-requires : goal.whole_cents-requires
whole_cents-requires c =
    let ws = c.args.self.now.weights.now in
    let fits = weight_fits ws c.loop-i.i (omega arith) in
    let own : c.unsigned_abs.result ≡ unsigned_abs (get_or ws c.loop-i.i (pos 0)) = search rules in
    omega (arith, c.args.self.now.sums)

pub loop-i-preserved : goal.loop-i-preserved
loop-i-preserved c =
    let ws = c.args.self.now.weights.now in
    let i = c.loop-i.i in
    let cents = c.args.self.now.cents.0 in
    let t = unsigned_abs cents in
    let own : c.unsigned_abs.result ≡ unsigned_abs (get_or ws i (pos 0)) = search rules in
    let whole : c.whole_cents.result ≡ whole_part t (sizes ws) i = c.whole_cents.ensures.value ∙ ap (λ n. t * n / sum (sizes ws)) (own ∙ sym (get_or_sizes ws i)) in
    let within : i < length (sizes ws) = omega (arith, length_sizes ws) in
    let part = part_agrees t (sizes ws) c.deref-in-loop-i.result.now c.left_over-left.result i within (c.deref-in-loop-i.ensures.0 ∙ c.remainders-rests.ensures) c.left_over-left.ensures in
    let size : c.whole_cents.result + c.extra_cent-extra.result ≡ largest_part t (sizes ws) i = ap (λ n. n + c.extra_cent-extra.result) whole ∙ ap (λ n. whole_part t (sizes ws) i + n) (c.extra_cent-extra.ensures ∙ ap (λ n. cond (nat_lt n c.left_over-left.result) 1 0) c.rank_of.ensures) ∙ part in
    let share = c.share.ensures ∙ ap (signed cents) size ∙ sym (get_or_by_place largest_part cents ws i c.loop-i-test.true) in
    let many = length_by_place largest_part cents ws in
    (omega arith, put_share c.loop-i.to i _ (largest_remainder cents ws) (omega arith) (omega arith) c.loop-i.invariant.1 share)

pub returns : goal.returns
returns c =
    let many = length_by_place largest_part c.args.self.now.cents.0 c.args.self.now.weights.now in
    all_put c.loop-i.to c.loop-i.i _ (omega arith) (omega arith) c.loop-i.invariant.1
