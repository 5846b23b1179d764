use Rattle.std.proofs.Common.{◌≡◌, ◌+◌, ◌-◌, ◌*◌, ◌/◌, ◌∙◌, ap, get_or, pos, take, sum, sym, unsigned_abs, rules, arith}
use Rattle.measures.specs.Signs.{signed}
use Rattle.rules.specs.Sharing.{sizes, reached, running_part, running}
use Rattle.rules.specs.Shares.{length_by_place, get_or_by_place, put_share, all_put}
use Rattle.rules.specs.Weights.{sizes_more}
use Rattle.rules.proofs.Parts.{so_far_fits}
use Rattle.rules.proofs.sharing.Pool.write_running.Goals as goal

pub overflow_add-so_far : goal.overflow_add-so_far
overflow_add-so_far c =
    let ws = c.args.self.now.weights.now in
    let own : c.unsigned_abs-so_far.result ≡ unsigned_abs (get_or ws c.loop-i.i (pos 0)) = search rules in
    let fits = so_far_fits ws c.loop-i.i (omega arith) in
    omega (arith, c.args.self.now.sums)

pub whole_cents-reached-requires : goal.whole_cents-reached-requires
whole_cents-reached-requires c =
    let ws = c.args.self.now.weights.now in
    let own : c.unsigned_abs-so_far.result ≡ unsigned_abs (get_or ws c.loop-i.i (pos 0)) = search rules in
    let fits = so_far_fits ws c.loop-i.i (omega arith) in
    omega (arith, c.args.self.now.sums)

pub loop-i-preserved : goal.loop-i-preserved
loop-i-preserved c =
    let ws = c.args.self.now.weights.now in
    let ns = sizes ws in
    let i = c.loop-i.i in
    let cents = c.args.self.now.cents.0 in
    let t = unsigned_abs cents in
    let own : c.unsigned_abs-so_far.result ≡ unsigned_abs (get_or ws i (pos 0)) = search rules in
    let more = sizes_more ws i c.loop-i-test.true in
    let sums : c.loop-i.so_far + c.unsigned_abs-so_far.result ≡ sum (take (i + 1) ns) = omega arith in
    let reaches : c.whole_cents-reached.result ≡ reached t ns (i + 1) = c.whole_cents-reached.ensures.value ∙ ap (λ n. t * n / sum ns) sums in
    let size : c.whole_cents-reached.result - c.loop-i.given ≡ running_part t ns i = omega arith in
    let share = c.share.ensures ∙ ap (signed cents) size ∙ sym (get_or_by_place running_part cents ws i c.loop-i-test.true) in
    let many = length_by_place running_part cents ws in
    (omega arith, omega (arith, sums), omega (arith, reaches), put_share c.loop-i.to i _ (running cents ws) (omega arith) (omega arith) c.loop-i.invariant.3 share)

pub returns : goal.returns
returns c =
    let many = length_by_place running_part c.args.self.now.cents.0 c.args.self.now.weights.now in
    all_put c.loop-i.to c.loop-i.i _ (omega arith) (omega arith) c.loop-i.invariant.3
