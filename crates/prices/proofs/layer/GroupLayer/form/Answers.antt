use Rattle.std.proofs.Common.{refl, rules}
use Rattle.prices.specs.Layers.{FormedLast, groups_of}
use Rattle.prices.proofs.Formed.{accepted_group, group_adds}
use Rattle.prices.proofs.layer.GroupLayer.form.Goals as goal

pub push-requires : goal.push-requires
push-requires g c = let room = (accepted_group (g.S.PriceSource.quote c.args.self.now.below) (groups_of c.args.self.now.groups) c.args.code c.args.members.now c.in_ok-members.ensures.0).room in search rules

pub returns : goal.returns
returns g c =
    let q = g.S.PriceSource.quote c.args.self.now.below in
    let last : FormedLast (groups_of c.args.self.now.groups) (groups_of c.push.new.self) c.args.code c.args.members.now =
    record { group = record { code = c.args.code; members = c.in_ok-members.members }; its_code = refl; its_members = c.in_ok-members.ensures.1; comes_last = c.push.ensures } in
    (c.in_ok-members.ensures.0, last, refl, group_adds q (g.met.S.PriceSource.both c.args.self.now.below) _ _ _ _ c.in_ok-members.ensures.0 last)
