use Rattle.std.proofs.Common.{refl}
use Rattle.split.proofs.Grouping.{has_member}
use Rattle.split.proofs.writes.add_member.Goals as goal

pub returns : goal.returns
returns c =
    has_member c.args.groups.now.items _ c.args.number c.args.member c.index_mut-group.result.now (record { members = c.push.new.self })
    c.requires c.index_mut-group.ensures.value c.in_ok-push.ensures.items refl
