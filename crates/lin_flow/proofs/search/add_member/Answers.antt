use Rattle.std.proofs.Common.{refl}
use Rattle.lin_flow.proofs.Searching.{has_member}
use Rattle.lin_flow.proofs.search.add_member.Goals as goal

pub returns : goal.returns
returns c =
    has_member c.args.groups.now.items _ c.args.place c.args.member c.index_mut-group.result.now (record { members = c.push.new.self })
    c.requires c.index_mut-group.ensures.value c.in_ok-push.ensures.items refl
