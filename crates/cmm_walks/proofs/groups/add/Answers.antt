use Rattle.cmm_walks.proofs.Grouped.{added}
use Rattle.std.proofs.Common.{refl}
use Rattle.cmm_walks.proofs.groups.add.Goals as goal

pub returns : goal.returns
returns c = added c.args.groups.now.items _ c.args.k c.args.member c.index_mut-group.result.now (record { members = c.push.new.self }) c.requires c.index_mut-group.ensures.value c.in_ok-push.ensures.items refl
