use Rattle.split.proofs.Joining.{indexes_all, reads_begun, reads_more, reads_done}
use Rattle.split.proofs.joins.join_reads.Goals as goal

pub loop-reg-init : goal.loop-reg-init
loop-reg-init c =
    reads_begun c.args.writes.now c.args.rows.now.rows.items c.args.place c.args.labels.now.items c.args.args.now

pub join_at-requires : goal.join_at-requires
join_at-requires c =
    indexes_all c.args.writes.now _ c.members.result.now c.args.labels.now.items c.loop-reg.labels.items c.members.ensures c.requires
    c.loop-reg.invariant.len

pub loop-reg-preserved : goal.loop-reg-preserved
loop-reg-preserved c =
    reads_more c.args.writes.now c.args.rows.now.rows.items c.args.place c.args.labels.now.items c.loop-reg.labels.items
    c.join_at.new.labels.items c.args.args.now c.loop-reg.reg-index _ c.members.result.now c.loop-reg-test.true c.members.ensures c.requires
    c.join_at.ensures c.loop-reg.invariant

pub returns : goal.returns
returns c =
    reads_done c.args.writes.now c.args.rows.now.rows.items c.args.place c.args.labels.now.items c.loop-reg.labels.items c.args.args.now
    c.loop-reg.reg-index c.loop-reg-test.false c.loop-reg.invariant
