use Rattle.lin_unused.proofs.Flagged.{flags_more}
use Rattle.lin_unused.proofs.use_of_lines.by_walks.Goals as goal

pub loop-place-preserved : goal.loop-place-preserved
loop-place-preserved c =
    flags_more c.args.lin.now c.loop-place.flags.items c.push.new.self.items c.loop-place.place c.is_passed_over.result c.loop-place.invariant
    c.is_passed_over.ensures c.in_ok-push.ensures.items
