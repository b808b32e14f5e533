use Rattle.lin_unused.proofs.Flagged.{flags_more}
use Rattle.lin_unused.proofs.Useful.{use_all_reached}
use Rattle.lin_unused.proofs.use_of_lines.by_labels.Goals as goal

pub loop-place-preserved : goal.loop-place-preserved
loop-place-preserved c =
    flags_more c.args.lin.now c.loop-place.flags.items c.push.new.self.items c.loop-place.place c.is_skipped.result c.loop-place.invariant
    (use_all_reached c.args.lin.now c.loop-place.place c.is_skipped.result c.requires.reached c.requires.read c.is_skipped.ensures)
    c.in_ok-push.ensures.items
