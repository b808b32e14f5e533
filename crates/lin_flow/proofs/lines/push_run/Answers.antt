use Rattle.lin_flow.proofs.Lists.{run_begun, run_pushed}
use Rattle.lin_flow.proofs.lines.push_run.Goals as goal

pub loop-k-init : goal.loop-k-init
loop-k-init c = run_begun c.args.numbers.now.items c.args.first

pub loop-k-preserved : goal.loop-k-preserved
loop-k-preserved c =
    run_pushed c.args.numbers.now.items c.loop-k.numbers.items c.push.new.self.items c.args.first c.loop-k.k c.loop-k.invariant
    c.in_ok-push.ensures.items
