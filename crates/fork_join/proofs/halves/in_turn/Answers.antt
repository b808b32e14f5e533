use Rattle.std.proofs.Common.{Ok, rules}
use Rattle.fork_join.proofs.Joining.{one_more}
use Rattle.fork_join.proofs.halves.in_turn.Goals as goal

pub loop-number-preserved : goal.loop-number-preserved
loop-number-preserved g c =
    one_more (λ i x. goal.F-post g c.args.f.now i (Ok x)) c.args.from c.loop-number.number c.loop-number.all.items _ c.in_ok-f.field-0
    c.loop-number.auto.number c.in_ok-push.ensures.items (search rules) c.loop-number.invariant
