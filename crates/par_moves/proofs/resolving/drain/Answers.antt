use Rattle.std.proofs.Common.{sym, ◌∙◌}
use Rattle.par_moves.specs.Resolved.{drained_at}
use Rattle.par_moves.proofs.Turns.{walked_once, drained_all}
use Rattle.par_moves.proofs.resolving.drain.Goals as goal

pub loop-root-preserved : goal.loop-root-preserved
loop-root-preserved c = λ moves h.
    walked_once c.args.source c.loop-root.pending.readers c.take.new.self.readers c.walk.new.pending.readers c.loop-root.made.items c.walk.new.made.items c.args.made.now.items (drained_at c.args.source moves) c.in-Some.root
    (λ ms before. let t = c.in_ok-root.ensures.taken ms before in (sym c.in-Some.is ∙ t.0, t.1))
    (λ ms before. record { moves = c.in_ok-walk.ensures.moves ms before; left = c.in_ok-walk.ensures.left ms before })
    (c.loop-root.invariant moves h)

pub returns-clause-moves : goal.returns-clause-moves
returns-clause-moves c = λ moves h.
    let f = drained_all c.args.source c.loop-root.pending.readers c.take.new.self.readers c.loop-root.made.items c.args.made.now.items (drained_at c.args.source moves) (λ ms before. let t = c.in_ok-root.ensures.taken ms before in (sym c.in_default.is ∙ t.0, t.1)) (c.loop-root.invariant moves h) in
    f.moves

pub returns-clause-left : goal.returns-clause-left
returns-clause-left c = λ moves h.
    let f = drained_all c.args.source c.loop-root.pending.readers c.take.new.self.readers c.loop-root.made.items c.args.made.now.items (drained_at c.args.source moves) (λ ms before. let t = c.in_ok-root.ensures.taken ms before in (sym c.in_default.is ∙ t.0, t.1)) (c.loop-root.invariant moves h) in
    f.left
