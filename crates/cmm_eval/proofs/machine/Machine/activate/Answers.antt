use Rattle.std.proofs.Common.{◌≡◌, ℕ, ◌+◌, ◌∙◌, ap}
use Rattle.cmm_meaning.specs.State.{deepened}
use Rattle.eval_frames.specs.Views.{here_view, world_view}
use Rattle.eval_frames.specs.declared.here.Here as here
use Rattle.eval_frames.specs.declared.world.World as world
use Rattle.cmm_eval.proofs.Called.{activated_is}
use Rattle.cmm_eval.proofs.machine.Machine.activate.Goals as goal

pub returns-clause-meaning : goal.returns-clause-meaning
returns-clause-meaning c s =
    let m = c.args.self.now in
    let p = c.in_ok-come_back.ensures in
    let f = c.args.callee in
    let below : ℕ = c.in_ok-below.below in
    let a = c.checked_add.ensures in
    let b = c.in_ok-taken.ensures in
    let taken : c.in_ok-taken.taken ≡ below + f.frame = (rw b.ok_part at a).1 in
    let kept = ap (λ (h : here.Here). here_view h) c.replace-here.ensures.value in
    activated_is s m.frames.items c.come_back.new.self.frames.items c.args.tail c.args.written f.function.now f.frame
    c.args.arguments.now below (here_view m.here) (here_view c.come_back.new.self.here) (world_view m.world) (world_view c.come_back.new.self.world)
    (rw kept at p.frames) c.in_ok-below.ensures
    (ap (λ (h : here.Here). here_view h) (p.here ∙ c.replace-here.ensures.after) ∙ c.in_ok-inner.ensures)
    (ap (λ (w : world.World). world_view w) p.world ∙ c.deepen.ensures ∙ ap (λ (n : ℕ). deepened n (world_view m.world)) taken)
