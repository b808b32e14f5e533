use Rattle.std.proofs.Common.{map}
use Rattle.eval_frames.specs.Filled.{standing}
use Rattle.eval_frames.specs.Views.{here_view, world_view, call_view}
use Rattle.cmm_eval.proofs.Called.{calls_more, frame_taken}
use Rattle.cmm_eval.proofs.machine.Machine.frame_call.Goals as goal

pub returns-clause-meaning : goal.returns-clause-meaning
returns-clause-meaning c s =
    let m = c.args.self.now in
    let h = here_view m.here in
    let call = call_view c.args.call in
    let left = c.in-Some-split_first.left.now in
    frame_taken s m.frames.items c.args.end c.args.written call h (world_view m.world)
    c.in-Some.first.now c.in-Some-split_first.second.now c.in-Some.rest.now left (map call_view c.push.new.self.items)
    (λ w. standing s c.frame_ended.result h w) c.in-Some.ensures.cases.0 c.in-Some-split_first.ensures.cases.0
    (calls_more m.world.made.items c.push.new.self.items c.args.call c.in_ok-push.ensures.items)
    (c.frame_ended.ensures s call left h (world_view m.world))
