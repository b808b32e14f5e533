use Rattle.std.proofs.Common.{map}
use Rattle.eval_frames.specs.Views.{here_view, world_view, call_view}
use Rattle.cmm_eval.proofs.Called.{none_left, calls_more, answered_none, answered_word, answered_asks}
use Rattle.cmm_eval.proofs.machine.Machine.plain_call.Goals as goal

pub returns-in_ok-push-in-Unit-clause-meaning : goal.returns-in_ok-push-in-Unit-clause-meaning
returns-in_ok-push-in-Unit-clause-meaning c s end =
    let m = c.args.self.now in
    answered_none s m.frames.items end c.args.written (call_view c.args.call) (here_view m.here) (world_view m.world)
    (map call_view c.push.new.self.items) c.in-Unit.is
    (calls_more m.world.made.items c.push.new.self.items c.args.call c.in_ok-push-in-Unit.ensures.items)

pub returns-in-None-clause-meaning : goal.returns-in-None-clause-meaning
returns-in-None-clause-meaning c s end =
    let m = c.args.self.now in
    answered_asks s m.frames.items end c.args.written c.in-Comp.field-0 (call_view c.args.call) (here_view m.here) (world_view m.world)
    c.in-Comp.is (none_left m.world.answers.now c.in-None.ensures.cases)

pub returns-in_ok-push-in-Some-clause-meaning : goal.returns-in_ok-push-in-Some-clause-meaning
returns-in_ok-push-in-Some-clause-meaning c s end =
    let m = c.args.self.now in
    answered_word s m.frames.items end c.args.written c.in-Comp.field-0 (call_view c.args.call) (here_view m.here) (world_view m.world)
    (map call_view c.push-in-Some.new.self.items) c.in-Some.answer.now c.in-Some.left.now c.in-Comp.is c.in-Some.ensures.cases.0
    (calls_more m.world.made.items c.push-in-Some.new.self.items c.args.call c.in_ok-push-in-Some.ensures.items)
