use Rattle.std.proofs.Common.{◌∙◌, ap, sym}
use Rattle.eval_frames.specs.Filled.{resume, fills_frame, standing}
use Rattle.eval_frames.specs.Around.{around_view}
use Rattle.eval_frames.specs.Views.{here_view, world_view, stop_view}
use Rattle.eval_frames.specs.declared.frame.Now.{Now}
use Rattle.cmm_eval.proofs.Resumed.{does_stops}
use Rattle.cmm_eval.proofs.machine.Machine.end.Goals as goal

pub returns-in-Stops-clause-meaning : goal.returns-in-Stops-clause-meaning
returns-in-Stops-clause-meaning c =
    let s = around_view c.args.around.now in
    let m = c.args.self.now in
    let f = c.args.frame in
    let h = here_view m.here in
    let w = world_view m.world in
    ap (resume s m.frames.items) (sym (ap (λ (n : Now). fills_frame s f (standing s n h w)) c.in-Stops.is ∙ does_stops s f.step f.form.now f.tail (stop_view c.in-Stops.why) w))
