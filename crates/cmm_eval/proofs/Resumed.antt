-- Frames that are added, and frames that a run leaves behind.
use Rattle.std.proofs.Common.{◌≡◌, ◌∙◌, zero, suc, List, [], ◌∷◌, ◌++◌, Bool, true, false, refl, ap}
use Rattle.cmm_meaning.specs.State.{World, Here}
use Rattle.cmm_meaning.specs.Evaluation.{Stop, Evaluation, Stops, Surroundings}
use Rattle.cmm_tree.specs.declared.expr.Form.{Form}
use Rattle.eval_frames.specs.Filled.{does, fills_frame, resume}
use Rattle.cmm_eval.specs.Stands.{goes_on_in}
use Rattle.eval_frames.specs.Views.{here_view, world_view}
use Rattle.eval_frames.specs.declared.frame.Frame.{Frame}
use Rattle.eval_frames.specs.declared.frame.Step.{Step}
use Rattle.eval_frames.specs.declared.frame.Step.TheVariants as step
use Rattle.cmm_eval.specs.declared.machine.Machine.{Machine}

pub resume_push : (s : Surroundings) (frames : List Frame) (f : Frame) (e : Evaluation) →
    resume s (frames ++ f ∷ []) e ≡ resume s frames (fills_frame s f e)
resume_push s [] f e = refl
resume_push s (g ∷ frames) f e = ap (fills_frame s g) (resume_push s frames f e)

pub does_stops : (s : Surroundings) (st : Step) (f : Form) (tail : Bool) (why : Stop) (w : World) → does s st f tail (Stops why w) ≡ Stops why w
does_stops s (step.Typed type) f tail why w = refl
does_stops s (step.Scope level tries) f tail why w = refl
does_stops s step.Operand f tail why w = refl
does_stops s (step.First true) f tail why w = refl
does_stops s (step.First false) f tail why w = refl
does_stops s (step.Second first true) f tail why w = refl
does_stops s (step.Second first false) f tail why w = refl
does_stops s (step.Elements rest) f tail why w = refl
does_stops s (step.Bindings bindings) f tail why w = refl
does_stops s (step.Bound level tries) f tail why w = refl
does_stops s (step.Waiting rest values) f tail why w = refl
does_stops s (step.Callee waited) f tail why w = refl
does_stops s (step.Filling callee row) f tail why w = refl
does_stops s (step.LateCallee values) f tail why w = refl
does_stops s (step.Catch within zero level tries) f tail why w = refl
does_stops s (step.Catch within (suc turns) level tries) f tail why w = refl
does_stops s (step.Try level tries) f tail why w = refl
does_stops s (step.Return here tests) f tail why w = refl

pub resume_stops : (s : Surroundings) (frames : List Frame) (why : Stop) (w : World) → resume s frames (Stops why w) ≡ Stops why w
resume_stops s [] why w = refl
resume_stops s (f ∷ frames) why w =
    ap (fills_frame s f) (resume_stops s frames why w) ∙ does_stops s f.step f.form.now f.tail why w

-- a frame is added, and does what is left to do with what begins
pub stands_pushed_at : (s : Surroundings) (old new : Machine) (f : Frame) (begun e : Here → World → Evaluation) →
    new.here ≡ old.here → new.world ≡ old.world → new.frames.items ≡ old.frames.items ++ f ∷ [] →
    fills_frame s f (begun (here_view old.here) (world_view old.world)) ≡ e (here_view old.here) (world_view old.world) →
    goes_on_in s new begun ≡ goes_on_in s old e
stands_pushed_at s old new f begun e here world frames does =
    ap (λ l. resume s l (begun (here_view new.here) (world_view new.world))) frames
    ∙ resume_push s old.frames.items f (begun (here_view new.here) (world_view new.world))
    ∙ ap (λ h. resume s old.frames.items (fills_frame s f (begun (here_view h) (world_view new.world)))) here
    ∙ ap (λ w. resume s old.frames.items (fills_frame s f (begun (here_view old.here) (world_view w)))) world
    ∙ ap (resume s old.frames.items) does

pub stands_pushed : (s : Surroundings) (old new : Machine) (f : Frame) (begun e : Here → World → Evaluation) →
    new.here ≡ old.here → new.world ≡ old.world → new.frames.items ≡ old.frames.items ++ f ∷ [] →
    ((h : Here) (w : World) → fills_frame s f (begun h w) ≡ e h w) → goes_on_in s new begun ≡ goes_on_in s old e
stands_pushed s old new f begun e here world frames does =
    stands_pushed_at s old new f begun e here world frames (does (here_view old.here) (world_view old.world))
