-- The evaluation that a machine stands for.
--
-- A frame is a function on evaluations, and the loop keeps one equation: what is now, resumed by the
-- frames, is the whole meaning.
use Rattle.cmm_meaning.specs.State.{World, Here}
use Rattle.cmm_meaning.specs.Evaluation.{Evaluation}
use Rattle.cmm_meaning.specs.Evaluation as evaluation
use Rattle.eval_frames.specs.Around.{around_view}
use Rattle.eval_frames.specs.Filled.{resume, standing}
use Rattle.eval_frames.specs.Views.{here_view, world_view}
use Rattle.eval_frames.specs.declared.around.Surroundings.{Surroundings}
use Rattle.eval_frames.specs.declared.frame.Now.{Now}
use Rattle.cmm_eval.specs.declared.machine.Machine.{Machine}

-- the evaluation that is in the machine, with all that is still to be done
abbrev pub stands_in : evaluation.Surroundings → Machine → Now → Evaluation
stands_in s m now = resume s m.frames.items (standing s now (here_view m.here) (world_view m.world))

-- the machine's frames round this evaluation from where it is
abbrev pub goes_on_in : evaluation.Surroundings → Machine → (Here → World → Evaluation) → Evaluation
goes_on_in s m e = resume s m.frames.items (e (here_view m.here) (world_view m.world))

abbrev pub stands : Surroundings → Machine → Now → Evaluation
stands a m now = stands_in (around_view a) m now

abbrev pub goes_on : Surroundings → Machine → (Here → World → Evaluation) → Evaluation
goes_on a m e = goes_on_in (around_view a) m e
