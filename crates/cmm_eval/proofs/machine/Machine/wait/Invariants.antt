use Rattle.std.proofs.Common.{◌≡◌, ◌≤◌, take, length}
use Rattle.std.specs.Prelude.{reverse}
use Rattle.cmm_meaning.specs.State.{World}
use Rattle.cmm_meaning.specs.Evaluation.{Surroundings}
use Rattle.eval_frames.specs.Filled.{waits_for}
use Rattle.eval_frames.specs.Views.{here_view}
use Rattle.cmm_eval.proofs.machine.Machine.wait.Given as goal

-- what is left still waits
abbrev pub invariant-loop-left : goal.invariant-loop-left
invariant-loop-left l =
    record {
      same : l.self ≡ l.initial.self;
      within : l.left ≤ length l.operands;
      rest : (s : Surroundings) (w : World) → waits_for s l.form l.tail (reverse (take l.left l.operands)) (reverse l.values.items) (here_view l.initial.self.here) w
          ≡ waits_for s l.form l.tail (reverse l.operands) (reverse l.initial.values.items) (here_view l.initial.self.here) w;
    }

abbrev pub decreases-loop-left : goal.decreases-loop-left
decreases-loop-left l = l.left
