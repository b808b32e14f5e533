use Rattle.std.proofs.Common.{◌≡◌, ◌≤◌, take, length}
use Rattle.std.specs.Prelude.{reverse}
use Rattle.cmm_meaning.specs.State.{World, Here}
use Rattle.cmm_meaning.specs.Evaluation.{Surroundings}
use Rattle.eval_frames.specs.Filled.{fills_in}
use Rattle.cmm_eval.proofs.machine.Machine.fill_in.Given as goal

-- what is left is to be filled in
abbrev pub invariant-loop-left : goal.invariant-loop-left
invariant-loop-left l =
    record {
      same : l.self ≡ l.initial.self;
      within : l.left ≤ length l.operands;
      rest : (s : Surroundings) (h : Here) (w : World) → fills_in s l.form l.tail l.callee (reverse (take l.left l.operands)) (reverse l.waited.items) (reverse l.values.items) h w
          ≡ fills_in s l.form l.tail l.callee (reverse l.operands) (reverse l.initial.waited.items) (reverse l.initial.values.items) h w;
    }

abbrev pub decreases-loop-left : goal.decreases-loop-left
decreases-loop-left l = l.left
