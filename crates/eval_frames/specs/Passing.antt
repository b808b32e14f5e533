-- Tail calls: the frames between a function's last call and its caller do nothing but test.
--
-- A tail call tests nothing of what its callee gives or raises: who waits for it does, as after any other
-- end of the function. So fewer runs are stuck, and the passes keep more.
use Rattle.std.specs.Prelude.{◌≡◌, Bool, List}
use Rattle.bs_words.specs.declared.types.Ret.{Ret}
use Rattle.cmm_tree.specs.declared.expr.Form.{Form}
use Rattle.cmm_meaning.specs.State.{Here}
use Rattle.cmm_meaning.specs.Evaluation.{Evaluation, Gives, Exits, Raises, Stops, Surroundings, and_then, back_from_call}
use Rattle.eval_frames.specs.Filled.{does, resume}
use Rattle.eval_frames.specs.Meets.{meets}
use Rattle.eval_frames.specs.Outside.{returned}
use Rattle.eval_frames.specs.declared.frame.Frame.{Frame}
use Rattle.eval_frames.specs.declared.frame.Step.{Step}
use Rattle.eval_frames.specs.declared.tests.Tests.{Tests}

-- what a callee does, back in this activation, and what is left of its value by these tests
abbrev pub returns : Surroundings → Tests → Here → Evaluation → Evaluation
returns s tests h e = and_then (back_from_call h e) (λ v h w. meets s.end tests v h w)

-- no exit leaves a function
abbrev pub NeverExits : Evaluation → Type 0
NeverExits (Gives v h w) = Unit {0}
NeverExits (Exits label values h w) = ⊥
NeverExits (Raises v h w) = Unit {0}
NeverExits (Stops why w) = Unit {0}

-- To what is no exit the step does nothing but these tests, as its caller sees it.
pub record Passes (step : Step) (t : Tests) : Type 0 where
  pub stays : (s : Surroundings) (f : Form) (tail : Bool) (e : Evaluation)
      → NeverExits e
      → NeverExits (does s step f tail e)
  pub tests : (s : Surroundings) (f : Form) (tail : Bool) (h : Here) (e : Evaluation)
      → NeverExits e
      → back_from_call h (does s step f tail e) ≡ returns s t h e

-- these frames do to a callee what others do to one that has returned, and met these tests
abbrev pub TakesPlace : List Frame → Tests → List Frame → Type 0
TakesPlace frames tests new =
    (s : Surroundings) (h : Here) (e : Evaluation) → resume s new e ≡ resume s frames (returns s tests h e)

-- these frames do to a callee what others do to one that is back in this activation, where its call is so written
abbrev pub ComesBack : List Frame → Ret → Here → List Frame → Type 0
ComesBack frames written h new =
    (s : Surroundings) (e : Evaluation) → resume s new e ≡ resume s frames (returned written h e)
