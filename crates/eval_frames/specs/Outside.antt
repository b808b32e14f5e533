-- An external call, as its caller sees it.
use Rattle.std.specs.Prelude.{◌≡◌, ℕ, List, ◌∷◌, map}
use Rattle.bs_words.specs.Observed.{Made}
use Rattle.bs_words.specs.declared.types.Ret.{Ret}
use Rattle.bs_words.specs.declared.values.Value.{Value}
use Rattle.cmm_meaning.specs.Layout.{Layout, observed}
use Rattle.cmm_meaning.specs.State.{World, Here}
use Rattle.cmm_meaning.specs.Evaluation.{Surroundings, Evaluation, and_then, back_from_call, as_written}
use Rattle.cmm_meaning.specs.Run.{frame_answered, with_call_made}
use Rattle.eval_frames.specs.Filled.{standing}
use Rattle.eval_frames.specs.declared.frame.Now.{Now}

-- the call, as it is observed
abbrev pub call_seen : Layout → List ℕ → List Value → Made
call_seen layout name arguments = record { name = name; shown = map (observed layout) arguments }

-- back in the caller, where the call is written with this result
abbrev pub returned : Ret → Here → Evaluation → Evaluation
returned written h e = and_then (back_from_call h e) (λ v h w. as_written written v h w)

-- how a frame call with these two answers has ended
abbrev pub EndsFrameCall : ℕ → Ret → ℕ → ℕ → Now → Type 0
EndsFrameCall end written first second now =
    (s : Surroundings) (call : Made) (answers : List ℕ) (h : Here) (w : World) →
    standing s now h (with_call_made call answers w)
    ≡ returned written h (frame_answered end written call (first ∷ second ∷ answers) w)
