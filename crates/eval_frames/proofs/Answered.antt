-- The two answers of a frame call.
use Rattle.std.proofs.Common.{◌≡◌, ◌≢◌, ℕ, zero, suc, Bool, true, false, cond, List, ◌∷◌, refl, arith}
use Rattle.bs_words.specs.Observed.{Made}
use Rattle.bs_words.specs.declared.types.Ret.{Ret}
use Rattle.bs_words.specs.declared.types.Ret.TheVariants as ret
use Rattle.bs_words.specs.Fits.{fits, misfit}
use Rattle.bs_words.specs.declared.types.Ty.TheVariants as ty
use Rattle.bs_words.specs.declared.values.Kind.{Kind}
use Rattle.bs_words.specs.declared.values.Value.{Value}
use Rattle.bs_words.specs.declared.values.Value.TheVariants.{Word}
use Rattle.cmm_meaning.specs.State.{World, Here}
use Rattle.cmm_meaning.specs.Evaluation.{NotProper, Gives, Raises, Stops, tested}
use Rattle.cmm_meaning.specs.Run.{nobody, frame_answered, given_back, with_call_made}
use Rattle.eval_frames.specs.Outside.{returned}

-- a first answer of 0 gives the second
pub frame_gives : (end : ℕ) (written : Ret) (call : Made) (first second : ℕ) (answers : List ℕ) (h : Here) (w : World) → first ≡ 0 →
    Gives (given_back written second) h (with_call_made call answers w)
    ≡ returned written h (frame_answered end written call (first ∷ second ∷ answers) w)
frame_gives end ret.Unit call zero second answers h w e = refl
frame_gives end (ret.Comp c) call zero second answers h w e = refl
frame_gives end written call (suc n) second answers h w e = absurd (omega arith)

raise_returns : (b : Bool) (written : Ret) (v : Value) (kind : Kind) (h : Here) (w : World) →
    cond b (Raises v h w) (Stops (NotProper kind) w)
    ≡ returned written h (cond b (Raises v nobody w) (Stops (NotProper kind) w))
raise_returns true written v kind h w = refl
raise_returns false written v kind h w = refl

-- another one raises it
pub frame_raises : (end : ℕ) (written : Ret) (call : Made) (first second : ℕ) (answers : List ℕ) (h : Here) (w : World) → first ≢ 0 →
    tested end ty.Val (Word second) (with_call_made call answers w) (Raises (Word second) h (with_call_made call answers w))
    ≡ returned written h (frame_answered end written call (first ∷ second ∷ answers) w)
frame_raises end written call zero second answers h w some = absurd (some refl)
frame_raises end written call (suc n) second answers h w some =
    raise_returns (fits end ty.Val (Word second)) written (Word second) (misfit ty.Val) h (with_call_made call answers w)
