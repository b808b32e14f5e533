-- A call by what the machine keeps of its file.
use Rattle.std.proofs.Common.{◌≡◌, ◌∙◌, ℕ, Bool, true, false, cond, List, Option, Some, None, map, ap, sym}
use Rattle.std.specs.Prelude.{slice_get, slice_index, option_copied}
use Rattle.bs_words.specs.Contents.{contents}
use Rattle.bs_words.specs.declared.types.Ret.{Ret}
use Rattle.bs_words.specs.declared.values.Kind.TheVariants.{BadCall}
use Rattle.bs_words.specs.declared.values.Value.{Value}
use Rattle.bs_words.specs.declared.values.Value.TheVariants as value
use Rattle.cmm_tree.specs.Tree.{Parameter}
use Rattle.cmm_tree.specs.View.{params_view}
use Rattle.cmm_tree.specs.declared.file.Function.{Function}
use Rattle.cmm_meaning.specs.State.{World, Here}
use Rattle.cmm_meaning.specs.Evaluation.{NotProper, Evaluation, Stops, and_then, fit_parameters, back_from_call, as_written, stack_below, applied}
use Rattle.eval_frames.specs.Views.{layout_view}
use Rattle.eval_frames.specs.Around.{IsAround, around_view, activated_held}
use Rattle.eval_frames.specs.declared.around.Surroundings.{Surroundings}
use Rattle.eval_frames.proofs.HeldCalls.{called_held, applied_held}

-- the bytes of a function's frame
abbrev frame_of : Surroundings → ℕ → ℕ
frame_of a k = slice_index (layout_view a.layout.now).frames k

-- whether arguments fit the parameters of a function
abbrev fit : ℕ → Function → List Value → Bool
fit end f arguments = fit_parameters end (map (λ (p : Parameter). p.comp) (params_view (contents f.params))) arguments

-- a call of this function
abbrev call_of : Surroundings → ℕ → Function → List Value → Ret → Bool → Here → World → Evaluation
call_of a k f arguments result tail h w =
    and_then (back_from_call h (activated_held (around_view a) (frame_of a k) (Some f) arguments (stack_below tail h) w))
    (λ v h w. as_written result v h w)

applied_around : (a : Surroundings) → IsAround a → (k : ℕ) (o : Option Function) → option_copied (slice_get a.functions.items k) ≡ o →
    (arguments : List Value) (result : Ret) (tail : Bool) (h : Here) (w : World) →
    applied (around_view a) (value.Function k) arguments result tail h w ≡ called_held (around_view a) (frame_of a k) o arguments result tail h w
applied_around a around k o e arguments result tail h w =
    applied_held a.file.now (layout_view a.layout.now) around.typed k arguments result tail h w
    ∙ ap (λ (o : Option Function). called_held (around_view a) (frame_of a k) o arguments result tail h w) (sym (around.functions k) ∙ e)

-- there is no function of this number
pub call_missing : (a : Surroundings) → IsAround a → (k : ℕ) → option_copied (slice_get a.functions.items k) ≡ None →
    (arguments : List Value) (result : Ret) (tail : Bool) (h : Here) (w : World) →
    applied (around_view a) (value.Function k) arguments result tail h w ≡ Stops (NotProper BadCall) w
call_missing a around k e arguments result tail h w = applied_around a around k None e arguments result tail h w

call_tested : (a : Surroundings) → IsAround a → (k : ℕ) (f : Function) → option_copied (slice_get a.functions.items k) ≡ Some f →
    (arguments : List Value) (b : Bool) → fit a.end f arguments ≡ b → (result : Ret) (tail : Bool) (h : Here) (w : World) →
    applied (around_view a) (value.Function k) arguments result tail h w
    ≡ cond b (call_of a k f arguments result tail h w) (Stops (NotProper BadCall) w)
call_tested a around k f e arguments b fits result tail h w =
    applied_around a around k (Some f) e arguments result tail h w
    ∙ ap (λ (b : Bool). cond b (call_of a k f arguments result tail h w) (Stops (NotProper BadCall) w))
    (ap (λ (end : ℕ). fit end f arguments) (sym around.end) ∙ fits)

-- the arguments do not fit it
pub call_misfit : (a : Surroundings) → IsAround a → (k : ℕ) (f : Function) → option_copied (slice_get a.functions.items k) ≡ Some f →
    (arguments : List Value) → fit a.end f arguments ≡ false → (result : Ret) (tail : Bool) (h : Here) (w : World) →
    applied (around_view a) (value.Function k) arguments result tail h w ≡ Stops (NotProper BadCall) w
call_misfit a around k f e arguments fits result tail h w = call_tested a around k f e arguments false fits result tail h w

-- they fit it
pub call_fit : (a : Surroundings) → IsAround a → (k : ℕ) (f : Function) → option_copied (slice_get a.functions.items k) ≡ Some f →
    (arguments : List Value) → fit a.end f arguments ≡ true → (result : Ret) (tail : Bool) (h : Here) (w : World) →
    applied (around_view a) (value.Function k) arguments result tail h w
    ≡ and_then
    (back_from_call h
    (activated_held (around_view a) (slice_index (layout_view a.layout.now).frames k) (Some f) arguments (stack_below tail h) w))
    (λ v h w. as_written result v h w)
call_fit a around k f e arguments fits result tail h w = call_tested a around k f e arguments true fits result tail h w
