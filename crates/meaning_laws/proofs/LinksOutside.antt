-- What external calls do in a run.
use Rattle.std.proofs.Common.{◌≡◌, ℕ, zero, suc, Bool, true, false, cond, List, [], ◌∷◌, map, refl}
use Rattle.bs_words.specs.External.{External}
use Rattle.bs_words.specs.Fits.{fits, misfit}
use Rattle.bs_words.specs.Observed.{Made}
use Rattle.bs_words.specs.declared.types.Ret.{Ret}
use Rattle.bs_words.specs.declared.types.Ret.TheVariants as ret
use Rattle.bs_words.specs.declared.types.Ty.TheVariants as ty
use Rattle.bs_words.specs.declared.values.Value.{Value}
use Rattle.bs_words.specs.declared.values.Value.TheVariants.{Word}
use Rattle.cmm_meaning.specs.Layout.{Layout, observed}
use Rattle.cmm_meaning.specs.State.{World}
use Rattle.cmm_meaning.specs.Evaluation.{NotProper, NoAnswer, Raises, Stops}
use Rattle.cmm_meaning.specs.Run.{nobody, with_call_made, answered, frame_answered, answered_as, outside}
use Rattle.meaning_laws.specs.Units.{with_more, Continues, alike}
use Rattle.meaning_laws.specs.Fitting.{no_value, a_word, Answered, answered_raise, unfit, unanswered}
use Rattle.meaning_laws.specs.Fitting as fitting

answered_so : (end : ℕ) (result : Ret) (call : Made) (answers : List ℕ) (w : World) → Answered end result false w (answered result call answers w)
answered_so end ret.Unit call answers w = fitting.answered nobody (call ∷ []) answers no_value
answered_so end (ret.Comp c) call [] w = unanswered call
answered_so end (ret.Comp c) call (a ∷ answers) w = fitting.answered nobody (call ∷ []) answers (a_word a)

raises_so : (end : ℕ) (result : Ret) (v : Value) (call : Made) (answers : List ℕ) (w : World) (b : Bool) → fits end ty.Val v ≡ b →
    Answered end result true w (cond b (Raises v nobody (with_call_made call answers w)) (Stops (NotProper (misfit ty.Val)) (with_call_made call answers w)))
raises_so end result v call answers w true fit = answered_raise v nobody (call ∷ []) answers fit
raises_so end result v call answers w false fit = unfit (misfit ty.Val) (call ∷ []) answers

frame_so : (end : ℕ) (result : Ret) (call : Made) (answers : List ℕ) (w : World) → Answered end result true w (frame_answered end result call answers w)
frame_so end result call [] w = unanswered call
frame_so end result call (zero ∷ []) w = unanswered call
frame_so end result call (suc n ∷ []) w = unanswered call
frame_so end ret.Unit call (zero ∷ a ∷ answers) w = fitting.answered nobody (call ∷ []) answers no_value
frame_so end (ret.Comp c) call (zero ∷ a ∷ answers) w = fitting.answered nobody (call ∷ []) answers (a_word a)
frame_so end result call (suc n ∷ a ∷ answers) w = raises_so end result (Word a) call answers w (fits end ty.Val (Word a)) refl

answered_continues : (k : ℕ) (result : Ret) (call : Made) (answers : List ℕ) (w : World) →
    Continues k (answered result call answers w) (answered result call answers (with_more k w))
answered_continues k ret.Unit call answers w = alike (answered ret.Unit call answers w)
answered_continues k (ret.Comp c) call [] w = alike (answered (ret.Comp c) call [] w)
answered_continues k (ret.Comp c) call (a ∷ answers) w = alike (answered (ret.Comp c) call (a ∷ answers) w)

raises_continues : (k : ℕ) (v : Value) (call : Made) (answers : List ℕ) (w : World) (b : Bool) →
    Continues k (cond b (Raises v nobody (with_call_made call answers w)) (Stops (NotProper (misfit ty.Val)) (with_call_made call answers w)))
    (cond b (Raises v nobody (with_call_made call answers (with_more k w))) (Stops (NotProper (misfit ty.Val)) (with_call_made call answers (with_more k w))))
raises_continues k v call answers w true = alike (Raises v nobody (with_call_made call answers w))
raises_continues k v call answers w false = alike (Stops (NotProper (misfit ty.Val)) (with_call_made call answers w))

frame_continues : (k end : ℕ) (result : Ret) (call : Made) (answers : List ℕ) (w : World) →
    Continues k (frame_answered end result call answers w) (frame_answered end result call answers (with_more k w))
frame_continues k end result call [] w = alike (Stops (NoAnswer call) w)
frame_continues k end result call (zero ∷ []) w = alike (Stops (NoAnswer call) w)
frame_continues k end result call (suc n ∷ []) w = alike (Stops (NoAnswer call) w)
frame_continues k end result call (zero ∷ a ∷ answers) w = alike (frame_answered end result call (zero ∷ a ∷ answers) w)
frame_continues k end result call (suc n ∷ a ∷ answers) w = raises_continues k (Word a) call answers w (fits end ty.Val (Word a))

as_so : (frame : Bool) (end : ℕ) (result : Ret) (call : Made) (answers : List ℕ) (w : World) → Answered end result frame w (answered_as frame end result call answers w)
as_so true end result call answers w = frame_so end result call answers w
as_so false end result call answers w = answered_so end result call answers w

as_continues : (frame : Bool) (k end : ℕ) (result : Ret) (call : Made) (answers : List ℕ) (w : World) →
    Continues k (answered_as frame end result call answers w) (answered_as frame end result call answers (with_more k w))
as_continues true k end result call answers w = frame_continues k end result call answers w
as_continues false k end result call answers w = answered_continues k result call answers w

pub outside_answers : (end : ℕ) (layout : Layout) (row : External) (frame : Bool) (arguments : List Value) (w : World) →
    Answered end row.result frame w (outside end layout row frame arguments w)
outside_answers end layout row frame arguments w =
    as_so frame end row.result (record { name = row.name; shown = map (observed layout) arguments }) w.answers w

pub outside_continues : (end : ℕ) (layout : Layout) (k : ℕ) (row : External) (frame : Bool) (arguments : List Value) (w : World) →
    Continues k (outside end layout row frame arguments w) (outside end layout row frame arguments (with_more k w))
outside_continues end layout k row frame arguments w =
    as_continues frame k end row.result (record { name = row.name; shown = map (observed layout) arguments }) w.answers w
