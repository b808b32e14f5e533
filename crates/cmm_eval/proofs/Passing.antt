-- A tail call: what follows in the caller is tests, and so the callee may take its place.
use Rattle.std.proofs.Common.{◌≡◌, ◌∙◌, ℕ, suc, ◌-◌, ◌<◌, ◌≤◌, Bool, List, [], ◌∷◌, ◌++◌, Option, length, drop, drop-cons, get_or, refl, ap, sym, arith}
use Rattle.std.specs.Borrow.{Bor}
use Rattle.bs_words.specs.declared.types.Ret.{Ret}
use Rattle.bs_words.specs.declared.values.Value.{Value}
use Rattle.cmm_tree.specs.declared.expr.Form.{Form}
use Rattle.cmm_meaning.specs.State.{World, Here}
use Rattle.cmm_meaning.specs.Evaluation.{Evaluation, Gives, Exits, Raises, Stops, Surroundings, and_then, back_from_call, as_written}
use Rattle.cmm_meaning.specs.Run.{finished}
use Rattle.cmm_meaning.specs.Layout.{Layout}
use Rattle.eval_frames.specs.Outside.{returned}
use Rattle.eval_frames.specs.Filled.{does, fills_frame, resume}
use Rattle.eval_frames.specs.Meets.{judged, verdict_on, meets}
use Rattle.eval_frames.specs.Passing.{returns, NeverExits, Passes, TakesPlace}
use Rattle.eval_frames.specs.Views.{here_view}
use Rattle.eval_frames.specs.declared.frame.Frame.{Frame}
use Rattle.eval_frames.specs.declared.frame.Step.TheVariants as step
use Rattle.eval_frames.specs.declared.here.Here as here
use Rattle.eval_frames.specs.declared.tests.Tests.{Tests}
use Rattle.eval_frames.specs.declared.tests.Verdict.{Verdict}
use Rattle.eval_frames.specs.declared.tests.Verdict.TheVariants as verdict
use Rattle.cmm_eval.proofs.Resumed.{resume_push}

-- ---- what tests are of a function

-- these tests do this to a value
abbrev pub Meets : Tests → (ℕ → Option Value → Here → World → Evaluation) → Type 0
Meets tests does = (end : ℕ) (v : Option Value) (h : Here) (w : World) → meets end tests v h w ≡ does end v h w

-- these are two tests, one after the other
abbrev pub MeetsThen : Tests → Tests → Tests → Type 0
MeetsThen tests others both = Meets both (λ end v h w. and_then (meets end tests v h w) (λ v h w. meets end others v h w))

back_judged : (d : Verdict) (v : Option Value) (kept h : Here) (w : World) → back_from_call kept (judged d v h w) ≡ judged d v kept w
back_judged verdict.Kept v kept h w = refl
back_judged verdict.Dropped v kept h w = refl
back_judged (verdict.Improper kind) v kept h w = refl

never_judged : (d : Verdict) (v : Option Value) (h : Here) (w : World) → NeverExits (judged d v h w)
never_judged verdict.Kept v h w = tt
never_judged verdict.Dropped v h w = tt
never_judged (verdict.Improper kind) v h w = tt

-- of what is back in one activation the caller sees the same as of what is back in another
back_returns : (s : Surroundings) (tests : Tests) (kept h : Here) (e : Evaluation) → back_from_call kept (returns s tests h e) ≡ returns s tests kept e
back_returns s tests kept h (Gives v i w) = back_judged (verdict_on tests s.end v) v kept h w
back_returns s tests kept h (Exits label values i w) = refl
back_returns s tests kept h (Raises v i w) = refl
back_returns s tests kept h (Stops why w) = refl

never_returns : (s : Surroundings) (tests : Tests) (h : Here) (e : Evaluation) → NeverExits (returns s tests h e)
never_returns s tests h (Gives v i w) = never_judged (verdict_on tests s.end v) v h w
never_returns s tests h (Exits label values i w) = tt
never_returns s tests h (Raises v i w) = tt
never_returns s tests h (Stops why w) = tt

returns_then : (s : Surroundings) (tests others both : Tests) → MeetsThen tests others both → (h : Here) (e : Evaluation) →
    and_then (returns s tests h e) (λ v h w. meets s.end others v h w) ≡ returns s both h e
returns_then s tests others both m h (Gives v i w) = sym (m s.end v h w)
returns_then s tests others both m h (Exits label values i w) = refl
returns_then s tests others both m h (Raises v i w) = refl
returns_then s tests others both m h (Stops why w) = refl

pub returns_none : (s : Surroundings) (tests : Tests) → Meets tests (λ end v h w. Gives v h w) → (h : Here) (e : Evaluation) →
    returns s tests h e ≡ back_from_call h e
returns_none s tests m h (Gives v i w) = m s.end v h w
returns_none s tests m h (Exits label values i w) = refl
returns_none s tests m h (Raises v i w) = refl
returns_none s tests m h (Stops why w) = refl

pub returns_written : (s : Surroundings) (tests : Tests) (written : Ret) → Meets tests (λ end v h w. as_written written v h w) → (h : Here) (e : Evaluation) →
    returns s tests h e ≡ returned written h e
returns_written s tests written m h (Gives v i w) = m s.end v h w
returns_written s tests written m h (Exits label values i w) = refl
returns_written s tests written m h (Raises v i w) = refl
returns_written s tests written m h (Stops why w) = refl

-- ---- frames that only test

-- between a callee and this place there are these tests at first, and all in all those
pub record Follows (frames : List Frame) (first all : Tests) : Type 0 where
  pub stays : (s : Surroundings) (h : Here) (e : Evaluation) → NeverExits (resume s frames (returns s first h e))
  pub tests : (s : Surroundings) (kept h : Here) (e : Evaluation) →
      back_from_call kept (resume s frames (returns s first h e)) ≡ returns s all kept e

pub follows_none : (tests : Tests) → Follows [] tests tests
follows_none tests = record {
  stays = λ s h e. never_returns s tests h e;
  tests = λ s kept h e. back_returns s tests kept h e;
}

pub follows_more : (f : Frame) (frames : List Frame) (first before after tests : Tests) → Follows frames first before → Passes f.step after →
    MeetsThen before after tests → Follows (f ∷ frames) first tests
follows_more f frames first before after tests p q m = record {
  stays = λ s h e. q.stays s f.form.now f.tail (resume s frames (returns s first h e)) (p.stays s h e);
  tests =
      λ s kept h e. q.tests s f.form.now f.tail kept (resume s frames (returns s first h e)) (p.stays s h e)
      ∙ ap (λ (x : Evaluation). and_then x (λ v h w. meets s.end after v h w)) (p.tests s kept h e)
      ∙ returns_then s before after tests m kept e;
}

-- one frame before these
pub frame_at : (xs : List Frame) (left : ℕ) (f : Frame) → 0 < left → left ≤ length xs → f ≡ get_or xs (left - 1) f →
    drop (left - 1) xs ≡ f ∷ drop left xs
frame_at xs left f some within at =
    let lt : left - 1 < length xs = omega arith in
    let e : suc (left - 1) ≡ left = omega arith in
    drop-cons xs (left - 1) f lt ∙ ap (λ y. y ∷ drop (suc (left - 1)) xs) (sym at) ∙ ap (λ n. f ∷ drop n xs) e

resume_append : (s : Surroundings) (outer inner : List Frame) (e : Evaluation) → resume s (outer ++ inner) e ≡ resume s outer (resume s inner e)
resume_append s [] inner e = refl
resume_append s (f ∷ outer) inner e = ap (fills_frame s f) (resume_append s outer inner e)

-- The callee takes its caller's place: back in the activation h0 to which the caller returns, it meets the tests of
-- the caller after its own.
pub place_taken : (outer inner : List Frame) (form : Bor Form) (tail : Bool) (kept : here.Here) (first before after tests : Tests) →
    Follows inner first before → MeetsThen before after tests →
    TakesPlace (outer ++ record { form = form; tail = tail; step = step.Return kept after } ∷ inner) first
    (outer ++ record { form = form; tail = tail; step = step.Return kept tests } ∷ [])
place_taken outer inner form tail kept first before after tests p m s h e =
    let old : Frame = record { form = form; tail = tail; step = step.Return kept after } in
    let new : Frame = record { form = form; tail = tail; step = step.Return kept tests } in
    let k : Here = here_view kept in
    resume_push s outer new e
    ∙ ap (resume s outer)
    (sym (ap (λ (x : Evaluation). and_then x (λ v h w. meets s.end after v h w)) (p.tests s k h e) ∙ returns_then s before after tests m k e))
    ∙ sym (resume_append s outer (old ∷ inner) (returns s first h e))

-- ---- the entry

-- what the entry leaves is reported whether it has returned or not
pub finished_back : (layout : Layout) (h : Here) (e : Evaluation) → finished layout (back_from_call h e) ≡ finished layout e
finished_back layout h (Gives v i w) = refl
finished_back layout h (Exits label values i w) = refl
finished_back layout h (Raises v i w) = refl
finished_back layout h (Stops why w) = refl
