-- What holds of the walks of a function holds of those of a function whose code is in step with it.
use Rattle.std.proofs.Common.{◌≡◌, ℕ, suc, ◌+◌, ◌*◌, ◌/◌, ◌<◌, ◌≤◌, Bool, true, false, cond, ◌||◌, List, [], ◌∷◌, length, refl, sym, ap, ◌∙◌, subst}
use Rattle.std.proofs.lemmas.Bool.{true≢false}
use Rattle.mach_ir.specs.Acts.{Target, On, At}
use Rattle.mach_ir.specs.Walks.{OneOf}
use Rattle.mach_ir.specs.declared.op.Op.TheVariants as op
use Rattle.lin_ir.specs.Descriptors.{FitsDescriptors, has_frame_point, frame_point_count, frame_bytes}
use Rattle.lin_ir.specs.Formed.{GoesDown, is_exit, is_label}
use Rattle.lin_ir.specs.Meaning.{after_label, code_at, passes_frame}
use Rattle.lin_ir.specs.Walks.{targets, may_raise, tries_after, LineWalkStep, Raises, Reached, StandsAsLine, TrapsBalance}
use Rattle.lin_ir.specs.Walks as walks
use Rattle.lin_ir.specs.declared.lin.LinOp.{LinOp}
use Rattle.lin_ir.specs.declared.lin.LinOp.TheVariants as lin
use Rattle.lin_ir.specs.declared.lin.Line.{Line}
use Rattle.lin_ir.specs.declared.lin.Lin.{Lin}
use Rattle.linearise_rules.specs.Keeps.{OneTraps}
use Rattle.linearise_rules.proofs.Walked.{Tail, tail_stands, stands_tail, reached_tail}
use Rattle.lin_tidy_rules.specs.Leaving.{is_landing}
use Rattle.lin_tidy_rules.specs.Regular.{IsTidy}
use Rattle.lin_tidy_rules.proofs.Ends.{same_tail}
use Rattle.lin_tidy_rules.proofs.Shape.{balance_of}
use Rattle.schedule_rules.specs.Straight.{is_plain}
use Rattle.schedule_rules.proofs.Doing.{plain_frame}
use Rattle.schedule_rules.proofs.Living.{plain_on, plain_only, plain_quiet}
use Rattle.scheduled_lines.proofs.InStep.{InStep, both_end, both_plain, same_line, turned, same_length, label_in_step, Beside, beside, Came, came, reached_there, traps_were}

-- ---- lines of runs

plain_exit : (f : LinOp) → is_plain f ≡ true → is_exit f ≡ false
plain_exit (lin.Op f) e = refl
plain_exit (lin.Flow f) e = absurd (true≢false (sym e))

plain_mark : (f : LinOp) → is_plain f ≡ true → is_label f ≡ false
plain_mark (lin.Op f) e = refl
plain_mark (lin.Flow f) e = absurd (true≢false (sym e))

pub plain_landing : (f : LinOp) → is_plain f ≡ true → is_landing f ≡ false
plain_landing (lin.Op f) e = refl
plain_landing (lin.Flow f) e = absurd (true≢false (sym e))

pub frameless : (f : LinOp) → is_plain f ≡ true → passes_frame f ≡ false
frameless f e = by (passes_frame f) refl
  where
    by : (b : Bool) → passes_frame f ≡ b → b ≡ false
    by true q = absurd (plain_frame f e q)
    by false q = refl

-- what cannot be in a run stays
stays_if : (f : LinOp) → (is_plain f ≡ true → ⊥) → is_plain f ≡ false
stays_if f out = by (is_plain f) refl
  where
    by : (b : Bool) → is_plain f ≡ b → b ≡ false
    by true p = absurd (out p)
    by false p = refl

raise_stays : (f : LinOp) → may_raise f ≡ true → is_plain f ≡ false
raise_stays f e = stays_if f (λ p. true≢false (sym e ∙ plain_quiet f p))

pub point_stays : (f : LinOp) → passes_frame f ≡ true → is_plain f ≡ false
point_stays f e = stays_if f (λ p. plain_frame f p e)

label_stays : (f : LinOp) → is_label f ≡ true → is_plain f ≡ false
label_stays (lin.Op f) e = absurd (true≢false (sym e))
label_stays (lin.Flow f) e = refl

leaves_stays : (f : LinOp) → walks.leaves f ≡ true → is_plain f ≡ false
leaves_stays (lin.Op (op.Pure f)) e = absurd (true≢false (sym e))
leaves_stays (lin.Op (op.Access f)) e = absurd (true≢false (sym e))
leaves_stays (lin.Op (op.Calling f)) e = refl
leaves_stays (lin.Op (op.Leaving f)) e = refl
leaves_stays (lin.Flow f) e = refl

-- ---- frames

pub same_count : {code other : List Line} → InStep code other → frame_point_count other ≡ frame_point_count code
same_count both_end = refl
same_count (both_plain {i = i} {j = j} {is = is} {js = js} p q s) =
    ap (λ b. cond b (suc (frame_point_count js)) (frame_point_count js)) (frameless j.op q) ∙ same_count s
    ∙ sym (ap (λ b. cond b (suc (frame_point_count is)) (frame_point_count is)) (frameless i.op p))
same_count (same_line {i = i} s) = ap (λ n. cond (passes_frame i.op) (suc n) n) (same_count s)

pub has_point : {code other : List Line} → InStep code other → has_frame_point other ≡ has_frame_point code
has_point both_end = refl
has_point (both_plain {i = i} {j = j} {is = is} {js = js} p q s) =
    ap (λ b. b || has_frame_point js) (frameless j.op q) ∙ has_point s ∙ sym (ap (λ b. b || has_frame_point is) (frameless i.op p))
has_point (same_line {i = i} s) = ap (λ b. passes_frame i.op || b) (has_point s)

-- ---- walks

module _ (m r : Lin) (whole : InStep m.code r.code) where
  back : InStep r.code m.code
  back = turned whole

  pub one_traps : OneTraps m → OneTraps r
  one_traps traps = record { one = λ code tries others x y. by (came r m back x) (came r m back y) }
    where
      by : {code : List Line} {tries others : List ℕ} → Came m code tries → Came m code others → tries ≡ others
      by {tries = tries} {others = others} x y =
          traps.one y.there tries others
          (subst (λ k. Reached m k tries) (same_tail (reached_tail m x.reached) (reached_tail m y.reached) (sym (same_length x.together) ∙ same_length y.together)) x.reached)
          y.reached

  -- A line that steers control is there in both.
  pub record CameLine (i : Line) (next : List Line) (tries : List ℕ) : Type 0 where
    pub was : List Line
    pub together : InStep next was
    pub reached : Reached m (i ∷ was) tries

  pub came_line : {i : Line} {next : List Line} {tries : List ℕ} → is_plain i.op ≡ false → Reached r (i ∷ next) tries → CameLine i next tries
  came_line {i} {next} {tries} stays x = let y = came r m back x in by y.together y.reached
    where
      by : {there : List Line} → InStep (i ∷ next) there → Reached m there tries → CameLine i next tries
      by (both_plain p q s) z = absurd (true≢false (sym p ∙ stays))
      by (same_line {js = js} s) z = record { was = js; together = s; reached = z }

  pub balance : OneTraps m → TrapsBalance m → TrapsBalance r
  balance traps old =
      balance_of r (one_traps traps)
      (λ i next tries x e n. let y = came_line (ap is_plain e) x in old.pops i y.was tries y.reached e n)
      (λ i next tries x e. let y = came_line (leaves_stays i.op e) x in old.leaves i y.was tries y.reached e)

  -- ---- places go down as they did

  code_in_step : {next was : List Line} → InStep next was → (t : Target) → InStep (code_at r.code next t) (code_at m.code was t)
  code_in_step s On = s
  code_in_step s (At l) = label_in_step l back

  lower : (order : ℕ → ℕ) {to next was_to was : List Line} → InStep to was_to → InStep next was → order (length was_to) < order (suc (length was)) →
      order (length to) < order (suc (length next))
  lower order {to} {next} {was_to} {was} s t lt =
      subst (λ n. order n < order (suc (length next))) (sym (same_length s)) (subst (λ n. order (length was_to) < order (suc n)) (sym (same_length t)) lt)

  module _ (d : GoesDown m) where
    steps_down : {i : Line} {next there : List Line} {tries : List ℕ} → InStep (i ∷ next) there → Reached m there tries → is_exit i.op ≡ false → is_label i.op ≡ false →
        (t : Target) → OneOf t (targets i.op) → d.order (length (code_at r.code next t)) < d.order (suc (length next))
    steps_down {i} {next} {tries = tries} (both_plain {j = j} {js = js} p q s) x e f t o =
        subst (λ k. d.order (length (code_at r.code next k)) < d.order (suc (length next))) (sym (plain_only i.op t p o))
        (lower d.order s s (d.steps j js js tries (tries_after j.op tries) x (plain_exit j.op q) (plain_mark j.op q) (walks.goes On (plain_on j.op q))))
    steps_down {i} {next} {tries = tries} (same_line {js = js} s) x e f t o =
        lower d.order (code_in_step s t) s (d.steps i js (code_at m.code js t) tries (tries_after i.op tries) x e f (walks.goes t o))

    step_down : {i : Line} {next to : List Line} {tries left : List ℕ} → Reached r (i ∷ next) tries → is_exit i.op ≡ false → is_label i.op ≡ false →
        LineWalkStep r i next tries to left → d.order (length to) < d.order (suc (length next))
    step_down x e f (walks.goes t o) = let y = came r m back x in steps_down y.together y.reached e f t o

    raise_down : {i : Line} {next to : List Line} {tries left : List ℕ} → Reached r (i ∷ next) tries → Raises r i tries to left → d.order (length to) < d.order (suc (length next))
    raise_down {i} x (walks.raises {h = h} {tries = tries} e) =
        let y = came_line (raise_stays i.op e) x in
        lower d.order (label_in_step h back) y.together (d.raises i y.was (after_label h m.code) (h ∷ tries) tries y.reached (walks.raises e))

    label_down : {i : Line} {next : List Line} {tries : List ℕ} → Reached r (i ∷ next) tries → is_label i.op ≡ true → d.order (length next) ≤ d.order (suc (length next))
    label_down {i} {tries = tries} x e =
        let y = came_line (label_stays i.op e) x in
        subst (λ n. d.order n ≤ d.order (suc n)) (sym (same_length y.together)) (d.labels i y.was tries y.reached e)

    pub down : GoesDown r
    down =
        record {
          order = d.order;
          labels = λ i next tries x e. label_down x e;
          steps = λ i next to tries left x e f w. step_down x e f w;
          raises = λ i next to tries left x w. raise_down x w;
        }

  -- ---- which lines are reached, and with what traps

  -- where all lines of the first but labels and entries of handlers are reached, those of the second are
  pub line_reached : IsTidy m → (i : Line) (next : List Line) → StandsAsLine i next r.code → is_landing i.op ≡ false → (tries : List ℕ) × Reached r (i ∷ next) tries
  line_reached tidy i next stands e = by b.together b.within
    where
      b : Beside m.code (i ∷ next)
      b = beside whole (stands_tail stands)

      there : {place : List Line} → InStep place (i ∷ next) → ((tries : List ℕ) × Reached m place tries) → (tries : List ℕ) × Reached r (i ∷ next) tries
      there s y = (y.0, reached_there m r whole s (stands_tail stands) y.1)

      by : {place : List Line} → InStep place (i ∷ next) → Tail place m.code → (tries : List ℕ) × Reached r (i ∷ next) tries
      by (both_plain {i = j} {is = is} p q s) w = there (both_plain p q s) (tidy.reached j is (tail_stands w) (plain_landing j.op p))
      by (same_line {is = is} s) w = there (same_line s) (tidy.reached i is (tail_stands w) e)

  pub same_frame : r.slots ≡ m.slots → frame_bytes r ≡ frame_bytes m
  same_frame e = ap (λ n. (8 * n + cond (has_frame_point r.code) 8 0 + 15) / 16 * 16) e ∙ ap (λ b. (8 * m.slots + cond b 8 0 + 15) / 16 * 16) (has_point whole)

  pub fits : r.slots ≡ m.slots → FitsDescriptors m → FitsDescriptors r
  fits e f =
      record {
        lines = subst (λ n. n < 4294967296) (same_length whole) f.lines;
        frame = λ code tries x. let y = traps_were m r whole x in subst (λ n. n + 16 * length tries ≤ 1048576) (sym (same_frame e)) (f.frame y.0 tries y.1);
      }

  pub unended : ((tries : List ℕ) → Reached m [] tries → ⊥) → (tries : List ℕ) → Reached r [] tries → ⊥
  unended out tries x = let y = came r m back x in by y.together y.reached
    where
      by : {there : List Line} → InStep [] there → Reached m there tries → ⊥
      by both_end z = out tries z
