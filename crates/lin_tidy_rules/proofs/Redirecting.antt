-- Jumps that go at once where the jumps lead to which they go: where walks come, what is live, and that the function does
-- what it did.
use Rattle.std.proofs.Common.{◌≡◌, ℕ, Bool, true, false, cond, inl, inr, ⊎_elim, List, [], ◌∷◌, map, Option, Some, None, refl, sym, ap, ◌∙◌, subst}
use Rattle.std.proofs.lemmas.Bool.{true≢false}
use Rattle.std.specs.List.{Contains}
use Rattle.bs_words.specs.Memory.{Memory, sizes}
use Rattle.bs_words.specs.declared.types.Comp.{Comp}
use Rattle.bs_words.specs.declared.types.Loc.{Loc}
use Rattle.bs_words.specs.declared.values.Value.{Value}
use Rattle.bs_words.proofs.Lists.{none_in, head_same, tail_same, none_there}
use Rattle.cmm_meaning.specs.State.{Doing}
use Rattle.mach_ir.specs.Acts.{Around, Target, On, At, truth_of, goes_by_test}
use Rattle.mach_ir.specs.Meaning.{is_destroyed}
use Rattle.mach_ir.specs.Runs.{ActivationSetting, Step, Pays}
use Rattle.mach_ir.specs.Walks.{OneOf, this, other}
use Rattle.mach_ir.specs.declared.mach.MachOp.{MachOp}
use Rattle.mach_ir.specs.declared.op.Op.{Op}
use Rattle.mach_ir.specs.declared.mach.Test.{Test}
use Rattle.lin_ir.specs.Formed.{is_exit, label_of, lin_operand_seats, lin_result_seats, bare_flow}
use Rattle.lin_ir.specs.Keeps.{IsNamedIn}
use Rattle.lin_ir.specs.Meaning.{State, Locations, put_all, clear_destroyed, values, destroyed_by, lin_act, on_act, wrote, has_label, after_label, code_at, passes_frame, linear_start}
use Rattle.lin_ir.specs.Walks as walks
use Rattle.lin_ir.specs.Walks.{targets, may_raise, tries_after, Writes, Reached, at_entry, by_step, by_raise, Live, read, on, aside, LiveAcross, across_step, across_raise}
use Rattle.lin_ir.specs.declared.lin.Flow.{Flow}
use Rattle.lin_ir.specs.declared.lin.Flow.TheVariants as flow
use Rattle.lin_ir.specs.declared.lin.LinOp.{LinOp}
use Rattle.lin_ir.specs.declared.lin.LinOp.TheVariants as lin
use Rattle.lin_ir.specs.declared.lin.Line.{Line}
use Rattle.lin_ir.specs.declared.lin.Lin.{Lin}
use Rattle.lin_ir.specs.declared.lin.Spot.{Spot}
use Rattle.linearise_rules.specs.Keeps.{NoAddrReached}
use Rattle.linearise_rules.specs.Kept as kept
use Rattle.linearise_rules.specs.Kept.{lossless_line_step, ValsHeld}
use Rattle.linearise_rules.proofs.Homes.{IsIn, is_first, is_later, in_of, contains_of}
use Rattle.lin_tidy_rules.specs.Keeps.{SameRound, TidyBegins, KeepsLin}
use Rattle.lin_tidy_rules.specs.Leaving.{LabelsBetween, none_between, label_between, with_code}
use Rattle.lin_tidy_rules.specs.Redirecting.{exit_or_jump, redirected_operation, redirect, GoesOnTo, itself, and_on, ExitsTo, by_exit, RedirectsTargets}
use Rattle.lin_tidy_rules.proofs.Turns.{turns}
use Rattle.lin_tidy_rules.proofs.Simulate.{Arrives, both_continue, both_pay, first_stuck, Answers, stays, stuck, steps, Closed, Leads, acts, begins_alike}
use Rattle.lin_tidy_rules.proofs.Leaving.{jump_unwritten}

-- ---- what is the same of a line that is redirected

-- what is the same of jumps and exits is the same of what a jump becomes
pub jump_same : {X : Type 0} (h : LinOp → X) (x : X) → ((l : ℕ) → h (lin.Flow (flow.Jump l)) ≡ x) → ((l : ℕ) → h (lin.Flow (flow.Exit l)) ≡ x) →
    (o : Option ℕ) (l : ℕ) → h (lin.Flow (exit_or_jump o l)) ≡ x
jump_same h x jumps exits None l = jumps l
jump_same h x jumps exits (Some n) l = exits n

-- what says nothing of where a line leads, and the same of every jump and of every exit
pub record IsBlind {X : Type 0} (h : LinOp → X) : Type 0 where
  pub jump : (l : ℕ) → h (lin.Flow (flow.Jump l)) ≡ h (lin.Flow (flow.Jump 0))
  pub exit : (l : ℕ) → h (lin.Flow (flow.Exit l)) ≡ h (lin.Flow (flow.Jump 0))
  pub branch : (test : Test) (k l : ℕ) → h (lin.Flow (flow.Branch test k)) ≡ h (lin.Flow (flow.Branch test l))

pub same_said : {X : Type 0} (h : LinOp → X) → IsBlind h → (to : ℕ → ℕ) (exits : ℕ → Option ℕ) (f : LinOp) → h (redirected_operation to exits f) ≡ h f
same_said h is to exits (lin.Op f) = refl
same_said h is to exits (lin.Flow (flow.Label k)) = refl
same_said h is to exits (lin.Flow (flow.Jump k)) = jump_same h _ is.jump is.exit (exits k) (to k) ∙ sym (is.jump k)
same_said h is to exits (lin.Flow (flow.Exit k)) = is.exit (to k) ∙ sym (is.exit k)
same_said h is to exits (lin.Flow (flow.Branch t k)) = is.branch t (to k) k
same_said h is to exits (lin.Flow (flow.Switch ls)) = refl
same_said h is to exits (lin.Flow (flow.PushTrap k)) = refl
same_said h is to exits (lin.Flow flow.PopTrap) = refl
same_said h is to exits (lin.Flow flow.EnterTrap) = refl

pub same_destroyed : (to : ℕ → ℕ) (exits : ℕ → Option ℕ) (f : LinOp) → destroyed_by (redirected_operation to exits f) ≡ destroyed_by f
same_destroyed = same_said destroyed_by (record { jump = λ l. refl; exit = λ l. refl; branch = λ test k l. refl })

pub same_tries : (ts : List ℕ) (to : ℕ → ℕ) (exits : ℕ → Option ℕ) (f : LinOp) → tries_after (redirected_operation to exits f) ts ≡ tries_after f ts
same_tries ts = same_said (λ f. tries_after f ts) (record { jump = λ l. refl; exit = λ l. refl; branch = λ test k l. refl })

pub same_raise : (to : ℕ → ℕ) (exits : ℕ → Option ℕ) (f : LinOp) → may_raise (redirected_operation to exits f) ≡ may_raise f
same_raise = same_said may_raise (record { jump = λ l. refl; exit = λ l. refl; branch = λ test k l. refl })

pub same_frame : (to : ℕ → ℕ) (exits : ℕ → Option ℕ) (f : LinOp) → passes_frame (redirected_operation to exits f) ≡ passes_frame f
same_frame = same_said passes_frame (record { jump = λ l. refl; exit = λ l. refl; branch = λ test k l. refl })

pub same_label : (l : ℕ) (to : ℕ → ℕ) (exits : ℕ → Option ℕ) (f : LinOp) → has_label l (redirected_operation to exits f) ≡ has_label l f
same_label l = same_said (has_label l) (record { jump = λ k. refl; exit = λ k. refl; branch = λ test j k. refl })

pub same_leaves : (to : ℕ → ℕ) (exits : ℕ → Option ℕ) (f : LinOp) → walks.leaves (redirected_operation to exits f) ≡ walks.leaves f
same_leaves = same_said walks.leaves (record { jump = λ l. refl; exit = λ l. refl; branch = λ test k l. refl })

-- a line that becomes no exit was none
pub exit_was : (to : ℕ → ℕ) (exits : ℕ → Option ℕ) (f : LinOp) → is_exit (redirected_operation to exits f) ≡ false → is_exit f ≡ false
exit_was to exits (lin.Op f) e = refl
exit_was to exits (lin.Flow (flow.Label k)) e = refl
exit_was to exits (lin.Flow (flow.Jump k)) e = refl
exit_was to exits (lin.Flow (flow.Exit k)) e = e
exit_was to exits (lin.Flow (flow.Branch t k)) e = refl
exit_was to exits (lin.Flow (flow.Switch ls)) e = refl
exit_was to exits (lin.Flow (flow.PushTrap k)) e = refl
exit_was to exits (lin.Flow flow.PopTrap) e = refl
exit_was to exits (lin.Flow flow.EnterTrap) e = refl

pub same_labels : (to : ℕ → ℕ) (exits : ℕ → Option ℕ) (f : LinOp) → label_of (redirected_operation to exits f) ≡ label_of f
same_labels = same_said label_of (record { jump = λ l. refl; exit = λ l. refl; branch = λ test k l. refl })

pub same_operands : (to : ℕ → ℕ) (exits : ℕ → Option ℕ) (f : LinOp) → lin_operand_seats (redirected_operation to exits f) ≡ lin_operand_seats f
same_operands = same_said lin_operand_seats (record { jump = λ l. refl; exit = λ l. refl; branch = λ test k l. refl })

pub same_results : (to : ℕ → ℕ) (exits : ℕ → Option ℕ) (f : LinOp) → lin_result_seats (redirected_operation to exits f) ≡ lin_result_seats f
same_results = same_said lin_result_seats (record { jump = λ l. refl; exit = λ l. refl; branch = λ test k l. refl })

-- ---- labels and jumps

-- control goes from the first code to the second by them alone
pub data Quiet (m : Lin) : List Line → List Line → Type 0 where
  is_there : {to : List Line} → Quiet m to to
  by_label : {l : ℕ} {next to : List Line} → Quiet m next to → Quiet m (bare_flow (flow.Label l) ∷ next) to
  by_jump : {l : ℕ} {next to : List Line} → Quiet m (after_label l m.code) to → Quiet m (bare_flow (flow.Jump l) ∷ next) to

quiet_then : {m : Lin} {a b d : List Line} → Quiet m a b → Quiet m b d → Quiet m a d
quiet_then is_there q = q
quiet_then (by_label p) q = by_label (quiet_then p q)
quiet_then (by_jump p) q = by_jump (quiet_then p q)

quiet_labels : {m : Lin} {a b : List Line} → LabelsBetween a b → Quiet m a b
quiet_labels none_between = is_there
quiet_labels (label_between p) = by_label (quiet_labels p)

pub quiet_to : {m : Lin} {l n : ℕ} → GoesOnTo m l n → Quiet m (after_label l m.code) (after_label n m.code)
quiet_to itself = is_there
quiet_to (and_on g p) = quiet_then (quiet_to g) (quiet_then (quiet_labels p) (by_jump is_there))

quiet_reached : {m : Lin} {a b : List Line} {tries : List ℕ} → Quiet m a b → Reached m a tries → Reached m b tries
quiet_reached is_there r = r
quiet_reached (by_label p) r = quiet_reached p (by_step r (walks.goes On this))
quiet_reached (by_jump {l = l} p) r = quiet_reached p (by_step r (walks.goes (At l) this))

pub label_unwritten : (k : ℕ) (l : Loc) → Writes (bare_flow (flow.Label k)) l → ⊥
label_unwritten k l w = ⊎_elim (λ y. none_in (record { loc = l; comp = y.0 }) y.1) (λ e. true≢false (sym e)) w

quiet_live : {m : Lin} {l : Loc} {t : Comp} {a b : List Line} {tries : List ℕ} → Quiet m a b → Live m l t b tries → Live m l t a tries
quiet_live is_there v = v
quiet_live {l = l} (by_label {l = k} p) v = on (label_unwritten k l) (walks.goes On this) (quiet_live p v)
quiet_live {l = l} (by_jump {l = k} p) v = on (jump_unwritten k l) (walks.goes (At k) this) (quiet_live p v)

-- ---- and one exit

-- from the first code control goes by labels and jumps to the second, or it takes one exit on the way
pub data Round (m : Lin) (a b : List Line) : Type 0 where
  quietly : Quiet m a b → Round m a b
  with_exit : {l : ℕ} {next : List Line} → Quiet m a (bare_flow (flow.Exit l) ∷ next) → Quiet m (after_label l m.code) b → Round m a b

round_reached : {m : Lin} {a b : List Line} {tries : List ℕ} → Round m a b → Reached m a tries → Reached m b tries
round_reached (quietly p) r = quiet_reached p r
round_reached (with_exit {l = l} p q) r = quiet_reached q (by_step (quiet_reached p r) (walks.goes (At l) this))

exit_unwritten : (k : ℕ) (l : Loc) → Writes (bare_flow (flow.Exit k)) l → ⊥
exit_unwritten k l w = ⊎_elim (λ y. none_in (record { loc = l; comp = y.0 }) y.1) (λ e. true≢false (sym e)) w

round_live : {m : Lin} {l : Loc} {t : Comp} {a b : List Line} {tries : List ℕ} → Round m a b → Live m l t b tries → Live m l t a tries
round_live (quietly p) v = quiet_live p v
round_live {l = l} (with_exit {l = k} p q) v = quiet_live p (on (exit_unwritten k l) (walks.goes (At k) this) (quiet_live q v))

-- from where it comes to an exit by labels and jumps it goes on to the label
pub data Leaves (m : Lin) (a : List Line) (n : ℕ) : Type 0 where
  leaves : {l : ℕ} {next : List Line} → Quiet m a (bare_flow (flow.Exit l) ∷ next) → Quiet m (after_label l m.code) (after_label n m.code) → Leaves m a n

leaves_to : {m : Lin} {l n : ℕ} → ExitsTo m l n → Leaves m (after_label l m.code) n
leaves_to (by_exit g p h) = leaves (quiet_then (quiet_to g) (quiet_labels p)) (quiet_to h)

leaves_round : {m : Lin} {a : List Line} {n : ℕ} → Leaves m a n → Round m a (after_label n m.code)
leaves_round (leaves p q) = with_exit p q

abbrev is_jump : LinOp → Bool
is_jump (lin.Flow (flow.Jump l)) = true
is_jump _ = false

jump_label : (k l : ℕ) → lin.Flow (flow.Jump l) ≡ lin.Flow (flow.Jump k) → k ≡ l
jump_label k l e = cc

module _ (m : Lin) (to : ℕ → ℕ) (exits : ℕ → Option ℕ) (each : (l : ℕ) → GoesOnTo m l (to l)) (out : (l n : ℕ) → exits l ≡ Some n → ExitsTo m l n) where
  abbrev pub T : List Line → List Line
  T = map (redirect to exits)

  abbrev pub turned : Lin
  turned = with_code m (T m.code)

  label_turned : (l : ℕ) (is : List Line) → after_label l (T is) ≡ T (after_label l is)
  label_turned l [] = refl
  label_turned l (i ∷ is) = ap (λ b. cond b (T is) (after_label l (T is))) (same_label l to exits i.op) ∙ by (has_label l i.op) (label_turned l is)
    where
      by : (b : Bool) → after_label l (T is) ≡ T (after_label l is) → cond b (T is) (after_label l (T is)) ≡ T (cond b is (after_label l is))
      by true e = refl
      by false e = e

  pub target_turned : (next : List Line) (t : Target) → T (code_at m.code next t) ≡ code_at turned.code (T next) t
  target_turned next On = refl
  target_turned next (At l) = sym (label_turned l m.code)

  -- ---- steps of walks

  -- a step of the second, by the step of the first that it stands for
  pub record Was (f : LinOp) (next : List Line) (t : Target) : Type 0 where
    pub target : Target
    pub among : OneOf target (targets f)
    pub code : List Line
    pub round : Round m (code_at m.code next target) code
    pub same : T code ≡ code_at turned.code (T next) t

  same_target : (f : LinOp) (next : List Line) (t : Target) → OneOf t (targets f) → Was f next t
  same_target f next t o = record { target = t; among = o; code = code_at m.code next t; round = quietly is_there; same = target_turned next t }

  label_target : {f : LinOp} (next : List Line) (l : ℕ) → OneOf (At l) (targets f) → Was f next (At (to l))
  label_target next l o = record {
    target = At l;
    among = o;
    code = after_label (to l) m.code;
    round = quietly (quiet_to (each l));
    same = target_turned next
        (At (to l));
  }

  pub was : (f : LinOp) (next : List Line) (t : Target) → OneOf t (targets (redirected_operation to exits f)) → Was f next t
  was (lin.Op f) next t o = same_target (lin.Op f) next t o
  was (lin.Flow (flow.Label k)) next t o = same_target (lin.Flow (flow.Label k)) next t o
  was (lin.Flow (flow.Jump k)) next t o = by (exits k) refl t o
    where
      by : (x : Option ℕ) → exits k ≡ x → (t : Target) → OneOf t (targets (lin.Flow (exit_or_jump x (to k)))) → Was (lin.Flow (flow.Jump k)) next t
      by None e t this = label_target next k this
      by None e t (other o) = elim o [ ]
      by (Some n) e t this = record {
        target = At k;
        among = this;
        code = after_label n m.code;
        round = leaves_round (leaves_to (out k n e));
        same = target_turned next (At n);
      }
      by (Some n) e t (other o) = elim o [ ]
  was (lin.Flow (flow.Exit k)) next t this = label_target next k this
  was (lin.Flow (flow.Exit k)) next t (other o) = elim o [ ]
  was (lin.Flow (flow.Branch test k)) next t this = same_target (lin.Flow (flow.Branch test k)) next On this
  was (lin.Flow (flow.Branch test k)) next t (other this) = label_target next k (other this)
  was (lin.Flow (flow.Branch test k)) next t (other (other o)) = elim o [ ]
  was (lin.Flow (flow.Switch ls)) next t o = same_target (lin.Flow (flow.Switch ls)) next t o
  was (lin.Flow (flow.PushTrap k)) next t o = same_target (lin.Flow (flow.PushTrap k)) next t o
  was (lin.Flow flow.PopTrap) next t o = same_target (lin.Flow flow.PopTrap) next t o
  was (lin.Flow flow.EnterTrap) next t o = same_target (lin.Flow flow.EnterTrap) next t o

  pub record Split (is : List Line) (j : Line) (js : List Line) : Type 0 where
    pub line : Line
    pub next : List Line
    pub is_code : is ≡ line ∷ next
    pub is_line : redirect to exits line ≡ j
    pub is_next : T next ≡ js

  pub split : (is : List Line) (j : Line) (js : List Line) → T is ≡ j ∷ js → Split is j js
  split [] j js e = absurd (none_there e)
  split (i ∷ is) j js e = record {
    line = i;
    next = is;
    is_code = refl;
    is_line = head_same e;
    is_next = tail_same e;
  }

  pub record Source (js : List Line) (tries : List ℕ) : Type 0 where
    pub code : List Line
    pub same : T code ≡ js
    pub reached : Reached m code tries

  pub source : {js : List Line} {tries : List ℕ} → Reached turned js tries → Source js tries
  source at_entry = record { code = m.code; same = refl; reached = at_entry }
  source (by_step {i = j} {next = js} {tries = tries} r (walks.goes t o)) =
      let y = source r in
      let s = split y.code j js y.same in
      let w = was s.line.op s.next t (subst (λ (j : Line). OneOf t (targets j.op)) (sym s.is_line) o) in
      let back : Reached m (s.line ∷ s.next) tries = subst (λ is. Reached m is tries) s.is_code y.reached in
      record {
        code = w.code;
        same = w.same ∙ ap (λ ks. code_at turned.code ks t) s.is_next;
        reached = subst (Reached m w.code) (sym (same_tries tries to exits s.line.op) ∙ ap (λ (j : Line). tries_after j.op tries) s.is_line)
            (round_reached w.round (by_step back (walks.goes w.target w.among)));
      }
  source (by_raise {i = j} {next = js} r (walks.raises {h = h} {tries = tries} e)) =
      let y = source r in
      let s = split y.code j js y.same in
      record {
        code = after_label h m.code;
        same = target_turned [] (At h);
        reached = by_raise (subst (λ is. Reached m is (h ∷ tries)) s.is_code y.reached)
            (walks.raises (sym (same_raise to exits s.line.op) ∙ ap (λ (j : Line). may_raise j.op) s.is_line ∙ e));
      }

  -- a line that a walk comes to
  pub record SourceLine (j : Line) (js : List Line) (tries : List ℕ) : Type 0 where
    pub line : Line
    pub next : List Line
    pub is_line : redirect to exits line ≡ j
    pub is_next : T next ≡ js
    pub reached : Reached m (line ∷ next) tries

  pub source_line : {j : Line} {js : List Line} {tries : List ℕ} → Reached turned (j ∷ js) tries → SourceLine j js tries
  source_line {j} {js} {tries} r =
      let y = source r in
      let s = split y.code j js y.same in
      record { line = s.line; next = s.next; is_line = s.is_line; is_next = s.is_next; reached = subst (λ is. Reached m is tries) s.is_code y.reached }

  unwritten : (i j : Line) (l : Loc) → redirect to exits i ≡ j → (Writes j l → ⊥) → Writes i l → ⊥
  unwritten i j l e free w = subst (λ j. Writes j l → ⊥) (sym e) free
      (⊎_elim (λ y. inl_of y) (λ d. inr_of (ap (λ d. is_destroyed d l) (same_destroyed to exits i.op) ∙ d)) w)
    where
      inl_of : (t : Comp) × Contains i.results (record { loc = l; comp = t }) → Writes (redirect to exits i) l
      inl_of y = inl y

      inr_of : is_destroyed (destroyed_by (redirected_operation to exits i.op)) l ≡ true → Writes (redirect to exits i) l
      inr_of d = inr d

  pub live_before : {l : Loc} {t : Comp} {js : List Line} {tries : List ℕ} → Live turned l t js tries → (is : List Line) → T is ≡ js → Live m l t is tries
  live_before {l} {t} (read {i = j} {next = js} {tries = tries} x) is e =
      let s = split is j js e in
      subst (λ is. Live m l t is tries) (sym s.is_code) (read (subst (λ (j : Line). Contains j.args (record { loc = l; comp = t })) (sym s.is_line) x))
  live_before {l} {t} (on {i = j} {next = js} {tries = tries} free (walks.goes k o) v) is e =
      let s = split is j js e in
      let w = was s.line.op s.next k (subst (λ (j : Line). OneOf k (targets j.op)) (sym s.is_line) o) in
      subst (λ is. Live m l t is tries) (sym s.is_code)
      (on (unwritten s.line j l s.is_line free) (walks.goes w.target w.among)
      (round_live w.round
      (subst (Live m l t w.code) (sym (ap (λ (j : Line). tries_after j.op tries) s.is_line) ∙ same_tries tries to exits s.line.op)
      (live_before v w.code (w.same ∙ ap (λ ks. code_at turned.code ks k) s.is_next)))))
  live_before {l} {t} (aside {i = j} {next = js} (walks.raises {h = h} {tries = tries} x) v) is e =
      let s = split is j js e in
      subst (λ is. Live m l t is (h ∷ tries)) (sym s.is_code)
      (aside (walks.raises (sym (same_raise to exits s.line.op) ∙ ap (λ (j : Line). may_raise j.op) s.is_line ∙ x))
      (live_before v (after_label h m.code) (target_turned [] (At h))))

  pub live_across : {l : Loc} {t : Comp} {j : Line} {js : List Line} {tries : List ℕ} → LiveAcross turned l t j js tries → (i : Line) (next : List Line) →
      redirect to exits i ≡ j → T next ≡ js →
      LiveAcross m l t i next tries
  live_across {l} {t} {j} {js} {tries} (across_step free (walks.goes k o) v) i next e u =
      let w = was i.op next k (subst (λ (j : Line). OneOf k (targets j.op)) (sym e) o) in
      across_step (unwritten i j l e free) (walks.goes w.target w.among)
      (round_live w.round
      (subst (Live m l t w.code) (sym (ap (λ (j : Line). tries_after j.op tries) e) ∙ same_tries tries to exits i.op)
      (live_before v w.code (w.same ∙ ap (λ ks. code_at turned.code ks k) u))))
  live_across (across_raise (walks.raises {h = h} x) v) i next e u =
      across_raise (walks.raises (sym (same_raise to exits i.op) ∙ ap (λ (j : Line). may_raise j.op) e ∙ x))
      (live_before v (after_label h m.code) (target_turned [] (At h)))

  frame_was : {j : Line} (i : Line) → redirect to exits i ≡ j → passes_frame j.op ≡ true → passes_frame i.op ≡ true
  frame_was i e frame = sym (same_frame to exits i.op) ∙ ap (λ (j : Line). passes_frame j.op) e ∙ frame

  pub no_addr_turned : NoAddrReached m → NoAddrReached turned
  no_addr_turned h =
      record {
        none = λ j js tries r frame l w.
            let a = source_line r in h.none a.line a.next tries a.reached (frame_was a.line a.is_line frame) l
            (live_across w a.line a.next a.is_line a.is_next);
      }

  pub line_was : (j : Line) (is : List Line) → IsIn j (T is) → (i : Line) × IsIn i is × (redirect to exits i ≡ j)
  line_was j [] z = elim z [ ]
  line_was j (i ∷ is) z = by (redirect to exits i) refl (T is) z (λ u. line_was j is u)
    where
      by : (k : Line) → redirect to exits i ≡ k → (ks : List Line) → IsIn j (k ∷ ks) → (IsIn j ks → (i : Line) × IsIn i is × (redirect to exits i ≡ j)) →
          (x : Line) × IsIn x (i ∷ is) × (redirect to exits x ≡ j)
      by k e ks is_first ih = (i, is_first, e)
      by k e ks (is_later z) ih = let y = ih z in (y.0, is_later y.1, y.2)

  -- ---- runs

  module _ (c : ActivationSetting) where
    abbrev at : List Line → Locations → Around → State
    at is f a = record { rest = is; file = f; around = a }

    -- The first comes to the place of the second by labels and jumps, or to an exit while the second is at one that
    -- was a jump.
    data Rel : State → State → Type 0 where
      rel : {is b js : List Line} {f : Locations} {a : Around} → Reached m is a.tries → Quiet m is b → T b ≡ js → Rel (at is f a) (at js f a)
      rel_leaves : {is js : List Line} {n : ℕ} {args results : List Spot} {f : Locations} {a : Around} → Reached m is a.tries → Leaves m is n →
          values c.setting.end f args ≡ Some [] → Rel (at is f a) (at (record { op = lin.Flow (flow.Exit n); args = args; results = results } ∷ js) f a)

    abbrev Answer : State → Step State → Type 0
    Answer = Answers c m (lossless_line_step c turned) (ValsHeld c turned) SameRound Rel

    abbrev Arrive : Step State → Step State → Type 0
    Arrive = Arrives c m (lossless_line_step c turned) (ValsHeld c turned) SameRound Rel

    module _ (f : LinOp) (args results : List Spot) (next : List Line) (g : Locations) (a : Around) where
      abbrev i : Line
      i = record { op = f; args = args; results = results }

      leads : Reached m (i ∷ next) a.tries → Leads c m (lossless_line_step c turned) (ValsHeld c turned) SameRound Rel turned i next (T next) g g a.tries
      leads reached =
          record {
            on = λ vs t b g' o e u. (
              g',
              u,
              rel (subst (Reached m (code_at m.code next t)) (sym e) (by_step reached (walks.goes t o))) is_there
                  (target_turned next t),
            );
            bare = λ t b n o e. rel (subst (Reached m (code_at m.code next t)) (sym e) (by_step reached (walks.goes t o))) is_there (target_turned next t);
            aside = λ h b raise e. rel (by_raise (subst (Reached m (i ∷ next)) e reached) (walks.raises raise)) is_there (target_turned [] (At h));
          }

      -- where it is not redirected
      same_line : Reached m (i ∷ next) a.tries → (vs : List Value) → Arrive (on_act c m i next g a (lin_act c.setting f vs a))
          (on_act c turned i (T next) g a (lin_act c.setting f vs a))
      same_line reached vs = acts c m (lossless_line_step c turned) (ValsHeld c turned) SameRound Rel turned i next (T next) g g a (leads reached) (lin_act c.setting f vs a)
          (turns c.setting f vs a)

    -- to a label, and to where that leads
    goes_label : (l : ℕ) (a : Around) → Reached m (after_label l m.code) a.tries → (x : Option Locations) → Arrive (wrote (after_label l m.code) a x)
        (wrote (after_label (to l) turned.code) a x)
    goes_label l a r None = first_stuck
    goes_label l a r (Some g) = both_continue (rel r (quiet_to (each l)) (target_turned [] (At (to l))))

    goes_next : (next : List Line) (a : Around) → Reached m next a.tries → (x : Option Locations) → Arrive (wrote next a x) (wrote (T next) a x)
    goes_next next a r None = first_stuck
    goes_next next a r (Some g) = both_continue (rel r is_there refl)

    -- a jump that stays one
    jump_turned : (k : ℕ) (args results : List Spot) (next : List Line) (g : Locations) (a : Around) →
        Reached m (record { op = lin.Flow (flow.Jump k); args = args; results = results } ∷ next) a.tries → (vs : List Value) →
        Arrive (on_act c m (record { op = lin.Flow (flow.Jump k); args = args; results = results }) next g a (lin_act c.setting (lin.Flow (flow.Jump k)) vs a))
        (on_act c turned (record { op = lin.Flow (flow.Jump (to k)); args = args; results = results }) (T next) g a
        (lin_act c.setting (lin.Flow (flow.Jump (to k))) vs a))
    jump_turned k args results next g a r [] = goes_label k a (by_step r (walks.goes (At k) this)) _
    jump_turned k args results next g a r (v ∷ vs) = first_stuck

    abbrev StaysJump : LinOp → Type 0
    StaysJump f = (k : ℕ) → f ≡ lin.Flow (flow.Jump k) → exits k ≡ None

    line_turned : (f : LinOp) (args results : List Spot) (next : List Line) (g : Locations) (a : Around) → StaysJump f → Reached m
        (record { op = f; args = args; results = results } ∷ next) a.tries → (vs : List Value) →
        Arrive (on_act c m (record { op = f; args = args; results = results }) next g a (lin_act c.setting f vs a))
        (on_act c turned (record { op = redirected_operation to exits f; args = args; results = results }) (T next) g a (lin_act c.setting (redirected_operation to exits f) vs a))
    line_turned (lin.Op f) args results next g a jumps r vs = same_line (lin.Op f) args results next g a r vs
    line_turned (lin.Flow (flow.Label k)) args results next g a jumps r vs = same_line (lin.Flow (flow.Label k)) args results next g a r vs
    line_turned (lin.Flow (flow.Jump k)) args results next g a jumps r vs =
        subst (λ o. Arrive
        (on_act c m (record { op = lin.Flow (flow.Jump k); args = args; results = results }) next g a (lin_act c.setting (lin.Flow (flow.Jump k)) vs a))
        (on_act c turned (record { op = lin.Flow (exit_or_jump o (to k)); args = args; results = results }) (T next) g a
        (lin_act c.setting (lin.Flow (exit_or_jump o (to k))) vs a)))
        (sym (jumps k refl)) (jump_turned k args results next g a r vs)
    line_turned (lin.Flow (flow.Exit k)) args results next g a jumps r [] =
        both_pay (rel (by_step r (walks.goes (At k) this)) (quiet_to (each k)) (target_turned [] (At (to k))))
    line_turned (lin.Flow (flow.Exit k)) args results next g a jumps r (v ∷ vs) = first_stuck
    line_turned (lin.Flow (flow.Branch test k)) args results next g a jumps r vs = by (truth_of (sizes a.memory) test vs)
      where
        by : (o : Option Bool) → Arrive
            (on_act c m (record { op = lin.Flow (flow.Branch test k); args = args; results = results }) next g a (goes_by_test a (At k) On o))
            (on_act c turned (record { op = lin.Flow (flow.Branch test (to k)); args = args; results = results }) (T next) g a (goes_by_test a (At (to k)) On o))
        by None = first_stuck
        by (Some true) = goes_label k a (by_step r (walks.goes (At k) (other this))) _
        by (Some false) = goes_next next a (by_step r (walks.goes On this)) _
    line_turned (lin.Flow (flow.Switch ls)) args results next g a jumps r vs = same_line (lin.Flow (flow.Switch ls)) args results next g a r vs
    line_turned (lin.Flow (flow.PushTrap k)) args results next g a jumps r vs = same_line (lin.Flow (flow.PushTrap k)) args results next g a r vs
    line_turned (lin.Flow flow.PopTrap) args results next g a jumps r vs = same_line (lin.Flow flow.PopTrap) args results next g a r vs
    line_turned (lin.Flow flow.EnterTrap) args results next g a jumps r vs = same_line (lin.Flow flow.EnterTrap) args results next g a r vs

    held_back : (i : Line) (next : List Line) (g : Locations) (a : Around) → ValsHeld c m (at (i ∷ next) g a) → ValsHeld c turned
        (at (redirect to exits i ∷ T next) g a)
    held_back i next g a vals =
        record {
          held = λ k ks same frame l w.
              let head : redirect to exits i ≡ k = head_same same in
              let tail : T next ≡ ks = tail_same same in
              vals.held i next refl (frame_was i head frame) l (live_across w i next head tail);
        }

    abbrev exit_line : ℕ → List Spot → List Spot → Line
    exit_line n args results = record { op = lin.Flow (flow.Exit n); args = args; results = results }

    abbrev jump_line : ℕ → List Spot → List Spot → Line
    jump_line k args results = record { op = lin.Flow (flow.Jump k); args = args; results = results }

    passes_none : (i k : Line) (is ks : List Line) → i ∷ is ≡ k ∷ ks → passes_frame i.op ≡ false → passes_frame k.op ≡ true → ⊥
    passes_none i k is ks e none frame = true≢false (sym frame ∙ ap (λ (j : Line). passes_frame j.op) (sym (head_same e)) ∙ none)

    exit_held : (n : ℕ) (args results : List Spot) (js : List Line) (g : Locations) (a : Around) → ValsHeld c turned (at (exit_line n args results ∷ js) g a)
    exit_held n args results js g a =
        record { held = λ k ks same frame l w. absurd (passes_none (exit_line n args results) k js ks same refl frame) }

    -- a jump that became an exit waits for the first to come to its own
    jump_waits : (k n : ℕ) → exits k ≡ Some n → (args results : List Spot) (next : List Line) (g : Locations) (a : Around) →
        Reached m (jump_line k args results ∷ next) a.tries →
        Answer (at (exit_line n args results ∷ T next) g a) (lossless_line_step c m (at (jump_line k args results ∷ next) g a))
    jump_waits k n e args results next g a r = by (values c.setting.end g args) refl
      where
        by : (o : Option (List Value)) → values c.setting.end g args ≡ o → Answer (at (exit_line n args results ∷ T next) g a)
            (kept.on_lossless_line_values c m (jump_line k args results) next g a o)
        by None u = stuck
        by (Some (v ∷ vs)) u = stuck
        by (Some []) u = wrote_by results
          where
            wrote_by : (rs : List Spot) → Answer (at (exit_line n args results ∷ T next) g a)
                (wrote (after_label k m.code) a (put_all c.setting.end rs [] (clear_destroyed (destroyed_by (lin.Flow (flow.Jump k))) g)))
            wrote_by [] = stays (rel_leaves (by_step r (walks.goes (At k) this)) (leaves_to (out k n e)) u)
            wrote_by (s ∷ ss) = stuck

    -- whether a line is a jump that becomes an exit
    data Becomes (f : LinOp) : Type 0 where
      an_exit : {k n : ℕ} → f ≡ lin.Flow (flow.Jump k) → exits k ≡ Some n → Becomes f
      its_like : StaysJump f → Becomes f

    other_flow : {f : LinOp} → is_jump f ≡ false → StaysJump f
    other_flow none k e = absurd (true≢false (sym (ap is_jump e) ∙ none))

    becomes : (f : LinOp) → Becomes f
    becomes (lin.Flow (flow.Jump k)) = by (exits k) refl
      where
        by : (o : Option ℕ) → exits k ≡ o → Becomes (lin.Flow (flow.Jump k))
        by (Some n) e = an_exit refl e
        by None e = its_like (λ l same. ap exits (jump_label l k same) ∙ e)
    becomes (lin.Op f) = its_like (other_flow refl)
    becomes (lin.Flow (flow.Label k)) = its_like (other_flow refl)
    becomes (lin.Flow (flow.Exit k)) = its_like (other_flow refl)
    becomes (lin.Flow (flow.Branch t k)) = its_like (other_flow refl)
    becomes (lin.Flow (flow.Switch ls)) = its_like (other_flow refl)
    becomes (lin.Flow (flow.PushTrap k)) = its_like (other_flow refl)
    becomes (lin.Flow flow.PopTrap) = its_like (other_flow refl)
    becomes (lin.Flow flow.EnterTrap) = its_like (other_flow refl)

    turned_line : (i : Line) (next : List Line) (g : Locations) (a : Around) → Reached m (i ∷ next) a.tries → ValsHeld c m (at (i ∷ next) g a) → Answer
        (at (redirect to exits i ∷ T next) g a) (lossless_line_step c m (at (i ∷ next) g a))
    turned_line i next g a r vals = by (becomes i.op)
      where
        on_values : StaysJump i.op → (o : Option (List Value)) → Arrive (kept.on_lossless_line_values c m i next g a o)
            (kept.on_lossless_line_values c turned (redirect to exits i) (T next) g a o)
        on_values jumps None = first_stuck
        on_values jumps (Some vs) = line_turned i.op i.args i.results next g a jumps r vs

        by : Becomes i.op → Answer (at (redirect to exits i ∷ T next) g a) (lossless_line_step c m (at (i ∷ next) g a))
        by (an_exit {k = k} {n = n} e u) =
            subst (λ f. Reached m (record { op = f; args = i.args; results = i.results } ∷ next) a.tries →
            Answer (at (record { op = redirected_operation to exits f; args = i.args; results = i.results } ∷ T next) g a)
            (lossless_line_step c m (at (record { op = f; args = i.args; results = i.results } ∷ next) g a))) (sym e)
            (subst (λ o. Reached m (record { op = lin.Flow (flow.Jump k); args = i.args; results = i.results } ∷ next) a.tries →
            Answer (at (record { op = lin.Flow (exit_or_jump o (to k)); args = i.args; results = i.results } ∷ T next) g a)
            (lossless_line_step c m (at (record { op = lin.Flow (flow.Jump k); args = i.args; results = i.results } ∷ next) g a))) (sym u)
            (jump_waits k n u i.args i.results next g a)) r
        by (its_like jumps) = steps (held_back i next g a vals) (on_values jumps (values c.setting.end g i.args))

    closed : Closed c m (lossless_line_step c turned) (ValsHeld c turned) SameRound Rel
    closed = record { around = λ s u r. around_same s u r; next = λ s u r vals. next_same s u r vals }
      where
        around_same : (s u : State) → Rel s u → s.around ≡ u.around
        around_same s u (rel r q e) = refl
        around_same s u (rel_leaves r l e) = refl

        from_code : (is : List Line) (g : Locations) (a : Around) → Reached m is a.tries → ValsHeld c m (at is g a) → Answer (at (T is) g a)
            (lossless_line_step c m (at is g a))
        from_code [] g a r vals = stuck
        from_code (i ∷ next) g a r vals = turned_line i next g a r vals

        by : {is b : List Line} (js : List Line) (g : Locations) (a : Around) → Reached m is a.tries → Quiet m is b → T b ≡ js → ValsHeld c m (at is g a) →
            Answer (at js g a) (lossless_line_step c m (at is g a))
        by {is} js g a r is_there e vals = subst (λ ks. Answer (at ks g a) (lossless_line_step c m (at is g a))) e (from_code is g a r vals)
        by js g a r (by_label p) e vals = stays (rel (by_step r (walks.goes On this)) p e)
        by js g a r (by_jump {l = k} p) e vals = stays (rel (by_step r (walks.goes (At k) this)) p e)

        -- both count the unit at the exit, whether the second has it for an exit or for a jump
        at_exit : {is next : List Line} {l : ℕ} (n : ℕ) (args results : List Spot) (js : List Line) (g : Locations) (a : Around) → Reached m is a.tries →
            Quiet m is (bare_flow (flow.Exit l) ∷ next) → Quiet m (after_label l m.code) (after_label n m.code) → values c.setting.end g args ≡ Some [] →
            Answer (at (exit_line n args results ∷ js) g a) (lossless_line_step c m (at is g a))
        at_exit {l = l} n args results js g a r is_there q e =
            steps (exit_held n args results js g a)
            (subst (λ o. Arrive (Pays (at (after_label l m.code) g a)) (kept.on_lossless_line_values c turned (exit_line n args results) js g a o)) (sym e)
            (both_pay (rel (by_step r (walks.goes (At l) this)) q (target_turned [] (At n)))))
        at_exit n args results js g a r (by_label p) q e = stays (rel_leaves (by_step r (walks.goes On this)) (leaves p q) e)
        at_exit n args results js g a r (by_jump {l = k} p) q e = stays (rel_leaves (by_step r (walks.goes (At k) this)) (leaves p q) e)

        next_same : (s u : State) → Rel s u → ValsHeld c m s → Answer u (lossless_line_step c m s)
        next_same s u (rel {js = js} {f = f} {a = a} r q e) vals = by js f a r q e vals
        next_same s u (rel_leaves {js = js} {n = n} {args = args} {results = results} {f = f} {a = a} r (leaves p q) e) vals = at_exit n args results js f a r p q e

    turned_begins : (arguments : List Value) (memory : Memory) (doings : List Doing) (s : State) → linear_start c m arguments memory ≡ Some s →
        TidyBegins SameRound c m turned arguments memory doings s
    turned_begins = begins_alike c m turned refl SameRound Rel closed (λ f memory. rel at_entry is_there refl)

  not_op : (f : Flow) (g : Op) → lin.Flow f ≡ lin.Op g → ⊥
  not_op f g e = cc

  pub op_was : (f : LinOp) (g : Op) → redirected_operation to exits f ≡ lin.Op g → f ≡ lin.Op g
  op_was (lin.Op f) g e = e
  op_was (lin.Flow (flow.Label k)) g e = absurd (not_op _ g e)
  op_was (lin.Flow (flow.Jump k)) g e = absurd (not_op (exit_or_jump (exits k) (to k)) g e)
  op_was (lin.Flow (flow.Exit k)) g e = absurd (not_op _ g e)
  op_was (lin.Flow (flow.Branch t k)) g e = absurd (not_op _ g e)
  op_was (lin.Flow (flow.Switch ls)) g e = absurd (not_op _ g e)
  op_was (lin.Flow (flow.PushTrap k)) g e = absurd (not_op _ g e)
  op_was (lin.Flow flow.PopTrap) g e = absurd (not_op _ g e)
  op_was (lin.Flow flow.EnterTrap) g e = absurd (not_op _ g e)

  named_before : (Named : MachOp → Type 0) → IsNamedIn Named turned → IsNamedIn Named m
  named_before Named n =
      let y = line_was n.line m.code (in_of n.line turned.code n.among) in
      record {
        line = y.0;
        among = contains_of y.1;
        op = n.op;
        is = op_was y.0.op n.op (ap (λ (j : Line). j.op) y.2 ∙ n.is);
        named = n.named;
      }

  turned_keeps : KeepsLin SameRound m turned
  turned_keeps =
      record {
        name = refl;
        result = refl;
        does = λ c arguments memory doings s e. turned_begins c arguments memory doings s e;
        symbols = λ name n. named_before _ n;
        externals = λ row n. named_before _ n;
        addrs = no_addr_turned;
      }

-- Redirected, a function does what it did.
pub redirecting_keeps : {m r : Lin} → RedirectsTargets m r → KeepsLin SameRound m r
redirecting_keeps {m} h = subst (KeepsLin SameRound m) (sym h.is) (turned_keeps m h.to h.exits h.each h.out)
