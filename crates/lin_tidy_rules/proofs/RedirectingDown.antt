-- Control still goes down where jumps go at once where others lead, by the same order.
use Rattle.std.proofs.Common.{◌≡◌, ℕ, suc, ◌<◌, ◌≤◌, true, false, Option, Some, None, List, [], ◌∷◌, length, refl, sym, ap, ◌∙◌, subst, arith}
use Rattle.std.proofs.lemmas.Bool.{true≢false}
use Rattle.mach_ir.specs.Acts.{Target, On, At}
use Rattle.mach_ir.specs.Walks.{OneOf, this, other}
use Rattle.lin_ir.specs.Formed.{is_exit, is_label, GoesDown, bare_flow}
use Rattle.lin_ir.specs.Meaning.{after_label, code_at}
use Rattle.lin_ir.specs.Walks as walks
use Rattle.lin_ir.specs.Walks.{targets, may_raise, Reached, LineWalkStep, Raises, by_step}
use Rattle.lin_ir.specs.declared.lin.Flow.TheVariants as flow
use Rattle.lin_ir.specs.declared.lin.LinOp.{LinOp}
use Rattle.lin_ir.specs.declared.lin.LinOp.TheVariants as lin
use Rattle.lin_ir.specs.declared.lin.Line.{Line}
use Rattle.lin_ir.specs.declared.lin.Lin.{Lin}
use Rattle.lin_tidy_rules.specs.Redirecting.{exit_or_jump, redirected_operation, GoesOnTo, ExitsTo}
use Rattle.lin_tidy_rules.proofs.Redirecting.{Quiet, is_there, by_label, by_jump, quiet_to, T, turned, target_turned, source_line, exit_was, same_raise, same_said}

same_mark : (to : ℕ → ℕ) (exits : ℕ → Option ℕ) (f : LinOp) → is_label (redirected_operation to exits f) ≡ is_label f
same_mark = same_said is_label (record { jump = λ l. refl; exit = λ l. refl; branch = λ test k l. refl })

module _ (m : Lin) (to : ℕ → ℕ) (exits : ℕ → Option ℕ) (each : (l : ℕ) → GoesOnTo m l (to l)) (out : (l n : ℕ) → exits l ≡ Some n → ExitsTo m l n)
    (down : GoesDown m) where
  abbrev L : List Line → List Line
  L = T m to exits each out

  abbrev R : Lin
  R = turned m to exits each out

  same_length : (is : List Line) → length (L is) ≡ length is
  same_length [] = refl
  same_length (i ∷ is) = ap suc (same_length is)

  -- labels and jumps do not raise the order
  quiet_low : {a b : List Line} {tries : List ℕ} → Quiet m a b → Reached m a tries → down.order (length b) ≤ down.order (length a)
  quiet_low is_there r = omega arith
  quiet_low {tries = tries} (by_label {l = l} {next = next} q) r =
      let weak = down.labels (bare_flow (flow.Label l)) next tries r refl in
      let le = quiet_low q (by_step r (walks.goes On this)) in
      omega (arith, weak, le)
  quiet_low {tries = tries} (by_jump {l = l} {next = next} q) r =
      let lower = down.steps (bare_flow (flow.Jump l)) next (after_label l m.code) tries tries r refl refl (walks.goes (At l) this) in
      let le = quiet_low q (by_step r (walks.goes (At l) this)) in
      omega (arith, lower, le)

  -- where a line that is no exit goes, the line that was redirected goes too, and on by labels and jumps
  record Was (f : LinOp) (next : List Line) (t : Target) : Type 0 where
    target : Target
    among : OneOf target (targets f)
    code : List Line
    quiet : Quiet m (code_at m.code next target) code
    same : L code ≡ code_at R.code (L next) t

  as_before : (f : LinOp) (next : List Line) (t : Target) → OneOf t (targets f) → Was f next t
  as_before f next t o = record {
    target = t;
    among = o;
    code = code_at m.code next t;
    quiet = is_there;
    same = target_turned m to exits each out next t;
  }

  further : {f : LinOp} (next : List Line) (l : ℕ) → OneOf (At l) (targets f) → Was f next (At (to l))
  further next l o = record {
    target = At l;
    among = o;
    code = after_label (to l) m.code;
    quiet = quiet_to (each l);
    same = target_turned m to exits each out next (At (to l));
  }

  was : (f : LinOp) (next : List Line) (t : Target) → is_exit (redirected_operation to exits f) ≡ false → OneOf t (targets (redirected_operation to exits f)) → Was f next t
  was (lin.Op f) next t e o = as_before (lin.Op f) next t o
  was (lin.Flow (flow.Label k)) next t e o = as_before (lin.Flow (flow.Label k)) next t o
  was (lin.Flow (flow.Jump k)) next t e o = by (exits k) t e o
    where
      by : (x : Option ℕ) (t : Target) → is_exit (lin.Flow (exit_or_jump x (to k))) ≡ false → OneOf t (targets (lin.Flow (exit_or_jump x (to k)))) →
          Was (lin.Flow (flow.Jump k)) next t
      by None t e this = further next k this
      by None t e (other o) = elim o [ ]
      by (Some n) t e o = absurd (true≢false e)
  was (lin.Flow (flow.Exit k)) next t e o = absurd (true≢false e)
  was (lin.Flow (flow.Branch test k)) next t e this = as_before (lin.Flow (flow.Branch test k)) next On this
  was (lin.Flow (flow.Branch test k)) next t e (other this) = further next k (other this)
  was (lin.Flow (flow.Branch test k)) next t e (other (other o)) = elim o [ ]
  was (lin.Flow (flow.Switch ls)) next t e o = as_before (lin.Flow (flow.Switch ls)) next t o
  was (lin.Flow (flow.PushTrap k)) next t e o = as_before (lin.Flow (flow.PushTrap k)) next t o
  was (lin.Flow flow.PopTrap) next t e o = as_before (lin.Flow flow.PopTrap) next t o
  was (lin.Flow flow.EnterTrap) next t e o = as_before (lin.Flow flow.EnterTrap) next t o

  pub down_turned : GoesDown R
  down_turned = record {
    order = down.order;
    labels = λ j js tries r e.
        let x = source_line m to exits each out r in
        let weak = down.labels x.line x.next tries x.reached (sym (same_mark to exits x.line.op) ∙ ap (λ (j : Line). is_label j.op) x.is_line ∙ e) in
        let n : length js ≡ length x.next = sym (ap length x.is_next) ∙ same_length x.next in
        subst (λ n. down.order n ≤ down.order (suc n)) (sym n) weak;
    steps = λ j js to' tries left r inside mark leads. step j js to' tries left r inside mark leads;
    raises = λ j js to' tries left r leads. raise j js to' tries left r leads;
  }
    where
      step : (j : Line) (js to' : List Line) (tries left : List ℕ) → Reached R (j ∷ js) tries → is_exit j.op ≡ false → is_label j.op ≡ false →
          LineWalkStep R j js tries to' left → down.order (length to') < down.order (suc (length js))
      step j js _ tries _ r inside mark (walks.goes t o) =
          let x = source_line m to exits each out r in
          let e : is_exit (redirected_operation to exits x.line.op) ≡ false = ap (λ (j : Line). is_exit j.op) x.is_line ∙ inside in
          let w = was x.line.op x.next t e (subst (λ (j : Line). OneOf t (targets j.op)) (sym x.is_line) o) in
          let lower = down.steps x.line x.next (code_at m.code x.next w.target) tries (walks.tries_after x.line.op tries) x.reached
          (exit_was to exits x.line.op e) (sym (same_mark to exits x.line.op) ∙ ap (λ (j : Line). is_label j.op) x.is_line ∙ mark) (walks.goes w.target w.among) in
          let le = quiet_low w.quiet (by_step x.reached (walks.goes w.target w.among)) in
          let n : length js ≡ length x.next = sym (ap length x.is_next) ∙ same_length x.next in
          let k : length (code_at R.code js t) ≡ length w.code = ap (λ ks. length (code_at R.code ks t)) (sym x.is_next) ∙ sym (ap length w.same)
          ∙ same_length w.code in
          subst (λ n. down.order (length (code_at R.code js t)) < down.order (suc n)) (sym n)
          (subst (λ k. down.order k < down.order (suc (length x.next))) (sym k) (omega (arith, lower, le)))

      raise : (j : Line) (js to' : List Line) (tries left : List ℕ) → Reached R (j ∷ js) tries → Raises R j tries to' left →
          down.order (length to') < down.order (suc (length js))
      raise j js _ _ _ r (walks.raises {h = h} {tries = tries} e) =
          let x = source_line m to exits each out r in
          let lower = down.raises x.line x.next (after_label h m.code) (h ∷ tries) tries x.reached
          (walks.raises (sym (same_raise to exits x.line.op) ∙ ap (λ (j : Line). may_raise j.op) x.is_line ∙ e)) in
          let n : length js ≡ length x.next = sym (ap length x.is_next) ∙ same_length x.next in
          let k : length (after_label h R.code) ≡ length (after_label h m.code) = sym (ap length (target_turned m to exits each out [] (At h)))
          ∙ same_length (after_label h m.code) in
          subst (λ n. down.order (length (after_label h R.code)) < down.order (suc n)) (sym n)
          (subst (λ k. down.order k < down.order (suc (length x.next))) (sym k) lower)
