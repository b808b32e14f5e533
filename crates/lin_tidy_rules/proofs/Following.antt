-- Jumps followed to where they lead.
use Rattle.std.proofs.Common.{◌≡◌, ℕ, zero, suc, Bool, true, false, cond, List, [], ◌∷◌, length, Option, Some, None, refl, sym, ap, subst}
use Rattle.std.proofs.lemmas.Bool.{true≢false}
use Rattle.std.specs.Option.{unwrap_or, option_map}
use Rattle.std.proofs.lemmas.Option.{none-some, same_Some}
use Rattle.lin_ir.specs.Formed.{bare_flow}
use Rattle.lin_ir.specs.Meaning.{after_label}
use Rattle.lin_ir.specs.declared.lin.Flow.{Flow}
use Rattle.lin_ir.specs.declared.lin.Flow.TheVariants as flow
use Rattle.lin_ir.specs.declared.lin.LinOp.{LinOp}
use Rattle.lin_ir.specs.declared.lin.LinOp.TheVariants as lin
use Rattle.lin_ir.specs.declared.lin.Line.{Line}
use Rattle.lin_ir.specs.declared.lin.Lin.{Lin}
use Rattle.lin_ir.specs.declared.lin.Spot.{Spot}
use Rattle.lin_tidy_rules.specs.Leaving.{LabelsBetween, none_between, label_between, LeavesOften, not_once, once_more}
use Rattle.lin_tidy_rules.specs.Redirecting.{is_label_line, jumps_to, exits_to, first_goes, leads_to, leaves_to, next_label, followed, final_label, last_exit, redirected_all, GoesOnTo, itself, and_on, ExitsTo, by_exit, RedirectsTargets, Tidies, as_it_is, then_leaves, then_redirects, then_turns}
use Rattle.lin_tidy_rules.specs.Regular.{IsRegular}
use Rattle.lin_tidy_rules.specs.Tidied.{IsTidied}
use Rattle.lin_tidy_rules.proofs.Tidied.{redirecting_regular}
use Rattle.lin_tidy_rules.proofs.TurningAll.{turns_all}

abbrev pub line : LinOp → List Spot → List Spot → Line
line f args results = record { op = f; args = args; results = results }

-- ---- lines

pub label_is : (f : LinOp) (args results : List Spot) → is_label_line f args results ≡ true → (l : ℕ) × (line f args results ≡ bare_flow (flow.Label l))
label_is (lin.Flow (flow.Label l)) [] [] e = (l, refl)
label_is (lin.Flow (flow.Label l)) [] (s ∷ ss) e = absurd (true≢false (sym e))
label_is (lin.Flow (flow.Label l)) (s ∷ ss) results e = absurd (true≢false (sym e))
label_is (lin.Flow (flow.Jump l)) args results e = absurd (true≢false (sym e))
label_is (lin.Flow (flow.Exit l)) args results e = absurd (true≢false (sym e))
label_is (lin.Flow (flow.Branch t l)) args results e = absurd (true≢false (sym e))
label_is (lin.Flow (flow.Switch ls)) args results e = absurd (true≢false (sym e))
label_is (lin.Flow (flow.PushTrap l)) args results e = absurd (true≢false (sym e))
label_is (lin.Flow flow.PopTrap) args results e = absurd (true≢false (sym e))
label_is (lin.Flow flow.EnterTrap) args results e = absurd (true≢false (sym e))
label_is (lin.Op f) args results e = absurd (true≢false (sym e))

pub jump_is : (l : ℕ) (f : LinOp) (args results : List Spot) → jumps_to f args results ≡ Some l → line f args results ≡ bare_flow (flow.Jump l)
jump_is l (lin.Flow (flow.Jump k)) [] [] e = ap (λ k. bare_flow (flow.Jump k)) (same_Some k l e)
jump_is l (lin.Flow (flow.Jump k)) [] (s ∷ ss) e = absurd (none-some l e)
jump_is l (lin.Flow (flow.Jump k)) (s ∷ ss) results e = absurd (none-some l e)
jump_is l (lin.Flow (flow.Label k)) args results e = absurd (none-some l e)
jump_is l (lin.Flow (flow.Exit k)) args results e = absurd (none-some l e)
jump_is l (lin.Flow (flow.Branch t k)) args results e = absurd (none-some l e)
jump_is l (lin.Flow (flow.Switch ls)) args results e = absurd (none-some l e)
jump_is l (lin.Flow (flow.PushTrap k)) args results e = absurd (none-some l e)
jump_is l (lin.Flow flow.PopTrap) args results e = absurd (none-some l e)
jump_is l (lin.Flow flow.EnterTrap) args results e = absurd (none-some l e)
jump_is l (lin.Op f) args results e = absurd (none-some l e)

pub exit_is : (l : ℕ) (f : LinOp) (args results : List Spot) → exits_to f args results ≡ Some l → line f args results ≡ bare_flow (flow.Exit l)
exit_is l (lin.Flow (flow.Exit k)) [] [] e = ap (λ k. bare_flow (flow.Exit k)) (same_Some k l e)
exit_is l (lin.Flow (flow.Exit k)) [] (s ∷ ss) e = absurd (none-some l e)
exit_is l (lin.Flow (flow.Exit k)) (s ∷ ss) results e = absurd (none-some l e)
exit_is l (lin.Flow (flow.Label k)) args results e = absurd (none-some l e)
exit_is l (lin.Flow (flow.Jump k)) args results e = absurd (none-some l e)
exit_is l (lin.Flow (flow.Branch t k)) args results e = absurd (none-some l e)
exit_is l (lin.Flow (flow.Switch ls)) args results e = absurd (none-some l e)
exit_is l (lin.Flow (flow.PushTrap k)) args results e = absurd (none-some l e)
exit_is l (lin.Flow flow.PopTrap) args results e = absurd (none-some l e)
exit_is l (lin.Flow flow.EnterTrap) args results e = absurd (none-some l e)
exit_is l (lin.Op f) args results e = absurd (none-some l e)

-- ---- code

-- only labels are before the line
record StandsAt (code : List Line) (f : Flow) : Type 0 where
  next : List Line
  between : LabelsBetween code (bare_flow f ∷ next)

-- what is said of the first line that is no label is said of a jump, or of an exit
module _ (told : LinOp → (args results : List Spot) → Option ℕ) (goes : ℕ → Flow) (is : (l : ℕ) (f : LinOp) (args results : List Spot) → told f args results ≡ Some l → line f args results ≡ bare_flow (goes l)) where
  stands_at : (code : List Line) (l : ℕ) → first_goes told code ≡ Some l → StandsAt code (goes l)
  stands_at [] l e = absurd (none-some l e)
  stands_at (i ∷ next) l e = by (is_label_line i.op i.args i.results) refl e (stands_at next l)
    where
      by : (b : Bool) → is_label_line i.op i.args i.results ≡ b → cond b (first_goes told next) (told i.op i.args i.results) ≡ Some l →
          (first_goes told next ≡ Some l → StandsAt next (goes l)) → StandsAt (i ∷ next) (goes l)
      by true s e ih =
          let y = ih e in
          let label = label_is i.op i.args i.results s in
          record { next = y.next; between = subst (λ i. LabelsBetween (i ∷ next) (bare_flow (goes l) ∷ y.next)) (sym label.1) (label_between y.between) }
      by false s e ih =
          record { next = next; between = subst (λ i. LabelsBetween (i ∷ next) (bare_flow (goes l) ∷ next)) (sym (is l i.op i.args i.results e)) none_between }

module _ (m : Lin) where
  on_next : {k l : ℕ} → GoesOnTo m k l → GoesOnTo m k (next_label m l)
  on_next {k} {l} g = by (leads_to (after_label l m.code)) refl
    where
      by : (o : Option ℕ) → leads_to (after_label l m.code) ≡ o → GoesOnTo m k (unwrap_or o l)
      by None e = g
      by (Some n) e = and_on g (stands_at jumps_to flow.Jump jump_is (after_label l m.code) n e).between

  on_often : (n : ℕ) {k l : ℕ} → GoesOnTo m k l → GoesOnTo m k (followed m n l)
  on_often zero g = g
  on_often (suc n) g = on_often n (on_next g)

  pub goes_last : (l : ℕ) → GoesOnTo m l (final_label m l)
  goes_last l = on_often (length m.code) itself

  pub goes_out : (l n : ℕ) → last_exit m l ≡ Some n → ExitsTo m l n
  goes_out l n e = by (leaves_to (after_label (final_label m l) m.code)) refl e
    where
      by : (o : Option ℕ) → leaves_to (after_label (final_label m l) m.code) ≡ o → option_map (final_label m) o ≡ Some n → ExitsTo m l n
      by None u e = absurd (none-some n e)
      by (Some k) u e =
          by_exit (goes_last l) (stands_at exits_to flow.Exit exit_is (after_label (final_label m l) m.code) k u).between
          (subst (GoesOnTo m k) (same_Some (final_label m k) n e) (goes_last k))

  -- the jumps of a function may all go at once where others lead
  pub redirects_all : RedirectsTargets m (redirected_all m)
  redirects_all = record { to = final_label m; exits = last_exit m; is = refl; each = goes_last; out = goes_out }

often_tidies : {m q r : Lin} → Tidies m q → LeavesOften q r → Tidies m r
often_tidies h not_once = h
often_tidies h (once_more p k) = then_leaves (often_tidies h p) k

-- a function is made tidy by changes that are allowed
pub tidied_tidies : {m r : Lin} → IsRegular m → IsTidied m r → Tidies m r
tidied_tidies {m} regular h =
    let jumps : RedirectsTargets m (redirected_all m) = redirects_all m in
    often_tidies (then_turns (then_redirects as_it_is jumps) (turns_all (redirecting_regular jumps regular).well)) h.leaves
