use Rattle.std.proofs.Common.{◌≡◌, inl, inr, refl, subst, sym, ap, ◌∙◌, [], ◌∷◌, length, vec_len, arith}
use Rattle.cmm_tree.specs.declared.expr.Form.{Form}
use Rattle.cmm_meaning.specs.Evaluation.{Raises, back, with_bound}
use Rattle.eval_frames.specs.Views.{here_view, world_view}
use Rattle.eval_frames.specs.Filled.{does, resume, evaluated_expression, evaluated_handler}
use Rattle.eval_frames.specs.declared.frame.Step.{Step}
use Rattle.eval_frames.specs.declared.frame.Step.TheVariants as step
use Rattle.eval_frames.specs.declared.here.Here as here
use Rattle.eval_frames.specs.declared.world.World as world
use Rattle.cmm_eval.proofs.Ended.{bounds_count, raised, raise_passes, try_handles}
use Rattle.cmm_eval.proofs.machine.Machine.raise.Goals as goal

pub returns-in-Try-form-clause-meaning : goal.returns-in-Try-form-clause-meaning
returns-in-Try-form-clause-meaning c s =
    let m = c.args.self.now in
    let form = c.args.frame.form in
    let tail = c.args.frame.tail in
    let v = c.args.value in
    let h = here_view m.here in
    let w = world_view m.world in
    let back_here = here_view c.back_in.new.self in
    let name = c.in-Try-form.name in
    let count : vec_len c.back_in.new.self.names ≡ length c.back_in.new.self.names.items = omega (arith, c.back_in.new.self.names.ok.0) in
    let p = c.in_ok-push-in-Try-form.ensures in
    ap (λ (w : world.World). resume s c.push.new.self.frames.items (evaluated_expression s c.deref.result.now tail (here_view c.bind.new.self) (world_view w))) p.world
    ∙ try_handles s m.frames.items c.push.new.self.frames.items form tail c.in-Try.level c.in-Try.tries c.len-level.result v h back_here (here_view c.bind.new.self) w
    name c.in-Try-form.handler.value c.deref.result.now p.frames c.back_in.ensures (c.len-level.ensures ∙ count ∙ bounds_count c.back_in.new.self.names.items)
    (c.in_ok-bind-in-Try-form.ensures ∙ ap (λ (i : here.Here). with_bound (raised name ∷ []) (v ∷ []) (here_view i)) p.here) c.deref.ensures
    (λ h w. subst (λ (f : Form). evaluated_handler s f tail v h w ≡ back (length h.names) h.tries (evaluated_expression s c.in-Try-form.handler.value tail (with_bound (raised name ∷ []) (v ∷ []) h) w))
    (sym c.in-Try-form.is) refl)
    ∙ ap (λ (st : Step). resume s m.frames.items (does s st form.now tail (Raises v h w))) (sym c.in-Try.is)

-- the steps that a raise goes through
abbrev IsPassed : Step → Type 0
IsPassed (step.Typed type) = Unit {0}
IsPassed (step.Scope level tries) = Unit {0}
IsPassed step.Operand = Unit {0}
IsPassed (step.First left_first) = Unit {0}
IsPassed (step.Second first left_first) = Unit {0}
IsPassed (step.Elements rest) = Unit {0}
IsPassed (step.Bindings bindings) = Unit {0}
IsPassed (step.Bound level tries) = Unit {0}
IsPassed (step.Waiting rest values) = Unit {0}
IsPassed (step.Callee waited) = Unit {0}
IsPassed (step.Filling callee row) = Unit {0}
IsPassed (step.LateCallee values) = Unit {0}
IsPassed (step.Catch within turns level tries) = Unit {0}
IsPassed (step.Try level tries) = ⊥
IsPassed (step.Return here tests) = ⊥

pub returns-clause-meaning : goal.returns-clause-meaning
returns-clause-meaning c s =
    let m = c.args.self.now in
    let passed : IsPassed c.args.frame.step =
    elim c.in-Typed.is [
      | inl (a, e) ↦ subst IsPassed (sym e) tt
      | inr (inl (a, b, e)) ↦ subst IsPassed (sym e) tt
      | inr (inr (inl e)) ↦ subst IsPassed (sym e) tt
      | inr (inr (inr (inl (a, e)))) ↦ subst IsPassed (sym e) tt
      | inr (inr (inr (inr (inl (a, b, e))))) ↦ subst IsPassed (sym e) tt
      | inr (inr (inr (inr (inr (inl (a, e)))))) ↦ subst IsPassed (sym e) tt
      | inr (inr (inr (inr (inr (inr (inl (a, e))))))) ↦ subst IsPassed (sym e) tt
      | inr (inr (inr (inr (inr (inr (inr (inl (a, b, e)))))))) ↦ subst IsPassed (sym e) tt
      | inr (inr (inr (inr (inr (inr (inr (inr (inl (a, b, e))))))))) ↦ subst IsPassed (sym e) tt
      | inr (inr (inr (inr (inr (inr (inr (inr (inr (inl (a, e)))))))))) ↦ subst IsPassed (sym e) tt
      | inr (inr (inr (inr (inr (inr (inr (inr (inr (inr (inl (a, b, e))))))))))) ↦ subst IsPassed (sym e) tt
      | inr (inr (inr (inr (inr (inr (inr (inr (inr (inr (inr (inl (a, e)))))))))))) ↦ subst IsPassed (sym e) tt
      | inr (inr (inr (inr (inr (inr (inr (inr (inr (inr (inr (inr (a, b, x, y, e)))))))))))) ↦ subst IsPassed (sym e) tt
    ] in
    ap (resume s m.frames.items)
    (sym (raise_passes s c.args.frame.step c.args.frame.form.now c.args.frame.tail c.args.value (here_view m.here) (world_view m.world)
    (λ level tries e. subst IsPassed e passed) (λ here tests e. subst IsPassed e passed)))
