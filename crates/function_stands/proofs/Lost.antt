-- Where a handler is entered and after a call every register is lost.
use Rattle.std.proofs.Common.{◌≡◌, ℕ, true, inr, List, [], ◌∷◌, refl, sym, ap, ◌∙◌, subst}
use Rattle.std.specs.List.{Contains}
use Rattle.std.proofs.lemmas.Bool.{true≢false}
use Rattle.bs_words.specs.declared.types.Comp.{Comp}
use Rattle.bs_words.specs.declared.types.Loc.{Loc}
use Rattle.bs_words.specs.declared.types.Loc.TheVariants as loc
use Rattle.bs_words.specs.declared.types.Ret.{Ret}
use Rattle.lin_ir.specs.Formed.{IsFormedLine, formed_op, formed_flow, enter_form, FlowHasForm, label_form, jump_form, exit_form, branch_form, switch_form, push_form, pop_form, WellFormed, comps}
use Rattle.lin_ir.specs.Meaning.{destroyed_by}
use Rattle.lin_ir.specs.Walks.{Raises, raises, Live, read, on, aside, LiveAcross, across_step, across_raise, Reached, Traps, by_walk, unreached, may_raise}
use Rattle.lin_ir.specs.declared.lin.Flow.{Flow}
use Rattle.lin_ir.specs.declared.lin.Flow.TheVariants as flow
use Rattle.lin_ir.specs.declared.lin.Line.{Line}
use Rattle.lin_ir.specs.declared.lin.Lin.{Lin}
use Rattle.lin_ir.specs.declared.lin.LinOp.TheVariants as lin
use Rattle.linearise_rules.proofs.Homes.{IsIn, in_of, is_first}
use Rattle.linearise_rules.proofs.Marks.{all_in}
use Rattle.linearise_rules.proofs.Walked.{Tail, tail_in, tail_label}
use Rattle.mach_ir.specs.Meaning.{Everything, is_destroyed}
use Rattle.mach_ir.specs.declared.op.Callee.{Callee}
use Rattle.mach_ir.specs.declared.op.Calling.TheVariants as calling
use Rattle.mach_ir.specs.declared.op.Op.TheVariants as op
use Rattle.lin_laws.proofs.Forms.{no_spots}
use Rattle.lin_tidy_rules.proofs.TurningShape.{same_flow}
use Rattle.function_stands.proofs.Handlers.{pushed, pushed_enters}

-- the entry of a handler reads nothing
enters_comps : (f : Flow) (args results : List Comp) → FlowHasForm f args results → f ≡ flow.EnterTrap → args ≡ []
enters_comps f args results (branch_form h) e = cc
enters_comps f args results switch_form e = cc
enters_comps f args results label_form e = refl
enters_comps f args results jump_form e = refl
enters_comps f args results exit_form e = refl
enters_comps f args results push_form e = refl
enters_comps f args results pop_form e = refl
enters_comps f args results enter_form e = refl

enters_alone : (i : Line) → IsFormedLine i → i.op ≡ lin.Flow flow.EnterTrap → i.args ≡ []
enters_alone i (formed_op h) e = cc
enters_alone i (formed_flow {f} {args} {results} h) e = no_spots args (enters_comps f (comps args) (comps results) h (same_flow f flow.EnterTrap e))

module _ (m : Lin) (formed : WellFormed m) where
  -- no register is live where a handler is entered
  dead_at : (l : Loc) (t : Comp) (i : Line) (next : List Line) (tries : List ℕ) → is_destroyed Everything l ≡ true → IsIn i m.code →
      i.op ≡ lin.Flow flow.EnterTrap → Live m l t (i ∷ next) tries → ⊥
  dead_at l t i next tries lost among e (read r) =
      elim (in_of (record { loc = l; comp = t }) [] (subst (λ args. Contains args (record { loc = l; comp = t }))
      (enters_alone i (all_in IsFormedLine formed.forms among) e) r)) [ ]
  dead_at l t i next tries lost among e (on off leads live) = off (inr (ap (λ f. is_destroyed (destroyed_by f) l) e ∙ lost))
  dead_at l t i next tries lost among e (aside (raises h) live) = absurd (true≢false (sym h ∙ ap may_raise e))

  -- so it is at the handler of a raise
  dead_aside : {i : Line} {next to : List Line} {tries left : List ℕ} (l : Loc) (t : Comp) → is_destroyed Everything l ≡ true → Reached m (i ∷ next) tries →
      Raises m i tries to left → Live m l t to left → ⊥
  dead_aside l t lost r (raises {h} {tries} e) live =
      let entry = pushed_enters m formed h (pushed m r h is_first) in
      let tail = subst (λ code. Tail code m.code) entry.is (tail_label h m.code) in
      dead_at l t entry.line entry.next tries lost (tail_in tail) entry.enters (subst (λ code. Live m l t code tries) entry.is live)

  -- no register is live over a call
  pub call_loses : (r : ℕ) (t : Comp) (i : Line) (next : List Line) (tries : List ℕ) (whom : Callee) (result : Ret) →
      i.op ≡ lin.Op (op.Calling (calling.Call whom result)) → Traps m (i ∷ next) tries → LiveAcross m (loc.Machine r) t i next tries → ⊥
  call_loses r t i next tries whom result e traps (across_step off leads live) = off (inr (ap (λ f. is_destroyed (destroyed_by f) (loc.Machine r)) e))
  call_loses r t i next tries whom result e traps (across_raise a live) = by traps a live
    where
      by : {tries : List ℕ} {to : List Line} {left : List ℕ} → Traps m (i ∷ next) tries → Raises m i tries to left → Live m (loc.Machine r) t to left → ⊥
      by (by_walk reached) a live = dead_aside (loc.Machine r) t refl reached a live
      by (unreached none) a live = elim a [ ]
