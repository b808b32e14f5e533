-- The last word of an external call is the instruction that serves it: with the words before it these are the words of its part.
use Rattle.std.proofs.Common.{◌≡◌, ℕ, ◌+◌, ◌≤◌, Bool, true, false, not, ◌&&◌, ◌||◌, List, [], ◌∷◌, length, Option, Some, None, refl, sym, subst, arith}
use Rattle.std.specs.Prelude.{slice_get}
use Rattle.bs_words.specs.declared.types.Comp.{Comp}
use Rattle.bs_words.specs.declared.types.Loc.{Loc}
use Rattle.bs_words.specs.declared.types.Ret.{Ret}
use Rattle.bs_words.specs.declared.values.Value.{Value}
use Rattle.bs_words.specs.declared.values.Value.TheVariants.{Word, Block, Function}
use Rattle.cmm_meaning.specs.Evaluation.{fit_parameters}
use Rattle.cmm_meaning.specs.Setting.{Setting}
use Rattle.cmm_meaning.specs.State as state
use Rattle.cmm_meaning.specs.State.{Inside, Outside}
use Rattle.rv_emit_rules.proofs.Acts.{ActsAt}
use Rattle.lin_ir.specs.Meaning.{Locations, NamedAt, State, are_vals, clear_destroyed, code_at, destroyed_by, lin_act, on_act, on_values, passes_frame, past_frame, put_all, step, unless_misnamed, values, wrote}
use Rattle.lin_ir.specs.declared.lin.Lin.{Lin}
use Rattle.lin_ir.specs.declared.lin.Line.{Line}
use Rattle.lin_ir.specs.declared.lin.LinOp.{LinOp}
use Rattle.lin_ir.specs.declared.lin.LinOp.TheVariants as lin
use Rattle.mach_ir.specs.Acts.{Act, Around, Asks, Ends, EndsRaising, Goes, Jumps, Pushes, Replaces, Stuck, Unwinds, act_after_call, asks, asks_callee, asks_value, is_complete, stuck_unless}
use Rattle.mach_ir.specs.Runs.{Continues, Deepens, Finishes, FinishesBy, FinishesRaising, IsStuck, Pays, ActivationSetting, Step, Waits}
use Rattle.mach_ir.specs.declared.op.Callee.{Callee}
use Rattle.mach_ir.specs.declared.op.Callee.TheVariants as callee
use Rattle.mach_ir.specs.declared.op.Calling.TheVariants as calling
use Rattle.mach_ir.specs.declared.op.Op.TheVariants as op
use Rattle.function_stands.specs.Known.{before_service}
use Rattle.function_stands.proofs.Known.{Comes, NoWait, step_no}
use Rattle.linking_machine.specs.Emitted.{service_in, service_of}

-- ---- how many words are served

one_at_most : (whom : state.Callee) → service_in whom ≤ 1
one_at_most (Inside f) = omega arith
one_at_most (Outside row frame) = omega arith

served_once : (x : Step State) → service_of x ≤ 1
served_once (Waits call go) = one_at_most call.callee
served_once (Continues u) = omega arith
served_once (Pays u) = omega arith
served_once (Deepens bytes u) = omega arith
served_once (FinishesBy call kept) = omega arith
served_once (Finishes d) = omega arith
served_once (FinishesRaising d) = omega arith
served_once IsStuck = omega arith

served_never : (x : Step State) → NoWait x → service_of x ≡ 0
served_never (Waits call go) h = absurd h
served_never (Continues u) h = refl
served_never (Pays u) h = refl
served_never (Deepens bytes u) h = refl
served_never (FinishesBy call kept) h = refl
served_never (Finishes d) h = refl
served_never (FinishesRaising d) h = refl
served_never IsStuck h = refl

-- ---- a call of a function is served by none

abbrev IsInside : Act → Type 0
IsInside (Asks whom vs go) = service_in whom ≡ 0
IsInside (Goes vs to after) = Unit {0}
IsInside (Pushes after) = Unit {0}
IsInside (Jumps to after) = Unit {0}
IsInside (Unwinds after) = Unit {0}
IsInside (Replaces whom vs kept) = Unit {0}
IsInside (Ends d) = Unit {0}
IsInside (EndsRaising d) = Unit {0}
IsInside Stuck = Unit {0}

only_inside : (b : Bool) (x : Act) → IsInside x → IsInside (stuck_unless b x)
only_inside true x h = h
only_inside false x h = tt

value_inside : (c : Setting) (result : Ret) (o : Option Value) (vs : List Value) (a : Around) →
    IsInside (asks_value c o vs a (λ f arguments. Asks f arguments (act_after_call c result a)))
value_inside c result None vs a = tt
value_inside c result (Some (Word w)) vs a = tt
value_inside c result (Some (Block b o)) vs a = tt
value_inside c result (Some (Function f)) vs a = by (slice_get c.parameters f)
  where
    by : (o : Option (List Comp)) → IsInside (asks c o f vs a (λ f arguments. Asks f arguments (act_after_call c result a)))
    by None = tt
    by (Some comps) = only_inside (fit_parameters c.end comps vs && is_complete a) _ refl

call_inside : (c : Setting) (whom : Callee) (result : Ret) (vs : List Value) (a : Around) →
    IsInside (asks_callee c whom vs a (λ f arguments. Asks f arguments (act_after_call c result a)))
call_inside c (callee.Symbol name) result vs a = value_inside c result (c.symbol name) vs a
call_inside c callee.Register result [] a = tt
call_inside c callee.Register result (v ∷ vs) a = value_inside c result (Some v) vs a

wrote_zero : (rest : List Line) (a : Around) (o : Option Locations) → service_of (wrote rest a o) ≡ 0
wrote_zero rest a None = refl
wrote_zero rest a (Some f) = refl

module _ (c : ActivationSetting) (m : Lin) (i : Line) (next : List Line) (a : Around) where
  act_zero : (f : Locations) (x : Act) → IsInside x → service_of (on_act c m i next f a x) ≡ 0
  act_zero f (Goes vs to after) h =
      wrote_zero (code_at m.code next to) after (put_all c.setting.end i.results vs (clear_destroyed (destroyed_by i.op) f))
  act_zero f (Pushes after) h = refl
  act_zero f (Jumps to after) h = refl
  act_zero f (Unwinds after) h = refl
  act_zero f (Asks whom vs go) h = h
  act_zero f (Replaces whom vs kept) h = refl
  act_zero f (Ends d) h = refl
  act_zero f (EndsRaising d) h = refl
  act_zero f Stuck h = refl

  misnamed_zero : (b : Bool) (x : Step State) → service_of x ≡ 0 → service_of (unless_misnamed b x) ≡ 0
  misnamed_zero true x h = h
  misnamed_zero false x h = refl

  values_zero : (names : List Loc) (f : Locations) (o : Option (List Value)) → ((vs : List Value) → IsInside (lin_act c.setting i.op vs a)) →
      service_of (on_values c names m i next f a o) ≡ 0
  values_zero names f None h = refl
  values_zero names f (Some vs) h =
      misnamed_zero (not (passes_frame i.op) || are_vals c.setting.end names f) _
      (act_zero (past_frame (passes_frame i.op) names f) (lin_act c.setting i.op vs a) (h vs))

-- ---- a line

module _ (c : ActivationSetting) (named : NamedAt) (m : Lin) (i : Line) (next : List Line) (file : Locations) (a : Around) (words : ℕ) where
  abbrev does : Step State
  does = step c named m (record { rest = i ∷ next; file = file; around = a })

  none_served : (Comes i.op → ⊥) → words + service_of does ≤ words
  none_served never = let zero_is = served_never does (step_no c named m i next file a never) in omega (arith, zero_is)

  -- What is before the service, and that, are the words of the part.
  pub served : (ActsAt i.op i.args i.results → 1 ≤ words) → before_service i.op words + service_of does ≤ words
  served acts = by i.op refl
    where
      by : (g : LinOp) → i.op ≡ g → before_service g words + service_of does ≤ words
      by (lin.Op (op.Calling (calling.External row frame))) e =
          let some = acts (subst (λ (g : LinOp). ActsAt g i.args i.results) (sym e) tt) in
          let once = served_once does in
          omega (arith, some, once)
      by (lin.Op (op.Calling (calling.Call whom result))) e =
          let zero_is = values_zero c m i next a (named (length next)) file (values c.setting.end file i.args)
          (λ vs. subst (λ (g : LinOp). IsInside (lin_act c.setting g vs a)) (sym e) (call_inside c.setting whom result vs a)) in
          omega (arith, zero_is)
      by (lin.Op (op.Calling (calling.TailCall whom result))) e =
          none_served (λ h. let q = subst Comes e h in elim q [ ])
      by (lin.Op (op.Pure g)) e = none_served (λ h. let q = subst Comes e h in elim q [ ])
      by (lin.Op (op.Access g)) e = none_served (λ h. let q = subst Comes e h in elim q [ ])
      by (lin.Op (op.Leaving g)) e = none_served (λ h. let q = subst Comes e h in elim q [ ])
      by (lin.Flow g) e = none_served (λ h. let q = subst Comes e h in elim q [ ])
