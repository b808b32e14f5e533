-- Where a line leads, and what it does to the traps that are pushed, whatever the values are.
use Rattle.std.proofs.Common.{◌≡◌, ℕ, zero, suc, Bool, true, false, List, [], ◌∷◌, Option, Some, None, Result, Ok, Err, refl}
use Rattle.bs_words.specs.Memory.{sizes}
use Rattle.bs_words.specs.Operators.{word_in}
use Rattle.bs_words.specs.declared.types.Ret.{Ret}
use Rattle.bs_words.specs.declared.values.Kind.{Kind}
use Rattle.bs_words.specs.declared.values.Value.{Value}
use Rattle.cmm_meaning.specs.Setting.{Setting}
use Rattle.cmm_meaning.specs.State.{Doing, Callee}
use Rattle.mach_ir.specs.Acts as acts
use Rattle.mach_ir.specs.Acts.{Around, Target, On, At, AtLabel, AtHandler, Act, Goes, Pushes, Jumps, Unwinds, Asks, Replaces, Ends, EndsRaising, Stuck}
use Rattle.mach_ir.specs.Walks.{OneOf, this, other}
use Rattle.mach_ir.specs.declared.op.Op.{Op}
use Rattle.mach_ir.specs.declared.mach.Test.{Test}
use Rattle.mach_ir.specs.declared.mach.MachOp.TheVariants as mach
use Rattle.mach_laws.proofs.Turns as ops
use Rattle.lin_ir.specs.Meaning.{flow_act, lin_act}
use Rattle.lin_ir.specs.Walks.{targets, may_raise, tries_after}
use Rattle.lin_ir.specs.declared.lin.Flow.{Flow}
use Rattle.lin_ir.specs.declared.lin.Flow.TheVariants as flow
use Rattle.lin_ir.specs.declared.lin.LinOp.{LinOp}
use Rattle.lin_ir.specs.declared.lin.LinOp.TheVariants as lin

-- an exit, or the push of a trap: it goes on and writes nothing, whatever results it has
abbrev pub is_bare : LinOp → Bool
is_bare (lin.Flow (flow.Exit l)) = true
is_bare (lin.Flow (flow.PushTrap l)) = true
is_bare _ = false

-- where an act goes, and what it does to the pushed traps
pub data Turns (f : LinOp) (tries : List ℕ) : Act → Type 0 where
  goes_in : {vs : List Value} {to : Target} {after : Around} → OneOf to (targets f) → after.tries ≡ tries_after f tries →
      Turns f tries (Goes vs to after)
  exits_in : {l : ℕ} {after : Around} → is_bare f ≡ true → OneOf (At l) (targets f) → after.tries ≡ tries_after f tries →
      Turns f tries (Jumps (AtLabel l) after)
  jumps_in : {h : ℕ} {after : Around} → may_raise f ≡ true → tries ≡ h ∷ after.tries → Turns f tries (Jumps AtHandler after)
  unwinds_in : {h : ℕ} {after : Around} → may_raise f ≡ true → tries ≡ h ∷ after.tries → Turns f tries (Unwinds after)
  pushes_in : {after : Around} → is_bare f ≡ true → OneOf On (targets f) → after.tries ≡ tries_after f tries → Turns f tries (Pushes after)
  asks_in : {whom : Callee} {vs : List Value} {go : Doing → Act} → ((d : Doing) → Turns f tries (go d)) →
      Turns f tries (Asks whom vs go)
  replaces_in : {whom : Callee} {vs : List Value} {kept : Ret} → Turns f tries (Replaces whom vs kept)
  ends_in : {d : Doing} → Turns f tries (Ends d)
  raising_in : {d : Doing} → Turns f tries (EndsRaising d)
  stuck_in : Turns f tries Stuck

-- an operation is the same in both languages
of_op : {f : Op} {ts : List ℕ} {rv : Option Value} {x : Act} → ops.Turns (mach.Op f) ts rv x → Turns (lin.Op f) ts x
of_op (ops.goes_in o e u) = goes_in o e
of_op (ops.exits_in x e u) = elim x [ ]
of_op (ops.jumps_in r e) = jumps_in r e
of_op (ops.unwinds_in r e) = unwinds_in r e
of_op (ops.pushes_in t e u) = elim t [ ]
of_op (ops.asks_in w) = asks_in (λ d. of_op (w d))
of_op ops.replaces_in = replaces_in
of_op ops.ends_in = ends_in
of_op ops.raising_in = raising_in
of_op ops.stuck_in = stuck_in

branches_in : (t : Test) (l : ℕ) (a : Around) (o : Option Bool) → Turns (lin.Flow (flow.Branch t l)) a.tries (acts.goes_by_test a (At l) On o)
branches_in t l a (Some true) = goes_in (other this) refl
branches_in t l a (Some false) = goes_in this refl
branches_in t l a None = stuck_in

one_case_more : {ts : List ℕ} {l : ℕ} {labels : List ℕ} {act : Act} → Turns (lin.Flow (flow.Switch labels)) ts act →
    Turns (lin.Flow (flow.Switch (l ∷ labels))) ts act
one_case_more (goes_in o e) = goes_in (other o) e
one_case_more (exits_in b o e) = exits_in b (other o) e
one_case_more (jumps_in r e) = jumps_in r e
one_case_more (unwinds_in r e) = unwinds_in r e
one_case_more (pushes_in b o e) = pushes_in b (other o) e
one_case_more (asks_in w) = asks_in (λ d. one_case_more (w d))
one_case_more replaces_in = replaces_in
one_case_more ends_in = ends_in
one_case_more raising_in = raising_in
one_case_more stuck_in = stuck_in

case_in : (a : Around) (labels : List ℕ) (r : Result ℕ Kind) → Turns (lin.Flow (flow.Switch labels)) a.tries (acts.goes_to_case a labels r)
case_in a [] (Err kind) = stuck_in
case_in a (l ∷ labels) (Err kind) = stuck_in
case_in a [] (Ok n) = stuck_in
case_in a (l ∷ labels) (Ok zero) = goes_in this refl
case_in a (l ∷ labels) (Ok (suc n)) = one_case_more (case_in a labels (Ok n))

taken_in : (a : Around) (o : Option Value) → Turns (lin.Flow flow.EnterTrap) a.tries (acts.if_known (record a { raised = None }) o)
taken_in a (Some v) = goes_in this refl
taken_in a None = stuck_in

flow_in : (f : Flow) (vs : List Value) (a : Around) → Turns (lin.Flow f) a.tries (flow_act f vs a)
flow_in (flow.Label l) [] a = goes_in this refl
flow_in (flow.Label l) (v ∷ vs) a = stuck_in
flow_in (flow.Jump l) [] a = goes_in this refl
flow_in (flow.Jump l) (v ∷ vs) a = stuck_in
flow_in (flow.Exit l) [] a = exits_in refl this refl
flow_in (flow.Exit l) (v ∷ vs) a = stuck_in
flow_in (flow.Branch t l) vs a = branches_in t l a (acts.truth_of (sizes a.memory) t vs)
flow_in (flow.Switch labels) [] a = stuck_in
flow_in (flow.Switch labels) (v ∷ []) a = case_in a labels (word_in v)
flow_in (flow.Switch labels) (v ∷ w ∷ vs) a = stuck_in
flow_in (flow.PushTrap l) [] a = pushes_in refl this refl
flow_in (flow.PushTrap l) (v ∷ vs) a = stuck_in
flow_in flow.PopTrap [] a = goes_in this refl
flow_in flow.PopTrap (v ∷ vs) a = stuck_in
flow_in flow.EnterTrap [] a = taken_in a a.raised
flow_in flow.EnterTrap (v ∷ vs) a = stuck_in

-- Whatever the values, a line turns within its targets.
pub turns : (c : Setting) (f : LinOp) (vs : List Value) (a : Around) → Turns f a.tries (lin_act c f vs a)
turns c (lin.Op f) vs a = of_op (ops.turns c (mach.Op f) vs a)
turns c (lin.Flow f) vs a = flow_in f vs a
