-- Runs of Linear keep to its walks: where a run is, some walk comes with the tries that are pushed there.
use Rattle.std.proofs.Common.{◌≡◌, ℕ, zero, suc, Bool, true, false, cond, ◌||◌, not, List, [], ◌∷◌, ◌++◌, Option, Some, None, Result, Ok, Err, length, map, refl, sym, subst}
use Rattle.std.specs.Prelude.{slice_get, nat_eq}
use Rattle.bs_words.specs.Memory.{Memory, Cell, InHeader, InBlock, InStatic, stored, value_in_cell}
use Rattle.bs_words.specs.Operators.{word_in}
use Rattle.bs_words.specs.declared.types.Chunk.{Chunk}
use Rattle.bs_words.specs.declared.types.Chunk.TheVariants as chunk
use Rattle.bs_words.specs.declared.types.Comp.{Comp}
use Rattle.bs_words.specs.declared.types.Loc.{Loc}
use Rattle.bs_words.specs.declared.types.Ret.{Ret}
use Rattle.bs_words.specs.declared.types.Ret.TheVariants as ret
use Rattle.bs_words.specs.declared.values.Kind.{Kind}
use Rattle.bs_words.specs.declared.values.Value.{Value}
use Rattle.bs_words.specs.declared.values.Value.TheVariants as value
use Rattle.cmm_meaning.specs.Evaluation.{bound_error}
use Rattle.cmm_meaning.specs.Setting.{Setting}
use Rattle.cmm_meaning.specs.State as state
use Rattle.cmm_meaning.specs.State.{Doing, Gave, Threw, Inside, Outside}
use Rattle.mach_ir.specs.Acts as acts
use Rattle.mach_ir.specs.Acts.{without, Around, Act, Goes, Pushes, Jumps, Unwinds, Asks, Replaces, Ends, EndsRaising, Stuck, On, At, Target, AtLabel, AtHandler, stuck_unless, one_result, if_known, pure_act, loaded_act, after_store, header_written, first_written, stored_act, is_among_cells, with_block, new_blocks, access_act, callee_raises, raised_by, raise_act, call_answered, as_list, act_after_call, after_external, asks, asks_value, asks_callee, checked, leaving_act, act, goes_by_test, goes_to_case, external_row, is_complete}
use Rattle.mach_ir.specs.Runs.{entry_around, ActivationSetting, Step}
use Rattle.mach_ir.specs.Walks.{OneOf}
use Rattle.mach_ir.specs.Walks as mach_walks
use Rattle.mach_ir.specs.declared.blocks.NewBlock.{NewBlock}
use Rattle.mach_ir.specs.declared.op.Access.{Access}
use Rattle.mach_ir.specs.declared.op.Access.TheVariants as access
use Rattle.mach_ir.specs.declared.op.Callee.{Callee}
use Rattle.mach_ir.specs.declared.op.Callee.TheVariants as callee
use Rattle.mach_ir.specs.declared.op.Calling.TheVariants as calling
use Rattle.mach_ir.specs.declared.op.Leaving.{Leaving}
use Rattle.mach_ir.specs.declared.op.Leaving.TheVariants as leaving
use Rattle.mach_ir.specs.declared.op.Op.{Op}
use Rattle.mach_ir.specs.declared.op.Op.TheVariants as op
use Rattle.mach_ir.specs.declared.op.Pure.{Pure}
use Rattle.mach_ir.specs.declared.op.Pure.TheVariants as pure
use Rattle.mach_ir.specs.declared.mach.Test.{Test}
use Rattle.mach_ir.specs.declared.op.Right.TheVariants as right
use Rattle.lin_ir.specs.Meaning.{Locations, NamedAt, State, flow_act, lin_act, wrote, on_act, unless_misnamed, on_values, at_code, put_all, begin_linear, code_at, landing_code, clear_destroyed, destroyed_by, past_frame, passes_frame, are_vals, values}
use Rattle.lin_ir.specs.Walks.{targets, may_raise, tries_after, Reached}
use Rattle.lin_ir.specs.Walks as walks
use Rattle.lin_ir.specs.declared.lin.Flow.{Flow}
use Rattle.lin_ir.specs.declared.lin.Flow.TheVariants as flow
use Rattle.lin_ir.specs.declared.lin.LinOp.{LinOp}
use Rattle.lin_ir.specs.declared.lin.LinOp.TheVariants as lin
use Rattle.lin_ir.specs.declared.lin.Lin.{Lin}
use Rattle.lin_ir.specs.declared.lin.Line.{Line}
use Rattle.linking.specs.Pace.{StepLeadsTo, continues, pays, deepens, behind, IsReached, at_start, by_step}
use Rattle.linking_stages.specs.Stages.{linear_program}

-- ---- acts

-- it goes where the operation may go
record On_to (f : LinOp) (a : Around) (to : Target) (after : Around) : Type 0 where
  goes : OneOf to (targets f)
  tries : after.tries ≡ tries_after f a.tries

-- it comes to the handler of the innermost try
record Thrown (f : LinOp) (a after : Around) : Type 0 where
  raises : may_raise f ≡ true
  handler : ℕ
  tries : a.tries ≡ handler ∷ after.tries

abbrev Keeps : LinOp → Around → Act → Type 0
Keeps f a (Goes vs to after) = On_to f a to after
Keeps f a (Pushes after) = On_to f a On after
Keeps f a (Jumps (AtLabel l) after) = On_to f a (At l) after
Keeps f a (Jumps AtHandler after) = Thrown f a after
Keeps f a (Unwinds after) = Thrown f a after
Keeps f a (Asks callee vs go) = (d : Doing) → Keeps f a (go d)
Keeps f a (Replaces callee vs kept) = Unit {0}
Keeps f a (Ends d) = Unit {0}
Keeps f a (EndsRaising d) = Unit {0}
Keeps f a Stuck = Unit {0}

keeps_if : (f : LinOp) (a : Around) (b : Bool) (x : Act) → Keeps f a x → Keeps f a (stuck_unless b x)
keeps_if f a true x g = g
keeps_if f a false x g = tt

-- an operation that goes on, or raises to its handler
module _ (f : LinOp) (a : Around) (next : (after : Around) → after.tries ≡ a.tries → On_to f a On after) where
  result_keeps : (r : Result Value Kind) → Keeps f a (one_result a r)
  result_keeps (Ok v) = next a refl
  result_keeps (Err kind) = tt

  known_keeps : (o : Option Value) → Keeps f a (if_known a o)
  known_keeps (Some v) = next a refl
  known_keeps None = tt

  pure_keeps : (c : Setting) (g : Pure) (vs : List Value) → Keeps f a (pure_act c g vs a)
  pure_keeps c (pure.Copy kind) [] = tt
  pure_keeps c (pure.Copy kind) (v ∷ []) = next a refl
  pure_keeps c (pure.Copy kind) (v ∷ x ∷ vs) = tt
  pure_keeps c (pure.Constant w) [] = next a refl
  pure_keeps c (pure.Constant w) (v ∷ vs) = tt
  pure_keeps c (pure.Symbol name) [] = known_keeps (c.symbol name)
  pure_keeps c (pure.Symbol name) (v ∷ vs) = tt
  pure_keeps c (pure.Operator g right.Register) [] = tt
  pure_keeps c (pure.Operator g right.Register) (x ∷ []) = tt
  pure_keeps c (pure.Operator g right.Register) (x ∷ y ∷ []) = result_keeps _
  pure_keeps c (pure.Operator g right.Register) (x ∷ y ∷ z ∷ vs) = tt
  pure_keeps c (pure.Operator g (right.Constant w)) [] = tt
  pure_keeps c (pure.Operator g (right.Constant w)) (x ∷ []) = result_keeps _
  pure_keeps c (pure.Operator g (right.Constant w)) (x ∷ y ∷ vs) = tt

  loaded_keeps : (o : Option Cell) (r : Result Value Kind) → Keeps f a (loaded_act a o r)
  loaded_keeps None r = tt
  loaded_keeps (Some cell) r = by (is_among_cells cell a.unwritten)
    where
      by : (b : Bool) → Keeps f a (cond b Stuck (one_result a r))
      by true = tt
      by false = result_keeps r

  store_keeps : (unwritten : List Cell) (r : Result Memory Kind) → Keeps f a (after_store a unwritten r)
  store_keeps unwritten (Ok m) = next (record a { memory = m; unwritten = unwritten }) refl
  store_keeps unwritten (Err kind) = tt

  header_keeps : (k : Chunk) (s : ℕ) (old new : Value) → Keeps f a (header_written k a s old new)
  header_keeps chunk.Int s (value.Word header) (value.Word w) =
      keeps_if f a (nat_eq w header) (Goes [] On (record a { unwritten = without (InHeader s) a.unwritten }))
      (next (record a { unwritten = without (InHeader s) a.unwritten }) refl)
  header_keeps chunk.Int s (value.Word header) (value.Block t o) = tt
  header_keeps chunk.Int s (value.Word header) (value.Function g) = tt
  header_keeps chunk.Int s (value.Block t o) new = tt
  header_keeps chunk.Int s (value.Function g) new = tt
  header_keeps chunk.U8 s old new = tt
  header_keeps chunk.I8 s old new = tt
  header_keeps chunk.U16 s old new = tt
  header_keeps chunk.I16 s old new = tt
  header_keeps chunk.U32 s old new = tt
  header_keeps chunk.I32 s old new = tt
  header_keeps chunk.Val s old new = tt

  first_keeps : (k : Chunk) (cell : Cell) (x v : Value) → Keeps f a (first_written k a cell x v)
  first_keeps k (InHeader s) x v = header_keeps k s (value_in_cell a.memory (InHeader s)) v
  first_keeps k (InBlock s n) x v = keeps_if f a _ _ (store_keeps (without (InBlock s n) a.unwritten) (stored k a.memory x v))
  first_keeps k (InStatic l n) x v = tt

  stored_keeps : (k : Chunk) (o : Option Cell) (x v : Value) → Keeps f a (stored_act k a o x v)
  stored_keeps k None x v = tt
  stored_keeps k (Some cell) x v = by (is_among_cells cell a.unwritten)
    where
      by : (b : Bool) → Keeps f a (cond b (first_written k a cell x v) (after_store a a.unwritten (stored k a.memory x v)))
      by true = first_keeps k cell x v
      by false = store_keeps a.unwritten (stored k a.memory x v)

  blocks_keep : (blocks : List NewBlock) (so_far : List Value) (b : Around) → b.tries ≡ a.tries → Keeps f a (new_blocks blocks so_far b)
  blocks_keep [] so_far b e = next b e
  blocks_keep (x ∷ blocks) so_far b e = blocks_keep blocks (so_far ++ value.Block (length b.memory.blocks) 0 ∷ []) (with_block x b) e

  access_keeps : (g : Access) (vs : List Value) → Keeps f a (access_act g vs a)
  access_keeps (access.Load k offset) [] = tt
  access_keeps (access.Load k offset) (x ∷ []) = loaded_keeps _ _
  access_keeps (access.Load k offset) (x ∷ y ∷ vs) = tt
  access_keeps (access.Store k offset) [] = tt
  access_keeps (access.Store k offset) (x ∷ []) = tt
  access_keeps (access.Store k offset) (x ∷ v ∷ []) = stored_keeps k _ _ v
  access_keeps (access.Store k offset) (x ∷ v ∷ y ∷ vs) = tt
  access_keeps (access.Alloc blocks) [] = keeps_if f a _ _ (blocks_keep blocks [] a refl)
  access_keeps (access.Alloc blocks) (v ∷ vs) = tt

  answered_keeps : (end : ℕ) (result : Ret) (v : Option Value) (go : Option Value → Act) → ((v : Option Value) → Keeps f a (go v)) →
      Keeps f a (call_answered end result v go)
  answered_keeps end ret.Unit v go g = g None
  answered_keeps end (ret.Comp t) (Some v) go g = keeps_if f a _ _ (g (Some v))
  answered_keeps end (ret.Comp t) None go g = tt

  -- where it may raise
  module _ (may : may_raise f ≡ true) where
    callee_raise_keeps : (v : Value) (m : Memory) (tries : List ℕ) → a.tries ≡ tries → Keeps f a (callee_raises v m a tries)
    callee_raise_keeps v m [] e = tt
    callee_raise_keeps v m (l ∷ tries) e = record { raises = may; handler = l; tries = e }

    raise_keeps : (v : Value) (tries : List ℕ) → a.tries ≡ tries → Keeps f a (raised_by v a tries)
    raise_keeps v [] e = tt
    raise_keeps v (l ∷ tries) e = record { raises = may; handler = l; tries = e }

    after_call_keeps : (c : Setting) (result : Ret) (d : Doing) → Keeps f a (act_after_call c result a d)
    after_call_keeps c result (Gave v m) = answered_keeps c.end result v (λ v. Goes (as_list v) On (record a { memory = m }))
        (λ v. next (record a { memory = m }) refl)
    after_call_keeps c result (Threw v m) = keeps_if f a _ _ (callee_raise_keeps v m a.tries refl)

    checked_keeps : (c : Setting) (bound index : Result ℕ Kind) → Keeps f a (checked c bound index a)
    checked_keeps c (Ok bound) (Ok index) = by _
      where
        by : (b : Bool) → Keeps f a (cond b (Goes [] On a) (raise_act c bound_error a))
        by true = next a refl
        by false = keeps_if f a _ _ (raise_keeps bound_error a.tries refl)
    checked_keeps c (Ok bound) (Err kind) = tt
    checked_keeps c (Err kind) index = tt

  after_external_keeps : (c : Setting) (result : Ret) (frame : Bool) → (frame ≡ true → may_raise f ≡ true) → (d : Doing) →
      Keeps f a (after_external c result frame a d)
  after_external_keeps c result frame may (Gave v m) = answered_keeps c.end result v (λ v. Goes (as_list v) On a) (λ v. next a refl)
  after_external_keeps c result true may (Threw v m) = keeps_if f a _ _ (raise_keeps (may refl) v a.tries refl)
  after_external_keeps c result false may (Threw v m) = tt

module _ (f : LinOp) (a : Around) where
  asks_keeps : (c : Setting) (o : Option (List Comp)) (g : ℕ) (vs : List Value) (call : state.Callee → List Value → Act) →
      ((vs : List Value) → Keeps f a (call (Inside g) vs)) →
      Keeps f a (asks c o g vs a call)
  asks_keeps c None g vs call k = tt
  asks_keeps c (Some comps) g vs call k = keeps_if f a _ _ (k vs)

  asks_value_keeps : (c : Setting) (o : Option Value) (vs : List Value) (call : state.Callee → List Value → Act) →
      ((g : ℕ) (vs : List Value) → Keeps f a (call (Inside g) vs)) →
      Keeps f a (asks_value c o vs a call)
  asks_value_keeps c (Some (value.Function g)) vs call k = asks_keeps c (slice_get c.parameters g) g vs call (k g)
  asks_value_keeps c (Some (value.Word w)) vs call k = tt
  asks_value_keeps c (Some (value.Block s o)) vs call k = tt
  asks_value_keeps c None vs call k = tt

  asks_callee_keeps : (c : Setting) (g : Callee) (vs : List Value) (call : state.Callee → List Value → Act) →
      ((g : ℕ) (vs : List Value) → Keeps f a (call (Inside g) vs)) →
      Keeps f a (asks_callee c g vs a call)
  asks_callee_keeps c (callee.Symbol name) vs call k = asks_value_keeps c (c.symbol name) vs call k
  asks_callee_keeps c callee.Register [] call k = tt
  asks_callee_keeps c callee.Register (v ∷ vs) call k = asks_value_keeps c (Some v) vs call k

to_next : (g : Op) (a after : Around) → acts.falls_through g ≡ true → after.tries ≡ a.tries → On_to (lin.Op g) a On after
to_next g a after e same = record { goes = subst (λ b. OneOf On (mach_walks.next_if b)) (sym e) mach_walks.this; tries = same }

leaving_keeps : (c : Setting) (g : Leaving) (vs : List Value) (a : Around) → Keeps (lin.Op (op.Leaving g)) a (leaving_act c g vs a)
leaving_keeps c (leaving.Checkbound right.Register) [] a = tt
leaving_keeps c (leaving.Checkbound right.Register) (x ∷ []) a = tt
leaving_keeps c (leaving.Checkbound right.Register) (x ∷ y ∷ []) a =
    checked_keeps (lin.Op (op.Leaving (leaving.Checkbound right.Register))) a (λ after e. to_next _ a after refl e) refl c (word_in x) (word_in y)
leaving_keeps c (leaving.Checkbound right.Register) (x ∷ y ∷ z ∷ vs) a = tt
leaving_keeps c (leaving.Checkbound (right.Constant w)) [] a = tt
leaving_keeps c (leaving.Checkbound (right.Constant w)) (x ∷ []) a =
    checked_keeps (lin.Op (op.Leaving (leaving.Checkbound (right.Constant w)))) a (λ after e. to_next _ a after refl e) refl c (word_in x) (Ok w)
leaving_keeps c (leaving.Checkbound (right.Constant w)) (x ∷ y ∷ vs) a = tt
leaving_keeps c leaving.Raise [] a = tt
leaving_keeps c leaving.Raise (v ∷ []) a = keeps_if (lin.Op (op.Leaving leaving.Raise)) a _ _ (raised a.tries refl)
  where
    raised : (tries : List ℕ) → a.tries ≡ tries → Keeps (lin.Op (op.Leaving leaving.Raise)) a (raised_by v a tries)
    raised [] e = tt
    raised (l ∷ tries) e = record { raises = refl; handler = l; tries = e }
leaving_keeps c leaving.Raise (v ∷ x ∷ vs) a = tt
leaving_keeps c leaving.Return [] a = keeps_if (lin.Op (op.Leaving leaving.Return)) a _ (Ends (Gave None a.memory)) tt
leaving_keeps c leaving.Return (v ∷ []) a = keeps_if (lin.Op (op.Leaving leaving.Return)) a _ (Ends (Gave (Some v) a.memory)) tt
leaving_keeps c leaving.Return (v ∷ x ∷ vs) a = tt

op_keeps : (c : Setting) (g : Op) (vs : List Value) (a : Around) → Keeps (lin.Op g) a (act c g vs a)
op_keeps c (op.Pure g) vs a = pure_keeps (lin.Op (op.Pure g)) a (λ after e. to_next (op.Pure g) a after refl e) c g vs
op_keeps c (op.Access g) vs a = access_keeps (lin.Op (op.Access g)) a (λ after e. to_next (op.Access g) a after refl e) g vs
op_keeps c (op.Calling (calling.Call whom result)) vs a =
    asks_callee_keeps (lin.Op (op.Calling (calling.Call whom result))) a c whom vs (λ f arguments. Asks f arguments (act_after_call c result a))
    (λ f vs d. after_call_keeps (lin.Op (op.Calling (calling.Call whom result))) a
    (λ after e. to_next (op.Calling (calling.Call whom result)) a after refl e) refl c result d)
op_keeps c (op.Calling (calling.TailCall whom result)) vs a =
    asks_callee_keeps (lin.Op (op.Calling (calling.TailCall whom result))) a c whom vs (λ f arguments. Replaces f arguments result) (λ f vs. tt)
op_keeps c (op.Calling (calling.External row frame)) vs a =
    keeps_if (lin.Op (op.Calling (calling.External row frame))) a (is_complete a) (Asks (Outside (external_row row) frame) vs (after_external c row.result frame a))
    (λ d. after_external_keeps (lin.Op (op.Calling (calling.External row frame))) a
    (λ after e. to_next (op.Calling (calling.External row frame)) a after refl e) c row.result frame (λ e. e) d)
op_keeps c (op.Leaving g) vs a = leaving_keeps c g vs a

-- ---- flow

case_keeps : (all labels : List ℕ) (a : Around) → ((l : ℕ) → OneOf (At l) (map At labels) → OneOf (At l) (map At all)) → (r : Result ℕ Kind) →
    Keeps (lin.Flow (flow.Switch all)) a (goes_to_case a labels r)
case_keeps all labels a in_all (Err kind) = tt
case_keeps all [] a in_all (Ok n) = tt
case_keeps all (l ∷ labels) a in_all (Ok zero) = record { goes = in_all l mach_walks.this; tries = refl }
case_keeps all (l ∷ labels) a in_all (Ok (suc n)) = case_keeps all labels a (λ k o. in_all k (mach_walks.other o)) (Ok n)

branch_keeps : (t : Test) (l : ℕ) (a : Around) (o : Option Bool) → Keeps (lin.Flow (flow.Branch t l)) a (goes_by_test a (At l) On o)
branch_keeps t l a (Some true) = record { goes = mach_walks.other mach_walks.this; tries = refl }
branch_keeps t l a (Some false) = record { goes = mach_walks.this; tries = refl }
branch_keeps t l a None = tt

enter_keeps : (a : Around) (o : Option Value) → Keeps (lin.Flow flow.EnterTrap) a (if_known (record a { raised = None }) o)
enter_keeps a (Some v) = record { goes = mach_walks.this; tries = refl }
enter_keeps a None = tt

flow_keeps : (g : Flow) (vs : List Value) (a : Around) → Keeps (lin.Flow g) a (flow_act g vs a)
flow_keeps (flow.Label l) [] a = record { goes = mach_walks.this; tries = refl }
flow_keeps (flow.Label l) (v ∷ vs) a = tt
flow_keeps (flow.Jump l) [] a = record { goes = mach_walks.this; tries = refl }
flow_keeps (flow.Jump l) (v ∷ vs) a = tt
flow_keeps (flow.Exit l) [] a = record { goes = mach_walks.this; tries = refl }
flow_keeps (flow.Exit l) (v ∷ vs) a = tt
flow_keeps (flow.Branch t l) vs a = branch_keeps t l a _
flow_keeps (flow.Switch labels) [] a = tt
flow_keeps (flow.Switch labels) (v ∷ []) a = case_keeps labels labels a (λ l o. o) (word_in v)
flow_keeps (flow.Switch labels) (v ∷ x ∷ vs) a = tt
flow_keeps (flow.PushTrap l) [] a = record { goes = mach_walks.this; tries = refl }
flow_keeps (flow.PushTrap l) (v ∷ vs) a = tt
flow_keeps flow.PopTrap [] a = record { goes = mach_walks.this; tries = refl }
flow_keeps flow.PopTrap (v ∷ vs) a = tt
flow_keeps flow.EnterTrap [] a = enter_keeps a a.raised
flow_keeps flow.EnterTrap (v ∷ vs) a = tt

lin_keeps : (c : Setting) (g : LinOp) (vs : List Value) (a : Around) → Keeps g a (lin_act c g vs a)
lin_keeps c (lin.Op g) vs a = op_keeps c g vs a
lin_keeps c (lin.Flow g) vs a = flow_keeps g vs a

-- ---- steps

module _ (c : ActivationSetting) (m : Lin) (i : Line) (next : List Line) (a : Around) (here : Reached m (i ∷ next) a.tries) where
  abbrev Stood : State → Type 0
  Stood u = Reached m u.rest u.around.tries

  goes_there : (to : Target) (after : Around) → On_to i.op a to after → Reached m (code_at m.code next to) after.tries
  goes_there to after o = subst (Reached m (code_at m.code next to)) (sym o.tries) (walks.by_step here (walks.goes to o.goes))

  thrown_there : (after : Around) → Thrown i.op a after → Reached m (landing_code m.code a.tries AtHandler) after.tries
  thrown_there after t =
      let here' : Reached m (i ∷ next) (t.handler ∷ after.tries) = subst (Reached m (i ∷ next)) t.tries here in
      subst (λ (tries : List ℕ). Reached m (landing_code m.code tries AtHandler) after.tries) (sym t.tries) (walks.by_raise here' (walks.raises t.raises))

  wrote_stood : (rest : List Line) (after : Around) (o : Option Locations) → Reached m rest after.tries → (u : State) →
      StepLeadsTo State u (wrote rest after o) → Stood u
  wrote_stood rest after None r u l = elim l [ ]
  wrote_stood rest after (Some f) r u continues = r

  act_stood : (f : Locations) (x : Act) → Keeps i.op a x → (u : State) → StepLeadsTo State u (on_act c m i next f a x) → Stood u
  act_stood f (Goes vs to after) k u l = wrote_stood (code_at m.code next to) after (put_all c.setting.end i.results vs (clear_destroyed (destroyed_by i.op) f))
      (goes_there to after k) u l
  act_stood f (Pushes after) k u deepens = goes_there On after k
  act_stood f (Jumps (AtLabel t) after) k u pays = goes_there (At t) after k
  act_stood f (Jumps AtHandler after) k u pays = thrown_there after k
  act_stood f (Unwinds after) k u continues = thrown_there after k
  act_stood f (Asks callee vs go) k u (behind d l) = act_stood f (go d) (k d) u l
  act_stood f (Replaces callee vs kept) k u l = elim l [ ]
  act_stood f (Ends d) k u l = elim l [ ]
  act_stood f (EndsRaising d) k u l = elim l [ ]
  act_stood f Stuck k u l = elim l [ ]

  misnamed_stood : (b : Bool) (x : Step State) → ((u : State) → StepLeadsTo State u x → Stood u) → (u : State) → StepLeadsTo State u (unless_misnamed b x) → Stood u
  misnamed_stood true x k u l = k u l
  misnamed_stood false x k u l = elim l [ ]

  values_stood : (names : List Loc) (f : Locations) (o : Option (List Value)) (u : State) → StepLeadsTo State u (on_values c names m i next f a o) → Stood u
  values_stood names f None u l = elim l [ ]
  values_stood names f (Some vs) u l =
      misnamed_stood (not (passes_frame i.op) || are_vals c.setting.end names f) _
      (act_stood (past_frame (passes_frame i.op) names f) (lin_act c.setting i.op vs a) (lin_keeps c.setting i.op vs a)) u l

code_stood : (c : ActivationSetting) (named : NamedAt) (m : Lin) (rest : List Line) (f : Locations) (a : Around) → Reached m rest a.tries → (u : State) →
    StepLeadsTo State u (at_code c named m rest f a) → Reached m u.rest u.around.tries
code_stood c named m [] f a here u l = elim l [ ]
code_stood c named m (i ∷ next) f a here u l = values_stood c m i next a here (named (length next)) f (values c.setting.end f i.args) u l

start_stood : (m : Lin) (memory : Memory) (o : Option Locations) (s : State) → begin_linear m memory o ≡ Some s → Reached m s.rest s.around.tries
start_stood m memory None s e = absurd (let no' : None ≡ Some s = e in cc)
start_stood m memory (Some f) s e =
    let same : record { rest = m.code; file = f; around = entry_around memory } ≡ s = cc in
    subst (λ (z : State). Reached m z.rest z.around.tries) same walks.at_entry

-- Where a run of a Linear function comes, some walk comes with the tries that are pushed there.
pub reached_walks : (lins : ℕ → Lin) (named : ℕ → NamedAt) (f : ℕ) (c : ActivationSetting) {u : State} → IsReached State (linear_program lins named) f c u →
    Reached (lins f) u.rest u.around.tries
reached_walks lins named f c (at_start {arguments = arguments} {memory = memory} {s = s} e) =
    start_stood (lins f) memory (put_all c.setting.end (lins f).params arguments (λ l. None)) s e
reached_walks lins named f c (by_step {s = s} {u = u} r l) = code_stood c (named f) (lins f) s.rest s.file s.around (reached_walks lins named f c r) u l
