-- The Linear program is regular: its needs are what its tallies and its memories say.
use Rattle.std.proofs.Common.{◌≡◌, ℕ, zero, suc, ◌+◌, ◌≤◌, Bool, true, false, cond, ◌||◌, not, List, [], ◌∷◌, ◌++◌, Option, Some, None, Result, Ok, Err, length, refl, ap, sym, arith}
use Rattle.std.specs.Prelude.{slice_get, nat_eq}
use Rattle.std.proofs.lemmas.List.{map-append}
use Rattle.bs_words.specs.Memory.{Memory, Cell, InHeader, InBlock, InStatic, heap_need, stored, value_in_cell}
use Rattle.bs_words.specs.declared.types.Chunk.{Chunk}
use Rattle.bs_words.specs.declared.types.Chunk.TheVariants as chunk
use Rattle.bs_words.specs.declared.types.Comp.{Comp}
use Rattle.bs_words.specs.declared.types.Ret.{Ret}
use Rattle.bs_words.specs.declared.types.Ret.TheVariants as ret
use Rattle.bs_words.specs.declared.values.Kind.{Kind}
use Rattle.bs_words.specs.declared.values.Value.{Value}
use Rattle.bs_words.specs.declared.values.Value.TheVariants as value
use Rattle.bs_words.specs.Operators.{word_in}
use Rattle.cmm_meaning.specs.Evaluation.{bound_error}
use Rattle.cmm_meaning.specs.Extends.{Extends, shape_of}
use Rattle.cmm_meaning.specs.Setting.{Setting}
use Rattle.cmm_meaning.specs.State as state
use Rattle.cmm_meaning.specs.State.{Doing, Gave, Threw, Inside, Outside}
use Rattle.meaning_laws.specs.Fitting.{memory_after}
use Rattle.meaning_laws.proofs.Extends.{Extended, extended, no_memory, stored_extended, extends_need}
use Rattle.mach_ir.specs.Acts.{Around, Act, Goes, Pushes, Jumps, Unwinds, Asks, Replaces, Ends, EndsRaising, Stuck, On, At, Target, stuck_unless, one_result, if_known, pure_act, loaded_act, after_store, header_written, first_written, stored_act, is_among_cells, without, is_complete, with_block, fresh_block, new_blocks, access_act, callee_raises, raised_by, raise_act, call_answered, as_list, act_after_call, after_external, asks, asks_value, asks_callee, calling_act, checked, leaving_act, act, goes_by_test, goes_to_case, switched, drop_tries, external_row}
use Rattle.mach_ir.specs.Runs.{ActivationSetting, stack_in_use, Step, Continues, Pays, Deepens, Waits, FinishesBy, Finishes, FinishesRaising, IsStuck}
use Rattle.mach_ir.specs.declared.blocks.NewBlock.{NewBlock}
use Rattle.mach_ir.specs.declared.op.Access.{Access}
use Rattle.mach_ir.specs.declared.op.Access.TheVariants as access
use Rattle.mach_ir.specs.declared.op.Callee.{Callee}
use Rattle.mach_ir.specs.declared.op.Callee.TheVariants as callee
use Rattle.mach_ir.specs.declared.op.Calling.{Calling}
use Rattle.mach_ir.specs.declared.op.Calling.TheVariants as calling
use Rattle.mach_ir.specs.declared.op.Leaving.{Leaving}
use Rattle.mach_ir.specs.declared.op.Leaving.TheVariants as leaving
use Rattle.mach_ir.specs.declared.op.Op.{Op}
use Rattle.mach_ir.specs.declared.op.Op.TheVariants as op
use Rattle.mach_ir.specs.declared.op.Pure.{Pure}
use Rattle.mach_ir.specs.declared.op.Pure.TheVariants as pure
use Rattle.mach_ir.specs.declared.op.Right.TheVariants as right
use Rattle.lin_ir.specs.Meaning.{Locations, NamedAt, State, flow_act, lin_act, wrote, on_act, unless_misnamed, on_values, at_code, put_all, begin_linear, code_at, clear_destroyed, destroyed_by, past_frame, passes_frame, are_vals, values}
use Rattle.lin_ir.specs.declared.lin.Flow.{Flow}
use Rattle.lin_ir.specs.declared.lin.Flow.TheVariants as flow
use Rattle.lin_ir.specs.declared.lin.LinOp.{LinOp}
use Rattle.lin_ir.specs.declared.lin.LinOp.TheVariants as lin
use Rattle.lin_ir.specs.declared.lin.Lin.{Lin}
use Rattle.lin_ir.specs.declared.lin.Line.{Line}
use Rattle.linking.specs.Program.{paid_by, unit_of, IsRegularStep, IsRegularProgram}
use Rattle.linking_stages.specs.Stages.{linear_program}

-- ---- acts

-- the need of heap does not fall, and no more tries are pushed
record Further (a after : Around) : Type 0 where
  heap : heap_need a.memory ≤ heap_need after.memory
  tries : length after.tries ≤ length a.tries

-- it pays no unit
abbrev IsFree : Act → Type 0
IsFree (Jumps to after) = ⊥
IsFree (EndsRaising d) = ⊥
IsFree _ = Unit {0}

abbrev IsBehind : state.Callee → Act → Type 0
IsBehind (Inside f) x = IsFree x
IsBehind (Outside row frame) x = Unit {0}

-- what an operation does to what is round its function
abbrev Grows : Around → Act → Type 0
Grows a (Goes vs to after) = Further a after
Grows a (Pushes after) = heap_need a.memory ≤ heap_need after.memory
Grows a (Jumps to after) = Further a after
Grows a (Unwinds after) = Further a after
Grows a (Asks callee vs go) = ((d : Doing) → heap_need a.memory ≤ heap_need (memory_after d) → Grows a (go d)) × ((d : Doing) → IsBehind callee (go d))
Grows a (Replaces callee vs kept) = Unit {0}
Grows a (Ends d) = heap_need a.memory ≤ heap_need (memory_after d)
Grows a (EndsRaising d) = heap_need a.memory ≤ heap_need (memory_after d)
Grows a Stuck = Unit {0}

same : (a : Around) → Further a a
same a = record { heap = omega arith; tries = omega arith }

grows_if : (a : Around) (b : Bool) (x : Act) → Grows a x → Grows a (stuck_unless b x)
grows_if a true x g = g
grows_if a false x g = tt

result_grows : (a : Around) (r : Result Value Kind) → Grows a (one_result a r)
result_grows a (Ok v) = same a
result_grows a (Err kind) = tt

known_grows : (a : Around) (o : Option Value) → Grows a (if_known a o)
known_grows a (Some v) = same a
known_grows a None = tt

pure_grows : (c : Setting) (f : Pure) (vs : List Value) (a : Around) → Grows a (pure_act c f vs a)
pure_grows c (pure.Copy kind) [] a = tt
pure_grows c (pure.Copy kind) (v ∷ []) a = same a
pure_grows c (pure.Copy kind) (v ∷ x ∷ vs) a = tt
pure_grows c (pure.Constant w) [] a = same a
pure_grows c (pure.Constant w) (v ∷ vs) a = tt
pure_grows c (pure.Symbol name) [] a = known_grows a (c.symbol name)
pure_grows c (pure.Symbol name) (v ∷ vs) a = tt
pure_grows c (pure.Operator f right.Register) [] a = tt
pure_grows c (pure.Operator f right.Register) (x ∷ []) a = tt
pure_grows c (pure.Operator f right.Register) (x ∷ y ∷ []) a = result_grows a _
pure_grows c (pure.Operator f right.Register) (x ∷ y ∷ z ∷ vs) a = tt
pure_grows c (pure.Operator f (right.Constant w)) [] a = tt
pure_grows c (pure.Operator f (right.Constant w)) (x ∷ []) a = result_grows a _
pure_grows c (pure.Operator f (right.Constant w)) (x ∷ y ∷ vs) a = tt

-- ---- memory

loaded_grows : (a : Around) (o : Option Cell) (r : Result Value Kind) → Grows a (loaded_act a o r)
loaded_grows a None r = tt
loaded_grows a (Some cell) r = by (is_among_cells cell a.unwritten)
  where
    by : (b : Bool) → Grows a (cond b Stuck (one_result a r))
    by true = tt
    by false = result_grows a r

store_grows : (a : Around) (unwritten : List Cell) (r : Result Memory Kind) → Extended a.memory r → Grows a (after_store a unwritten r)
store_grows a unwritten _ (extended e) = record { heap = extends_need e; tries = omega arith }
store_grows a unwritten _ no_memory = tt

header_grows : (k : Chunk) (a : Around) (s : ℕ) (old new : Value) → Grows a (header_written k a s old new)
header_grows chunk.Int a s (value.Word header) (value.Word w) =
    let f : Further a (record a { unwritten = without (InHeader s) a.unwritten }) = record { heap = omega arith; tries = omega arith } in
    grows_if a (nat_eq w header) (Goes [] On (record a { unwritten = without (InHeader s) a.unwritten })) f
header_grows chunk.Int a s (value.Word header) (value.Block t o) = tt
header_grows chunk.Int a s (value.Word header) (value.Function f) = tt
header_grows chunk.Int a s (value.Block t o) new = tt
header_grows chunk.Int a s (value.Function f) new = tt
header_grows chunk.U8 a s old new = tt
header_grows chunk.I8 a s old new = tt
header_grows chunk.U16 a s old new = tt
header_grows chunk.I16 a s old new = tt
header_grows chunk.U32 a s old new = tt
header_grows chunk.I32 a s old new = tt
header_grows chunk.Val a s old new = tt

first_grows : (k : Chunk) (a : Around) (cell : Cell) (x v : Value) → Grows a (first_written k a cell x v)
first_grows k a (InHeader s) x v = header_grows k a s (value_in_cell a.memory (InHeader s)) v
first_grows k a (InBlock s n) x v = grows_if a _ _ (store_grows a (without (InBlock s n) a.unwritten) (stored k a.memory x v)
    (stored_extended k a.memory x v))
first_grows k a (InStatic l n) x v = tt

stored_grows : (k : Chunk) (a : Around) (o : Option Cell) (x v : Value) → Grows a (stored_act k a o x v)
stored_grows k a None x v = tt
stored_grows k a (Some cell) x v = by (is_among_cells cell a.unwritten)
  where
    by : (b : Bool) → Grows a (cond b (first_written k a cell x v) (after_store a a.unwritten (stored k a.memory x v)))
    by true = first_grows k a cell x v
    by false = store_grows a a.unwritten (stored k a.memory x v) (stored_extended k a.memory x v)

block_further : (b : NewBlock) (a : Around) → Further a (with_block b a)
block_further b a =
    let e : Extends a.memory (with_block b a).memory =
    record { further = shape_of (fresh_block b) ∷ []; blocks = map-append shape_of a.memory.blocks (fresh_block b ∷ []); statics = refl; roots = refl } in
    record { heap = extends_need e; tries = omega arith }

further_then : {a b c : Around} → Further a b → Further b c → Further a c
further_then p q = let h = p.heap in let g = q.heap in let t = p.tries in let u = q.tries in record
    { heap = omega (arith, h, g); tries = omega (arith, t, u) }

blocks_grow : (first : Around) (blocks : List NewBlock) (so_far : List Value) (a : Around) → Further first a → Grows first (new_blocks blocks so_far a)
blocks_grow first [] so_far a f = f
blocks_grow first (b ∷ blocks) so_far a f = blocks_grow first blocks (so_far ++ value.Block (length a.memory.blocks) 0 ∷ []) (with_block b a)
    (further_then f (block_further b a))

access_grows : (f : Access) (vs : List Value) (a : Around) → Grows a (access_act f vs a)
access_grows (access.Load k offset) [] a = tt
access_grows (access.Load k offset) (x ∷ []) a = loaded_grows a _ _
access_grows (access.Load k offset) (x ∷ y ∷ vs) a = tt
access_grows (access.Store k offset) [] a = tt
access_grows (access.Store k offset) (x ∷ []) a = tt
access_grows (access.Store k offset) (x ∷ v ∷ []) a = stored_grows k a _ _ v
access_grows (access.Store k offset) (x ∷ v ∷ y ∷ vs) a = tt
access_grows (access.Alloc blocks) [] a = grows_if a _ _ (blocks_grow a blocks [] a (same a))
access_grows (access.Alloc blocks) (v ∷ vs) a = tt

-- ---- raising

callee_raise_grows : (v : Value) (m : Memory) (a : Around) → heap_need a.memory ≤ heap_need m → (tries : List ℕ) → length tries ≤ length a.tries →
    Grows a (callee_raises v m a tries)
callee_raise_grows v m a h [] t = h
callee_raise_grows v m a h (l ∷ tries) t = record { heap = h; tries = omega (arith, t) }

raise_grows : (v : Value) (a : Around) (tries : List ℕ) → length tries ≤ length a.tries → Grows a (raised_by v a tries)
raise_grows v a [] t = omega arith
raise_grows v a (l ∷ tries) t = record { heap = omega arith; tries = omega (arith, t) }

raises_grows : (c : Setting) (v : Value) (a : Around) → Grows a (raise_act c v a)
raises_grows c v a = grows_if a _ _ (raise_grows v a a.tries (omega arith))

-- ---- calls

answered_grows : (a : Around) (end : ℕ) (result : Ret) (v : Option Value) (go : Option Value → Act) → ((v : Option Value) → Grows a (go v)) →
    Grows a (call_answered end result v go)
answered_grows a end ret.Unit v go g = g None
answered_grows a end (ret.Comp t) (Some v) go g = grows_if a _ _ (g (Some v))
answered_grows a end (ret.Comp t) None go g = tt

after_call_grows : (c : Setting) (result : Ret) (a : Around) (d : Doing) → heap_need a.memory ≤ heap_need (memory_after d) → Grows a (act_after_call c result a d)
after_call_grows c result a (Gave v m) h = answered_grows a c.end result v (λ v. Goes (as_list v) On (record a { memory = m }))
    (λ v. record { heap = h; tries = omega arith })
after_call_grows c result a (Threw v m) h = grows_if a _ _ (callee_raise_grows v m a h a.tries (omega arith))

after_external_grows : (c : Setting) (result : Ret) (frame : Bool) (a : Around) (d : Doing) → Grows a (after_external c result frame a d)
after_external_grows c result frame a (Gave v m) = answered_grows a c.end result v (λ v. Goes (as_list v) On a) (λ v. same a)
after_external_grows c result true a (Threw v m) = grows_if a _ _ (raise_grows v a a.tries (omega arith))
after_external_grows c result false a (Threw v m) = tt

free_if : (b : Bool) (x : Act) → IsFree x → IsFree (stuck_unless b x)
free_if true x f = f
free_if false x f = tt

answered_free : (end : ℕ) (result : Ret) (v : Option Value) (go : Option Value → Act) → ((v : Option Value) → IsFree (go v)) →
    IsFree (call_answered end result v go)
answered_free end ret.Unit v go g = g None
answered_free end (ret.Comp t) (Some v) go g = free_if _ _ (g (Some v))
answered_free end (ret.Comp t) None go g = tt

callee_raise_free : (v : Value) (m : Memory) (a : Around) (tries : List ℕ) → IsFree (callee_raises v m a tries)
callee_raise_free v m a [] = tt
callee_raise_free v m a (l ∷ tries) = tt

after_call_free : (c : Setting) (result : Ret) (a : Around) (d : Doing) → IsFree (act_after_call c result a d)
after_call_free c result a (Gave v m) = answered_free c.end result v (λ v. Goes (as_list v) On (record a { memory = m })) (λ v. tt)
after_call_free c result a (Threw v m) = free_if _ _ (callee_raise_free v m a a.tries)

asks_grows : (c : Setting) (o : Option (List Comp)) (f : ℕ) (vs : List Value) (a : Around) (call : state.Callee → List Value → Act) →
    ((vs : List Value) → Grows a (call (Inside f) vs)) →
    Grows a (asks c o f vs a call)
asks_grows c None f vs a call g = tt
asks_grows c (Some comps) f vs a call g = grows_if a _ _ (g vs)

asks_value_grows : (c : Setting) (o : Option Value) (vs : List Value) (a : Around) (call : state.Callee → List Value → Act) →
    ((f : ℕ) (vs : List Value) → Grows a (call (Inside f) vs)) →
    Grows a (asks_value c o vs a call)
asks_value_grows c (Some (value.Function f)) vs a call g = asks_grows c (slice_get c.parameters f) f vs a call (g f)
asks_value_grows c (Some (value.Word w)) vs a call g = tt
asks_value_grows c (Some (value.Block s o)) vs a call g = tt
asks_value_grows c None vs a call g = tt

asks_callee_grows : (c : Setting) (f : Callee) (vs : List Value) (a : Around) (call : state.Callee → List Value → Act) →
    ((f : ℕ) (vs : List Value) → Grows a (call (Inside f) vs)) →
    Grows a (asks_callee c f vs a call)
asks_callee_grows c (callee.Symbol name) vs a call g = asks_value_grows c (c.symbol name) vs a call g
asks_callee_grows c callee.Register [] a call g = tt
asks_callee_grows c callee.Register (v ∷ vs) a call g = asks_value_grows c (Some v) vs a call g

calling_grows : (c : Setting) (f : Calling) (vs : List Value) (a : Around) → Grows a (calling_act c f vs a)
calling_grows c (calling.Call whom result) vs a =
    asks_callee_grows c whom vs a (λ f arguments. Asks f arguments (act_after_call c result a))
    (λ f vs. (λ d h. after_call_grows c result a d h, λ d. after_call_free c result a d))
calling_grows c (calling.TailCall whom result) vs a = asks_callee_grows c whom vs a (λ f arguments. Replaces f arguments result) (λ f vs. tt)
calling_grows c (calling.External row frame) vs a = grows_if a (is_complete a)
    (Asks (Outside (external_row row) frame) vs (after_external c row.result frame a)) (λ d h. after_external_grows c row.result frame a d, λ d. tt)

-- ---- leaving

checked_grows : (c : Setting) (bound index : Result ℕ Kind) (a : Around) → Grows a (checked c bound index a)
checked_grows c (Ok bound) (Ok index) a = by _
  where
    by : (b : Bool) → Grows a (cond b (Goes [] On a) (raise_act c bound_error a))
    by true = same a
    by false = raises_grows c bound_error a
checked_grows c (Ok bound) (Err kind) a = tt
checked_grows c (Err kind) index a = tt

leaving_grows : (c : Setting) (f : Leaving) (vs : List Value) (a : Around) → Grows a (leaving_act c f vs a)
leaving_grows c (leaving.Checkbound right.Register) [] a = tt
leaving_grows c (leaving.Checkbound right.Register) (x ∷ []) a = tt
leaving_grows c (leaving.Checkbound right.Register) (x ∷ y ∷ []) a = checked_grows c (word_in x) (word_in y) a
leaving_grows c (leaving.Checkbound right.Register) (x ∷ y ∷ z ∷ vs) a = tt
leaving_grows c (leaving.Checkbound (right.Constant w)) [] a = tt
leaving_grows c (leaving.Checkbound (right.Constant w)) (x ∷ []) a = checked_grows c (word_in x) (Ok w) a
leaving_grows c (leaving.Checkbound (right.Constant w)) (x ∷ y ∷ vs) a = tt
leaving_grows c leaving.Raise [] a = tt
leaving_grows c leaving.Raise (v ∷ []) a = raises_grows c v a
leaving_grows c leaving.Raise (v ∷ x ∷ vs) a = tt
leaving_grows c leaving.Return [] a = grows_if a _ (Ends (Gave None a.memory)) (omega arith)
leaving_grows c leaving.Return (v ∷ []) a = grows_if a _ (Ends (Gave (Some v) a.memory)) (omega arith)
leaving_grows c leaving.Return (v ∷ x ∷ vs) a = tt

op_grows : (c : Setting) (f : Op) (vs : List Value) (a : Around) → Grows a (act c f vs a)
op_grows c (op.Pure f) vs a = pure_grows c f vs a
op_grows c (op.Access f) vs a = access_grows f vs a
op_grows c (op.Calling f) vs a = calling_grows c f vs a
op_grows c (op.Leaving f) vs a = leaving_grows c f vs a

-- ---- flow

dropped : (n : ℕ) (tries : List ℕ) → length (drop_tries n tries) ≤ length tries
dropped zero tries = omega arith
dropped (suc n) [] = omega arith
dropped (suc n) (l ∷ tries) = let h = dropped n tries in omega (arith, h)

branch_grows : (a : Around) (one other : Target) (o : Option Bool) → Grows a (goes_by_test a one other o)
branch_grows a one other (Some b) = same a
branch_grows a one other None = tt

case_grows : (a : Around) (labels : List ℕ) (r : Result ℕ Kind) → Grows a (goes_to_case a labels r)
case_grows a labels (Err kind) = tt
case_grows a [] (Ok n) = tt
case_grows a (l ∷ labels) (Ok zero) = same a
case_grows a (l ∷ labels) (Ok (suc n)) = case_grows a labels (Ok n)

switch_grows : (a : Around) (labels : List ℕ) (vs : List Value) → Grows a (switched a labels vs)
switch_grows a labels [] = tt
switch_grows a labels (v ∷ []) = case_grows a labels (word_in v)
switch_grows a labels (v ∷ x ∷ vs) = tt

taken_grows : (a : Around) (o : Option Value) → Grows a (if_known (record a { raised = None }) o)
taken_grows a (Some v) = record { heap = omega arith; tries = omega arith }
taken_grows a None = tt

flow_grows : (f : Flow) (vs : List Value) (a : Around) → Grows a (flow_act f vs a)
flow_grows (flow.Label l) [] a = same a
flow_grows (flow.Label l) (v ∷ vs) a = tt
flow_grows (flow.Jump l) [] a = same a
flow_grows (flow.Jump l) (v ∷ vs) a = tt
flow_grows (flow.Exit l) [] a = same a
flow_grows (flow.Exit l) (v ∷ vs) a = tt
flow_grows (flow.Branch t l) vs a = branch_grows a (At l) On _
flow_grows (flow.Switch labels) vs a = switch_grows a labels vs
flow_grows (flow.PushTrap l) [] a = omega arith
flow_grows (flow.PushTrap l) (v ∷ vs) a = tt
flow_grows flow.PopTrap [] a = record { heap = omega arith; tries = dropped 1 a.tries }
flow_grows flow.PopTrap (v ∷ vs) a = tt
flow_grows flow.EnterTrap [] a = taken_grows a a.raised
flow_grows flow.EnterTrap (v ∷ vs) a = tt

lin_grows : (c : Setting) (f : LinOp) (vs : List Value) (a : Around) → Grows a (lin_act c f vs a)
lin_grows c (lin.Op f) vs a = op_grows c f vs a
lin_grows c (lin.Flow f) vs a = flow_grows f vs a

-- ---- steps

module _ (functions : ℕ → Lin) (named : ℕ → NamedAt) (c : ActivationSetting) where
  abbrev IsRegular' : ℕ → ℕ → Step State → Type 0
  IsRegular' stack heap x = IsRegularStep State (linear_program functions named) c stack heap x

  wrote_regular : (a after : Around) (rest : List Line) (o : Option Locations) → Further a after →
      IsRegular' (stack_in_use c a) (heap_need a.memory) (wrote rest after o)
  wrote_regular a after rest None f = tt
  wrote_regular a after rest (Some file) f = let t = f.tries in (omega (arith, t), f.heap)

  wrote_free : (a : Around) (rest : List Line) (o : Option Locations) → paid_by (wrote rest a o) ≡ 0
  wrote_free a rest None = refl
  wrote_free a rest (Some file) = refl

  paid_once : (x : Step State) → paid_by x ≤ 1
  paid_once (Continues s) = omega arith
  paid_once (Pays s) = omega arith
  paid_once (Deepens bytes s) = omega arith
  paid_once (Waits call go) = omega arith
  paid_once (FinishesBy call kept) = omega arith
  paid_once (Finishes d) = omega arith
  paid_once (FinishesRaising d) = omega arith
  paid_once IsStuck = omega arith

  module _ (m : Lin) (i : Line) (next : List Line) (file : Locations) (a : Around) where
    free_paid : (x : Act) → IsFree x → paid_by (on_act c m i next file a x) ≡ 0
    free_paid (Goes vs to after) f = wrote_free after (code_at m.code next to) (put_all c.setting.end i.results vs (clear_destroyed (destroyed_by i.op) file))
    free_paid (Pushes after) f = refl
    free_paid (Jumps to after) f = absurd f
    free_paid (Unwinds after) f = refl
    free_paid (Asks callee vs go) f = refl
    free_paid (Replaces callee vs kept) f = refl
    free_paid (Ends d) f = refl
    free_paid (EndsRaising d) f = absurd f
    free_paid Stuck f = refl

    behind_paid : (callee : state.Callee) (x : Act) → IsBehind callee x → paid_by (on_act c m i next file a x) + unit_of callee ≤ 1
    behind_paid (Inside f) x free = let e = free_paid x free in omega (arith, e)
    behind_paid (Outside row frame) x free = let e = paid_once (on_act c m i next file a x) in omega (arith, e)

    act_regular : (x : Act) → Grows a x → IsRegular' (stack_in_use c a) (heap_need a.memory) (on_act c m i next file a x)
    act_regular (Goes vs to after) g = wrote_regular a after (code_at m.code next to) (put_all c.setting.end i.results vs (clear_destroyed (destroyed_by i.op) file)) g
    act_regular (Pushes after) g = (omega arith, g)
    act_regular (Jumps to after) g = let t = g.tries in (omega (arith, t), g.heap)
    act_regular (Unwinds after) g = let t = g.tries in (omega (arith, t), g.heap)
    act_regular (Asks callee vs go) g = (omega arith, λ d. behind_paid callee (go d) (g.1 d), λ d h. act_regular (go d) (g.0 d h))
    act_regular (Replaces callee vs kept) g = omega arith
    act_regular (Ends d) g = g
    act_regular (EndsRaising d) g = g
    act_regular Stuck g = tt

    misnamed_regular : (stack heap : ℕ) (b : Bool) (x : Step State) → IsRegular' stack heap x → IsRegular' stack heap (unless_misnamed b x)
    misnamed_regular stack heap true x g = g
    misnamed_regular stack heap false x g = tt

  values_regular : (m : Lin) (names : List _) (i : Line) (next : List Line) (file : Locations) (a : Around) (o : Option (List Value)) →
      IsRegular' (stack_in_use c a) (heap_need a.memory) (on_values c names m i next file a o)
  values_regular m names i next file a None = tt
  values_regular m names i next file a (Some vs) =
      misnamed_regular m i next file a (stack_in_use c a) (heap_need a.memory) (not (passes_frame i.op) || are_vals c.setting.end names file) _
      (act_regular m i next (past_frame (passes_frame i.op) names file) a (lin_act c.setting i.op vs a) (lin_grows c.setting i.op vs a))

  code_regular : (named : NamedAt) (m : Lin) (rest : List Line) (file : Locations) (a : Around) →
      IsRegular' (stack_in_use c a) (heap_need a.memory) (at_code c named m rest file a)
  code_regular named m [] file a = tt
  code_regular named m (i ∷ next) file a = values_regular m (named (length next)) i next file a (values c.setting.end file i.args)

start_taken : (c : ActivationSetting) (m : Lin) (memory : Memory) (o : Option Locations) (s : State) → begin_linear m memory o ≡ Some s → stack_in_use c s.around ≤ c.below + c.frame
start_taken c m memory None s e = absurd (cc)
start_taken c m memory (Some file) s e =
    let t : length s.around.tries ≡ 0 = ap (λ (o : Option State). tries_in o) (sym e) in
    omega (arith, t)
  where
    tries_in : Option State → ℕ
    tries_in None = 0
    tries_in (Some s) = length s.around.tries

-- The Linear program is regular.
pub linear_regular : (functions : ℕ → Lin) (named : ℕ → NamedAt) → IsRegularProgram State (linear_program functions named)
linear_regular functions named =
    record {
      start = λ f c arguments memory s e. start_taken c (functions f) memory (put_all c.setting.end (functions f).params arguments (λ l. None)) s e;
      step = λ f c s. code_regular functions named c (named f) (functions f) s.rest s.file s.around;
    }
