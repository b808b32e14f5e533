-- Steps that make no call: what follows them says nothing of calls.
use Rattle.std.proofs.Common.{ℕ, zero, suc, Bool, true, false, cond, not, ◌&&◌, ◌||◌, nat_eq, nat_lt, List, [], ◌∷◌, length, Option, Some, None, Result, Ok, Err, slice_get, sym, subst}
use Rattle.bs_words.specs.Fits.{fits}
use Rattle.bs_words.specs.Memory.{Cell, InBlock, InHeader, InStatic, Memory, cell_at, loaded, sizes, stored, value_in_cell, width}
use Rattle.bs_words.specs.Operators.{apply, word_in}
use Rattle.bs_words.specs.declared.types.Chunk.{Chunk}
use Rattle.bs_words.specs.declared.types.Chunk.TheVariants as chunk
use Rattle.bs_words.specs.declared.types.Comp.{Comp}
use Rattle.bs_words.specs.declared.types.Ret.{Ret}
use Rattle.bs_words.specs.declared.types.Ty.TheVariants as ty
use Rattle.bs_words.specs.declared.values.Kind.{Kind}
use Rattle.bs_words.specs.declared.values.Value.{Value}
use Rattle.bs_words.specs.declared.values.Value.TheVariants.{Word, Block, Function}
use Rattle.cmm_meaning.specs.Evaluation.{bound_error, fit_parameters}
use Rattle.cmm_meaning.specs.Setting.{Setting}
use Rattle.lin_ir.specs.Meaning.{Locations, NamedAt, State, are_vals, clear_destroyed, code_at, destroyed_by, flow_act, lin_act, on_act, on_values, passes_frame, past_frame, put_all, step, unless_misnamed, values, wrote}
use Rattle.lin_ir.specs.declared.lin.Flow.{Flow}
use Rattle.lin_ir.specs.declared.lin.Flow.TheVariants as flow
use Rattle.lin_ir.specs.declared.lin.Lin.{Lin}
use Rattle.lin_ir.specs.declared.lin.Line.{Line}
use Rattle.lin_ir.specs.declared.lin.LinOp.{LinOp}
use Rattle.lin_ir.specs.declared.lin.LinOp.TheVariants as lin
use Rattle.mach_ir.specs.Acts.{Act, Around, Asks, At, Ends, EndsRaising, Goes, Jumps, On, Pushes, Replaces, Stuck, Target, Unwinds, access_act, after_store, asks, asks_callee, asks_value, goes_by_test, checked, first_written, goes_to_case, header_written, if_known, is_among_cells, is_complete, leaving_act, loaded_act, moved_by, one_result, stuck_unless, pure_act, raised_by, raise_act, stored_act, truth_of, without}
use Rattle.mach_ir.specs.Runs.{Continues, Deepens, Finishes, FinishesBy, FinishesRaising, IsStuck, Pays, ActivationSetting, Step, Waits}
use Rattle.mach_ir.specs.declared.blocks.NewBlock.{NewBlock}
use Rattle.mach_ir.specs.declared.op.Access.{Access}
use Rattle.mach_ir.specs.declared.op.Access.TheVariants as access
use Rattle.mach_ir.specs.declared.op.Callee.{Callee}
use Rattle.mach_ir.specs.declared.op.Callee.TheVariants as callee
use Rattle.mach_ir.specs.declared.op.Calling.TheVariants as calling
use Rattle.mach_ir.specs.declared.op.External as declared
use Rattle.mach_ir.specs.declared.op.Leaving.{Leaving}
use Rattle.mach_ir.specs.declared.op.Leaving.TheVariants as leaving
use Rattle.mach_ir.specs.declared.op.Op.TheVariants as op
use Rattle.mach_ir.specs.declared.op.Pure.{Pure}
use Rattle.mach_ir.specs.declared.op.Pure.TheVariants as pure
use Rattle.mach_ir.specs.declared.op.Right.TheVariants as right
use Rattle.lin_machine.specs.Follows.{FollowsStep}
use Rattle.lin_machine.specs.Relation.{Below, Laid}
use Rattle.lin_machine.specs.View.{Fixed, View}
use Rattle.line_calls.specs.Calls.{FollowsSo}
use Rattle.line_calls.proofs.Blocks.{blocks_are_made}

abbrev pub NoWait : Step State → Type 0
NoWait (Waits call go) = ⊥
NoWait (Continues u) = Unit {0}
NoWait (Pays u) = Unit {0}
NoWait (Deepens bytes u) = Unit {0}
NoWait (FinishesBy call kept) = Unit {0}
NoWait (Finishes d) = Unit {0}
NoWait (FinishesRaising d) = Unit {0}
NoWait IsStuck = Unit {0}

abbrev pub NoAsk : Act → Type 0
NoAsk (Asks callee xs go) = ⊥
NoAsk (Goes xs to a) = Unit {0}
NoAsk (Pushes a) = Unit {0}
NoAsk (Jumps to a) = Unit {0}
NoAsk (Unwinds a) = Unit {0}
NoAsk (Replaces callee xs kept) = Unit {0}
NoAsk (Ends d) = Unit {0}
NoAsk (EndsRaising d) = Unit {0}
NoAsk Stuck = Unit {0}

wrote_no : (rest : List Line) (a : Around) (o : Option Locations) → NoWait (wrote rest a o)
wrote_no rest a None = tt
wrote_no rest a (Some f) = tt

pub act_no : (place : ActivationSetting) (m : Lin) (i : Line) (next : List Line) (f : Locations) (a : Around) (act : Act) → NoAsk act →
    NoWait (on_act place m i next f a act)
act_no place m i next f a (Asks callee xs go) h = absurd h
act_no place m i next f a (Goes xs to b) h =
    wrote_no (code_at m.code next to) b (put_all place.setting.end i.results xs (clear_destroyed (destroyed_by i.op) f))
act_no place m i next f a (Pushes b) h = tt
act_no place m i next f a (Jumps to b) h = tt
act_no place m i next f a (Unwinds b) h = tt
act_no place m i next f a (Replaces callee xs kept) h = tt
act_no place m i next f a (Ends d) h = tt
act_no place m i next f a (EndsRaising d) h = tt
act_no place m i next f a Stuck h = tt

pub so_without :
    (n : ℕ) (s : Fixed) (laid : Laid) (live : List Line → Type 0) (entry : ℕ → ℕ) (c : Below) (v : View) (used : ℕ) (x : Step State) → NoWait x →
    FollowsStep n s laid live entry c v x → FollowsSo n s laid live entry c v used x
so_without n s laid live entry c v used (Waits call go) h f = absurd h
so_without n s laid live entry c v used (Continues u) h f = record { follows = f; calls = tt }
so_without n s laid live entry c v used (Pays u) h f = record { follows = f; calls = tt }
so_without n s laid live entry c v used (Deepens bytes u) h f = record { follows = f; calls = tt }
so_without n s laid live entry c v used (FinishesBy call kept) h f = record { follows = f; calls = tt }
so_without n s laid live entry c v used (Finishes d) h f = record { follows = f; calls = tt }
so_without n s laid live entry c v used (FinishesRaising d) h f = record { follows = f; calls = tt }
so_without n s laid live entry c v used IsStuck h f = record { follows = f; calls = tt }

-- ---- what lines do

unless_no : (t : Bool) (x : _) → NoWait x → NoWait (unless_misnamed t x)
unless_no false x h = tt
unless_no true x h = h

pub values_no :
    (place : ActivationSetting) (named : _) (m : Lin) (i : Line) (next : List Line) (f : Locations) (a : Around) (o : Option (List Value)) →
    ((vs : List Value) → NoAsk (lin_act place.setting i.op vs a)) → NoWait (on_values place named m i next f a o)
values_no place named m i next f a None h = tt
values_no place named m i next f a (Some vs) h =
    unless_no (not (passes_frame i.op) || are_vals place.setting.end named f) _
    (act_no place m i next (past_frame (passes_frame i.op) named f) a (lin_act place.setting i.op vs a) (h vs))

only_no : (t : Bool) (x : Act) → NoAsk x → NoAsk (stuck_unless t x)
only_no false x h = tt
only_no true x h = h

asks_no : (c : Setting) (result : Ret) (o : Option Value) (xs : List Value) (a : Around) → NoAsk (asks_value c o xs a (λ f ys. Replaces f ys result))
asks_no c result None xs a = tt
asks_no c result (Some (Word w)) xs a = tt
asks_no c result (Some (Block b q)) xs a = tt
asks_no c result (Some (Function f)) xs a = by_parameters (slice_get c.parameters f)
  where
    by_parameters : (o : Option (List Comp)) → NoAsk (asks c o f xs a (λ f ys. Replaces f ys result))
    by_parameters None = tt
    by_parameters (Some cs) = only_no (fit_parameters c.end cs xs && is_complete a) _ tt

pub tail_no : (c : Setting) (whom : Callee) (result : Ret) (vs : List Value) (a : Around) → NoAsk (asks_callee c whom vs a (λ f ys. Replaces f ys result))
tail_no c (callee.Symbol name) result vs a = asks_no c result (c.symbol name) vs a
tail_no c callee.Register result [] a = tt
tail_no c callee.Register result (x ∷ xs) a = asks_no c result (Some x) xs a

pub return_no : (c : Setting) (vs : List Value) (a : Around) → NoAsk (lin_act c (lin.Op (op.Leaving leaving.Return)) vs a)
return_no c [] a = only_no (is_complete a) _ tt
return_no c (x ∷ []) a = only_no (is_complete a) _ tt
return_no c (x ∷ y ∷ ys) a = tt

raised_no : (x : Value) (a : Around) (tries : List ℕ) → NoAsk (raised_by x a tries)
raised_no x a [] = tt
raised_no x a (l ∷ rest) = tt

pub raise_no : (c : Setting) (vs : List Value) (a : Around) → NoAsk (lin_act c (lin.Op (op.Leaving leaving.Raise)) vs a)
raise_no c [] a = tt
raise_no c (x ∷ []) a = only_no _ _ (raised_no x a a.tries)
raise_no c (x ∷ y ∷ ys) a = tt

pub alloc_no : (c : Setting) (blocks : List NewBlock) (vs : List Value) (a : Around) → NoAsk (lin_act c (lin.Op (op.Access (access.Alloc blocks))) vs a)
alloc_no c blocks [] a = only_no (is_complete a) _ (subst NoAsk (sym (blocks_are_made blocks [] a)) tt)
alloc_no c blocks (x ∷ xs) a = tt

pub enter_no : (c : Setting) (a : Around) (o : Option Value) → NoAsk (if_known (record a { raised = None }) o)
enter_no c a None = tt
enter_no c a (Some x) = tt

result_no : (a : Around) (r : Result Value Kind) → NoAsk (one_result a r)
result_no a (Ok x) = tt
result_no a (Err kind) = tt

known_no : (a : Around) (o : Option Value) → NoAsk (if_known a o)
known_no a None = tt
known_no a (Some x) = tt

pure_no : (c : Setting) (f : Pure) (vs : List Value) (a : Around) → NoAsk (pure_act c f vs a)
pure_no c (pure.Copy kind) [] a = tt
pure_no c (pure.Copy kind) (x ∷ []) a = tt
pure_no c (pure.Copy kind) (x ∷ y ∷ ys) a = tt
pure_no c (pure.Constant w) [] a = tt
pure_no c (pure.Constant w) (x ∷ xs) a = tt
pure_no c (pure.Symbol name) [] a = known_no a (c.symbol name)
pure_no c (pure.Symbol name) (x ∷ xs) a = tt
pure_no c (pure.Operator f right.Register) [] a = tt
pure_no c (pure.Operator f right.Register) (x ∷ []) a = tt
pure_no c (pure.Operator f right.Register) (x ∷ y ∷ []) a = result_no a (apply f (sizes a.memory) x y)
pure_no c (pure.Operator f right.Register) (x ∷ y ∷ z ∷ zs) a = tt
pure_no c (pure.Operator f (right.Constant w)) [] a = tt
pure_no c (pure.Operator f (right.Constant w)) (x ∷ []) a = result_no a (apply f (sizes a.memory) x (Word w))
pure_no c (pure.Operator f (right.Constant w)) (x ∷ y ∷ ys) a = tt

loaded_no : (a : Around) (o : Option Cell) (r : Result Value Kind) → NoAsk (loaded_act a o r)
loaded_no a None r = tt
loaded_no a (Some cell) r = by_test (is_among_cells cell a.unwritten)
  where
    by_test : (t : Bool) → NoAsk (cond t Stuck (one_result a r))
    by_test true = tt
    by_test false = result_no a r

after_no : (a : Around) (cells : List Cell) (r : Result Memory Kind) → NoAsk (after_store a cells r)
after_no a cells (Ok memory) = tt
after_no a cells (Err kind) = tt

header_no : (k : Chunk) (a : Around) (q : ℕ) (x v : Value) → NoAsk (header_written k a q x v)
header_no chunk.Int a q (Word header) (Word w) = only_no (nat_eq w header) _ tt
header_no chunk.Int a q (Word header) (Block s o) = tt
header_no chunk.Int a q (Word header) (Function f) = tt
header_no chunk.Int a q (Block s o) v = tt
header_no chunk.Int a q (Function f) v = tt
header_no chunk.U8 a q x v = tt
header_no chunk.I8 a q x v = tt
header_no chunk.U16 a q x v = tt
header_no chunk.I16 a q x v = tt
header_no chunk.U32 a q x v = tt
header_no chunk.I32 a q x v = tt
header_no chunk.Val a q x v = tt

first_no : (k : Chunk) (a : Around) (cell : Cell) (x v : Value) → NoAsk (first_written k a cell x v)
first_no k a (InHeader q) x v = header_no k a q (value_in_cell a.memory (InHeader q)) v
first_no k a (InBlock q j) x v = only_no (nat_eq (width k) 8) _ (after_no a (without (InBlock q j) a.unwritten) (stored k a.memory x v))
first_no k a (InStatic l j) x v = tt

stored_no : (k : Chunk) (a : Around) (o : Option Cell) (x v : Value) → NoAsk (stored_act k a o x v)
stored_no k a None x v = tt
stored_no k a (Some cell) x v = by_test (is_among_cells cell a.unwritten)
  where
    by_test : (t : Bool) → NoAsk (cond t (first_written k a cell x v) (after_store a a.unwritten (stored k a.memory x v)))
    by_test true = first_no k a cell x v
    by_test false = after_no a a.unwritten (stored k a.memory x v)

access_no : (f : Access) (vs : List Value) (a : Around) → NoAsk (access_act f vs a)
access_no (access.Load k offset) [] a = tt
access_no (access.Load k offset) (x ∷ []) a =
    loaded_no a (cell_at a.memory (width k) (moved_by offset x)) (loaded k a.memory (moved_by offset x))
access_no (access.Load k offset) (x ∷ y ∷ ys) a = tt
access_no (access.Store k offset) [] a = tt
access_no (access.Store k offset) (x ∷ []) a = tt
access_no (access.Store k offset) (x ∷ v ∷ []) a = stored_no k a (cell_at a.memory (width k) (moved_by offset x)) (moved_by offset x) v
access_no (access.Store k offset) (x ∷ v ∷ y ∷ ys) a = tt
access_no (access.Alloc blocks) [] a = only_no (is_complete a) _ (subst NoAsk (sym (blocks_are_made blocks [] a)) tt)
access_no (access.Alloc blocks) (x ∷ xs) a = tt

checked_no : (c : Setting) (bound index : Result ℕ Kind) (a : Around) → NoAsk (checked c bound index a)
checked_no c (Err kind) index a = tt
checked_no c (Ok bound) (Err kind) a = tt
checked_no c (Ok bound) (Ok index) a = by_test (nat_lt index bound)
  where
    by_test : (t : Bool) → NoAsk (cond t (Goes [] On a) (raise_act c bound_error a))
    by_test true = tt
    by_test false = only_no (is_complete a && fits c.end ty.Val bound_error) _ (raised_no bound_error a a.tries)

leaving_no : (c : Setting) (f : Leaving) (vs : List Value) (a : Around) → NoAsk (leaving_act c f vs a)
leaving_no c leaving.Return vs a = return_no c vs a
leaving_no c leaving.Raise vs a = raise_no c vs a
leaving_no c (leaving.Checkbound right.Register) [] a = tt
leaving_no c (leaving.Checkbound right.Register) (x ∷ []) a = tt
leaving_no c (leaving.Checkbound right.Register) (x ∷ y ∷ []) a = checked_no c (word_in x) (word_in y) a
leaving_no c (leaving.Checkbound right.Register) (x ∷ y ∷ z ∷ zs) a = tt
leaving_no c (leaving.Checkbound (right.Constant w)) [] a = tt
leaving_no c (leaving.Checkbound (right.Constant w)) (x ∷ []) a = checked_no c (word_in x) (Ok w) a
leaving_no c (leaving.Checkbound (right.Constant w)) (x ∷ y ∷ ys) a = tt

branches_no : (a : Around) (t e : Target) (o : Option Bool) → NoAsk (goes_by_test a t e o)
branches_no a t e None = tt
branches_no a t e (Some b) = tt

case_no : (a : Around) (labels : List ℕ) (r : Result ℕ Kind) → NoAsk (goes_to_case a labels r)
case_no a labels (Err kind) = tt
case_no a [] (Ok q) = tt
case_no a (l ∷ labels) (Ok zero) = tt
case_no a (l ∷ labels) (Ok (suc q)) = case_no a labels (Ok q)

flow_no : (f : Flow) (vs : List Value) (a : Around) → NoAsk (flow_act f vs a)
flow_no (flow.Label l) [] a = tt
flow_no (flow.Label l) (x ∷ xs) a = tt
flow_no (flow.Jump l) [] a = tt
flow_no (flow.Jump l) (x ∷ xs) a = tt
flow_no (flow.Exit l) [] a = tt
flow_no (flow.Exit l) (x ∷ xs) a = tt
flow_no (flow.Branch t l) vs a = branches_no a (At l) On (truth_of (sizes a.memory) t vs)
flow_no (flow.Switch labels) [] a = tt
flow_no (flow.Switch labels) (x ∷ []) a = case_no a labels (word_in x)
flow_no (flow.Switch labels) (x ∷ y ∷ ys) a = tt
flow_no (flow.PushTrap l) [] a = tt
flow_no (flow.PushTrap l) (x ∷ xs) a = tt
flow_no flow.PopTrap [] a = tt
flow_no flow.PopTrap (x ∷ xs) a = tt
flow_no flow.EnterTrap [] a = known_no (record a { raised = None }) a.raised
flow_no flow.EnterTrap (x ∷ xs) a = tt

-- calls that come back
pub data Comes : LinOp → Type 0 where
  of_function : {whom : Callee} {result : Ret} → Comes (lin.Op (op.Calling (calling.Call whom result)))
  of_outside : {row : declared.External} {frame : Bool} → Comes (lin.Op (op.Calling (calling.External row frame)))

line_no : (c : Setting) (o : LinOp) (vs : List Value) (a : Around) → (Comes o → ⊥) → NoAsk (lin_act c o vs a)
line_no c (lin.Op (op.Pure f)) vs a h = pure_no c f vs a
line_no c (lin.Op (op.Access f)) vs a h = access_no f vs a
line_no c (lin.Op (op.Leaving f)) vs a h = leaving_no c f vs a
line_no c (lin.Op (op.Calling (calling.Call whom result))) vs a h = absurd (h of_function)
line_no c (lin.Op (op.Calling (calling.TailCall whom result))) vs a h = tail_no c whom result vs a
line_no c (lin.Op (op.Calling (calling.External row frame))) vs a h = absurd (h of_outside)
line_no c (lin.Flow f) vs a h = flow_no f vs a

-- No other line waits for a call.
pub step_no : (place : ActivationSetting) (named : NamedAt) (m : Lin) (i : Line) (next : List Line) (f : Locations) (a : Around) → (Comes i.op → ⊥) →
    NoWait (step place named m (record { rest = i ∷ next; file = f; around = a }))
step_no place named m i next f a h =
    values_no place (named (length next)) m i next f a (values place.setting.end f i.args) (λ vs. line_no place.setting i.op vs a h)
