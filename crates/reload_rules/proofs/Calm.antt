-- A raised value is round none but handlers: where none is raised, an operation leaves none behind where it goes on.
use Rattle.std.proofs.Common.{◌≡◌, ℕ, zero, suc, Bool, true, false, cond, List, [], ◌∷◌, Option, Some, None, Result, Ok, Err, refl}
use Rattle.std.proofs.lemmas.Bool.{both_ways}
use Rattle.std.specs.Prelude.{slice_get}
use Rattle.bs_words.specs.Memory.{Memory, Cell, InHeader, InBlock, InStatic, sizes, stored, value_in_cell}
use Rattle.bs_words.specs.Operators.{apply, word_in}
use Rattle.bs_words.specs.declared.types.Chunk.{Chunk}
use Rattle.bs_words.specs.declared.types.Chunk.TheVariants as chunk
use Rattle.bs_words.specs.declared.types.Comp.{Comp}
use Rattle.bs_words.specs.declared.types.Ret.{Ret}
use Rattle.bs_words.specs.declared.types.Ret.TheVariants as ret
use Rattle.bs_words.specs.declared.values.Kind.{Kind}
use Rattle.bs_words.specs.declared.values.Value.{Value}
use Rattle.bs_words.specs.declared.values.Value.TheVariants as value
use Rattle.cmm_meaning.specs.Evaluation.{bound_error}
use Rattle.cmm_meaning.specs.State.{Doing, Gave, Threw, Callee, Inside}
use Rattle.mach_ir.specs.Acts as acts
use Rattle.cmm_meaning.specs.Setting.{Setting}
use Rattle.mach_ir.specs.Acts.{Around, Target, On, At, AtLabel, AtHandler, Act, Goes, Pushes, Jumps, Unwinds, Asks, Replaces, Ends, EndsRaising, Stuck, stuck_unless}
use Rattle.mach_ir.specs.Meaning.{mark_act, mach_act, is_handler_of, from_handler, at_handler}
use Rattle.mach_ir.specs.declared.op.Right.TheVariants as right
use Rattle.mach_ir.specs.declared.op.Pure.{Pure}
use Rattle.mach_ir.specs.declared.op.Pure.TheVariants as pure
use Rattle.mach_ir.specs.declared.blocks.NewBlock.{NewBlock}
use Rattle.mach_ir.specs.declared.op.Access.{Access}
use Rattle.mach_ir.specs.declared.op.Access.TheVariants as access
use Rattle.mach_ir.specs.declared.op.Callee.TheVariants as callee
use Rattle.mach_ir.specs.declared.op.Callee as declared
use Rattle.mach_ir.specs.declared.op.Calling.{Calling}
use Rattle.mach_ir.specs.declared.op.Calling.TheVariants as calling
use Rattle.mach_ir.specs.declared.op.Leaving.{Leaving}
use Rattle.mach_ir.specs.declared.op.Leaving.TheVariants as leaving
use Rattle.mach_ir.specs.declared.op.Op.TheVariants as op
use Rattle.mach_ir.specs.declared.mach.Test.{Test}
use Rattle.mach_ir.specs.declared.mach.Mark.{Mark}
use Rattle.mach_ir.specs.declared.mach.Mark.TheVariants as mark
use Rattle.mach_ir.specs.declared.mach.Instr.{Instr}
use Rattle.mach_ir.specs.declared.mach.MachOp.{MachOp}
use Rattle.mach_ir.specs.declared.mach.MachOp.TheVariants as mach
use Rattle.mach_ir.specs.Acts.{AtLabel, AtHandler}

abbrev IsCalm : Around → Type 0
IsCalm a = a.raised ≡ None

-- no value is raised where it goes on, or at a label
pub data Calm : Act → Type 0 where
  calm_go : {vs : List Value} {to : Target} {after : Around} → after.raised ≡ None → Calm (Goes vs to after)
  calm_push : {after : Around} → after.raised ≡ None → Calm (Pushes after)
  calm_label : {l : ℕ} {after : Around} → after.raised ≡ None → Calm (Jumps (AtLabel l) after)
  calm_handler : {after : Around} → Calm (Jumps AtHandler after)
  calm_unwind : {after : Around} → Calm (Unwinds after)
  calm_ask : {whom : Callee} {vs : List Value} {go : Doing → Act} → ((d : Doing) → Calm (go d)) → Calm (Asks whom vs go)
  calm_replace : {whom : Callee} {vs : List Value} {kept : Ret} → Calm (Replaces whom vs kept)
  calm_end : {d : Doing} → Calm (Ends d)
  calm_raise : {d : Doing} → Calm (EndsRaising d)
  calm_stuck : Calm Stuck

only_calm : (b : Bool) (act : Act) → Calm act → Calm (stuck_unless b act)
only_calm true act w = w
only_calm false act w = calm_stuck

cond_calm : (b : Bool) (x y : Act) → Calm x → Calm y → Calm (cond b x y)
cond_calm true x y w v = w
cond_calm false x y w v = v

one_calm : (a : Around) (r : Result Value Kind) → IsCalm a → Calm (acts.one_result a r)
one_calm a (Ok v) e = calm_go e
one_calm a (Err kind) e = calm_stuck

known_calm : (a : Around) (r : Option Value) → IsCalm a → Calm (acts.if_known a r)
known_calm a (Some v) e = calm_go e
known_calm a None e = calm_stuck

pure_calm : (c : Setting) (f : Pure) (vs : List Value) (a : Around) → IsCalm a → Calm (acts.pure_act c f vs a)
pure_calm c (pure.Copy kind) [] a e = calm_stuck
pure_calm c (pure.Copy kind) (x ∷ []) a e = calm_go e
pure_calm c (pure.Copy kind) (x ∷ y ∷ vs) a e = calm_stuck
pure_calm c (pure.Constant w) [] a e = calm_go e
pure_calm c (pure.Constant w) (x ∷ vs) a e = calm_stuck
pure_calm c (pure.Symbol name) [] a e = known_calm a (c.symbol name) e
pure_calm c (pure.Symbol name) (x ∷ vs) a e = calm_stuck
pure_calm c (pure.Operator f right.Register) [] a e = calm_stuck
pure_calm c (pure.Operator f right.Register) (x ∷ []) a e = calm_stuck
pure_calm c (pure.Operator f right.Register) (x ∷ y ∷ []) a e = one_calm a (apply f (sizes a.memory) x y) e
pure_calm c (pure.Operator f right.Register) (x ∷ y ∷ z ∷ vs) a e = calm_stuck
pure_calm c (pure.Operator f (right.Constant w)) [] a e = calm_stuck
pure_calm c (pure.Operator f (right.Constant w)) (x ∷ []) a e = one_calm a (apply f (sizes a.memory) x (value.Word w)) e
pure_calm c (pure.Operator f (right.Constant w)) (x ∷ y ∷ vs) a e = calm_stuck

-- ---- memory

store_calm : (a : Around) (cells : List Cell) (r : Result Memory Kind) → IsCalm a → Calm (acts.after_store a cells r)
store_calm a cells (Ok m) e = calm_go e
store_calm a cells (Err kind) e = calm_stuck

header_calm : (k : Chunk) (a : Around) (s : ℕ) (x v : Value) → IsCalm a → Calm (acts.header_written k a s x v)
header_calm chunk.Int a s (value.Word h) (value.Word w) e = only_calm _ _ (calm_go e)
header_calm chunk.Int a s (value.Word h) (value.Block b n) e = calm_stuck
header_calm chunk.Int a s (value.Word h) (value.Function g) e = calm_stuck
header_calm chunk.Int a s (value.Block b n) v e = calm_stuck
header_calm chunk.Int a s (value.Function g) v e = calm_stuck
header_calm chunk.Val a s x v e = calm_stuck
header_calm chunk.U8 a s x v e = calm_stuck
header_calm chunk.I8 a s x v e = calm_stuck
header_calm chunk.U16 a s x v e = calm_stuck
header_calm chunk.I16 a s x v e = calm_stuck
header_calm chunk.U32 a s x v e = calm_stuck
header_calm chunk.I32 a s x v e = calm_stuck

first_calm : (k : Chunk) (a : Around) (cell : Cell) (x v : Value) → IsCalm a → Calm (acts.first_written k a cell x v)
first_calm k a (InHeader s) x v e = header_calm k a s (value_in_cell a.memory (InHeader s)) v e
first_calm k a (InBlock s n) x v e = only_calm _ _ (store_calm a _ (stored k a.memory x v) e)
first_calm k a (InStatic l n) x v e = calm_stuck

stored_calm : (k : Chunk) (a : Around) (cell : Option Cell) (x v : Value) → IsCalm a → Calm (acts.stored_act k a cell x v)
stored_calm k a None x v e = calm_stuck
stored_calm k a (Some cell) x v e =
    cond_calm _ _ _ (first_calm k a cell x v e) (store_calm a a.unwritten (stored k a.memory x v) e)

loaded_calm : (a : Around) (cell : Option Cell) (r : Result Value Kind) → IsCalm a → Calm (acts.loaded_act a cell r)
loaded_calm a None r e = calm_stuck
loaded_calm a (Some cell) r e = cond_calm _ _ _ calm_stuck (one_calm a r e)

blocks_calm : (blocks : List NewBlock) (so_far : List Value) (a : Around) → IsCalm a → Calm (acts.new_blocks blocks so_far a)
blocks_calm [] so_far a e = calm_go e
blocks_calm (b ∷ blocks) so_far a e = blocks_calm blocks _ _ e

access_calm : (f : Access) (vs : List Value) (a : Around) → IsCalm a → Calm (acts.access_act f vs a)
access_calm (access.Load k n) [] a e = calm_stuck
access_calm (access.Load k n) (x ∷ []) a e = loaded_calm a _ _ e
access_calm (access.Load k n) (x ∷ y ∷ vs) a e = calm_stuck
access_calm (access.Store k n) [] a e = calm_stuck
access_calm (access.Store k n) (x ∷ []) a e = calm_stuck
access_calm (access.Store k n) (x ∷ v ∷ []) a e = stored_calm k a _ _ v e
access_calm (access.Store k n) (x ∷ v ∷ z ∷ vs) a e = calm_stuck
access_calm (access.Alloc blocks) [] a e = only_calm _ _ (blocks_calm blocks [] a e)
access_calm (access.Alloc blocks) (x ∷ vs) a e = calm_stuck

-- ---- raises and calls

thrown_calm : (v : Value) (m : Memory) (a : Around) (tries : List ℕ) → Calm (acts.callee_raises v m a tries)
thrown_calm v m a [] = calm_end
thrown_calm v m a (l ∷ tries) = calm_unwind

raised_calm : (v : Value) (a : Around) (tries : List ℕ) → Calm (acts.raised_by v a tries)
raised_calm v a [] = calm_raise
raised_calm v a (l ∷ tries) = calm_handler

answered_calm : (end : ℕ) (result : Ret) (v : Option Value) (go : Option Value → Act) →
    ((v : Option Value) → Calm (go v)) → Calm (acts.call_answered end result v go)
answered_calm end ret.Unit v go w = w None
answered_calm end (ret.Comp t) (Some v) go w = only_calm _ _ (w (Some v))
answered_calm end (ret.Comp t) None go w = calm_stuck

call_calm : (c : Setting) (result : Ret) (a : Around) → IsCalm a → (d : Doing) → Calm (acts.act_after_call c result a d)
call_calm c result a e (Gave v m) = answered_calm c.end result v _ (λ v. calm_go e)
call_calm c result a e (Threw v m) = only_calm _ _ (thrown_calm v m a a.tries)

outside_calm : (c : Setting) (result : Ret) (frame : Bool) (a : Around) → IsCalm a → (d : Doing) →
    Calm (acts.after_external c result frame a d)
outside_calm c result frame a e (Gave v m) = answered_calm c.end result v _ (λ v. calm_go e)
outside_calm c result true a e (Threw v m) = only_calm _ _ (raised_calm v a a.tries)
outside_calm c result false a e (Threw v m) = calm_stuck

module _ (c : Setting) (a : Around) (call : Callee → List Value → Act)
    (w : (whom : Callee) (vs : List Value) → Calm (call whom vs)) where
  comps_calm : (comps : Option (List Comp)) (n : ℕ) (vs : List Value) → Calm (acts.asks c comps n vs a call)
  comps_calm None n vs = calm_stuck
  comps_calm (Some comps) n vs = only_calm _ _ (w (Inside n) vs)

  asked_calm : (v : Option Value) (vs : List Value) → Calm (acts.asks_value c v vs a call)
  asked_calm None vs = calm_stuck
  asked_calm (Some (value.Word n)) vs = calm_stuck
  asked_calm (Some (value.Block s o)) vs = calm_stuck
  asked_calm (Some (value.Function n)) vs = comps_calm (slice_get c.parameters n) n vs

  callee_calm : (whom : declared.Callee) (vs : List Value) → Calm (acts.asks_callee c whom vs a call)
  callee_calm (callee.Symbol name) vs = asked_calm (c.symbol name) vs
  callee_calm callee.Register [] = calm_stuck
  callee_calm callee.Register (v ∷ vs) = asked_calm (Some v) vs

calling_calm : (c : Setting) (f : Calling) (vs : List Value) (a : Around) → IsCalm a → Calm (acts.calling_act c f vs a)
calling_calm c (calling.Call whom result) vs a e =
    callee_calm c a (λ f xs. Asks f xs (acts.act_after_call c result a)) (λ f xs. calm_ask (call_calm c result a e)) whom vs
calling_calm c (calling.TailCall whom result) vs a e =
    callee_calm c a (λ f xs. Replaces f xs result) (λ f xs. calm_replace) whom vs
calling_calm c (calling.External row frame) vs a e =
    only_calm _ _ (calm_ask (outside_calm c row.result frame a e))

-- ---- leaving

raises_calm : (c : Setting) (v : Value) (a : Around) → Calm (acts.raise_act c v a)
raises_calm c v a = only_calm _ _ (raised_calm v a a.tries)

checked_calm : (c : Setting) (x y : Result ℕ Kind) (a : Around) → IsCalm a → Calm (acts.checked c x y a)
checked_calm c (Ok x) (Ok y) a e = cond_calm _ _ _ (calm_go e) (raises_calm c bound_error a)
checked_calm c (Ok x) (Err k) a e = calm_stuck
checked_calm c (Err k) y a e = calm_stuck

leaving_calm : (c : Setting) (f : Leaving) (vs : List Value) (a : Around) → IsCalm a → Calm (acts.leaving_act c f vs a)
leaving_calm c (leaving.Checkbound right.Register) [] a e = calm_stuck
leaving_calm c (leaving.Checkbound right.Register) (x ∷ []) a e = calm_stuck
leaving_calm c (leaving.Checkbound right.Register) (x ∷ y ∷ []) a e = checked_calm c (word_in x) (word_in y) a e
leaving_calm c (leaving.Checkbound right.Register) (x ∷ y ∷ z ∷ vs) a e = calm_stuck
leaving_calm c (leaving.Checkbound (right.Constant w)) [] a e = calm_stuck
leaving_calm c (leaving.Checkbound (right.Constant w)) (x ∷ []) a e = checked_calm c (word_in x) (Ok w) a e
leaving_calm c (leaving.Checkbound (right.Constant w)) (x ∷ y ∷ vs) a e = calm_stuck
leaving_calm c leaving.Raise [] a e = calm_stuck
leaving_calm c leaving.Raise (v ∷ []) a e = raises_calm c v a
leaving_calm c leaving.Raise (v ∷ w ∷ vs) a e = calm_stuck
leaving_calm c leaving.Return [] a e = only_calm _ _ calm_end
leaving_calm c leaving.Return (v ∷ []) a e = only_calm _ _ calm_end
leaving_calm c leaving.Return (v ∷ w ∷ vs) a e = calm_stuck

-- ---- marks

branches_calm : (t : Test) (l : ℕ) (a : Around) (o : Option Bool) → IsCalm a → Calm (acts.goes_by_test a On (At l) o)
branches_calm t l a (Some b) e = calm_go e
branches_calm t l a None e = calm_stuck

case_calm : (a : Around) (labels : List ℕ) (r : Result ℕ Kind) → IsCalm a → Calm (acts.goes_to_case a labels r)
case_calm a [] (Err kind) e = calm_stuck
case_calm a (l ∷ labels) (Err kind) e = calm_stuck
case_calm a [] (Ok n) e = calm_stuck
case_calm a (l ∷ labels) (Ok zero) e = calm_go e
case_calm a (l ∷ labels) (Ok (suc n)) e = case_calm a labels (Ok n) e

handler_calm : (l : ℕ) (vs : List Value) (a : Around) → Calm (mark_act (mark.Handler l) vs a)
handler_calm l [] a = known_calm (record a { raised = None }) a.raised refl
handler_calm l (v ∷ vs) a = calm_stuck

mark_calm : (f : Mark) (vs : List Value) (a : Around) → IsCalm a → Calm (mark_act f vs a)
mark_calm (mark.Exit l n) [] a e = calm_label e
mark_calm (mark.Exit l n) (v ∷ vs) a e = calm_stuck
mark_calm (mark.If t l) vs a e = branches_calm t l a (acts.truth_of (sizes a.memory) t vs) e
mark_calm (mark.Else l end) [] a e = calm_go e
mark_calm (mark.Else l end) (v ∷ vs) a e = calm_stuck
mark_calm (mark.Switch labels) [] a e = calm_stuck
mark_calm (mark.Switch labels) (v ∷ []) a e = case_calm a labels (word_in v) e
mark_calm (mark.Switch labels) (v ∷ w ∷ vs) a e = calm_stuck
mark_calm (mark.Case indexes l end) [] a e = calm_go e
mark_calm (mark.Case indexes l end) (v ∷ vs) a e = calm_stuck
mark_calm mark.Catch [] a e = calm_go e
mark_calm mark.Catch (v ∷ vs) a e = calm_stuck
mark_calm (mark.With l end) [] a e = calm_go e
mark_calm (mark.With l end) (v ∷ vs) a e = calm_stuck
mark_calm (mark.Try l) [] a e = calm_push e
mark_calm (mark.Try l) (v ∷ vs) a e = calm_stuck
mark_calm (mark.Leave l end) [] a e = calm_go e
mark_calm (mark.Leave l end) (v ∷ vs) a e = calm_stuck
mark_calm (mark.Handler l) vs a e = handler_calm l vs a
mark_calm (mark.End l) [] a e = calm_go e
mark_calm (mark.End l) (v ∷ vs) a e = calm_stuck

pub data IsHandler : MachOp → Type 0 where
  is_handler : {l : ℕ} → IsHandler (mach.Mark (mark.Handler l))

-- Where no value is raised, or the mark of a handler takes it, none is raised where it goes on.
pub calm : (c : Setting) (f : MachOp) (vs : List Value) (a : Around) → a.raised ≡ None → Calm (mach_act c f vs a)
calm c (mach.Op (op.Pure f)) vs a e = pure_calm c f vs a e
calm c (mach.Op (op.Access f)) vs a e = access_calm f vs a e
calm c (mach.Op (op.Calling f)) vs a e = calling_calm c f vs a e
calm c (mach.Op (op.Leaving f)) vs a e = leaving_calm c f vs a e
calm c (mach.Mark f) vs a e = mark_calm f vs a e

pub calm_at_handler : (c : Setting) (f : MachOp) (vs : List Value) (a : Around) → IsHandler f → Calm (mach_act c f vs a)
calm_at_handler c f vs a (is_handler {l = l}) = handler_calm l vs a

-- where a raised value comes to: at the mark of a handler, or nowhere
pub data IsCaught : List Instr → Type 0 where
  nowhere : IsCaught []
  handled : {i : Instr} {next : List Instr} → IsHandler i.op → IsCaught (i ∷ next)

handler_of : (l : ℕ) (f : MachOp) → is_handler_of l f ≡ true → IsHandler f
handler_of l (mach.Op f) e = absurd (both_ways false refl e)
handler_of l (mach.Mark (mark.Exit k n)) e = absurd (both_ways false refl e)
handler_of l (mach.Mark (mark.If t k)) e = absurd (both_ways false refl e)
handler_of l (mach.Mark (mark.Else k end)) e = absurd (both_ways false refl e)
handler_of l (mach.Mark (mark.Switch ls)) e = absurd (both_ways false refl e)
handler_of l (mach.Mark (mark.Case ns k end)) e = absurd (both_ways false refl e)
handler_of l (mach.Mark mark.Catch) e = absurd (both_ways false refl e)
handler_of l (mach.Mark (mark.With k end)) e = absurd (both_ways false refl e)
handler_of l (mach.Mark (mark.Try k)) e = absurd (both_ways false refl e)
handler_of l (mach.Mark (mark.Leave k end)) e = absurd (both_ways false refl e)
handler_of l (mach.Mark (mark.Handler k)) e = is_handler
handler_of l (mach.Mark (mark.End k)) e = absurd (both_ways false refl e)

caught_from : (l : ℕ) (code : List Instr) → IsCaught (from_handler l code)
caught_from l [] = nowhere
caught_from l (i ∷ is) = by (is_handler_of l i.op) refl (caught_from l is)
  where
    by : (b : Bool) → is_handler_of l i.op ≡ b → IsCaught (from_handler l is) → IsCaught (cond b (i ∷ is) (from_handler l is))
    by true e h = handled (handler_of l i.op e)
    by false e h = h

pub caught_at : (code : List Instr) (tries : List ℕ) → IsCaught (at_handler code tries)
caught_at code [] = nowhere
caught_at code (l ∷ tries) = caught_from l code

-- no value is raised, but where it is caught
pub data IsQuiet (rest : List Instr) (x : Around) : Type 0 where
  none_raised : x.raised ≡ None → IsQuiet rest x
  caught : IsCaught rest → IsQuiet rest x

pub calm_here : (i : Instr) (next : List Instr) (x : Around) → IsQuiet (i ∷ next) x → (c : _) (vs : List Value) → Calm (mach_act c i.op vs x)
calm_here i next x (none_raised e) c vs = calm c i.op vs x e
calm_here i next x (caught (handled h)) c vs = calm_at_handler c i.op vs x h
