-- Where an operation leads, and what it does to the tries that are pushed, whatever the values are.
use Rattle.std.proofs.Common.{◌≡◌, ℕ, zero, suc, Bool, true, false, cond, List, [], ◌∷◌, Option, Some, None, Result, Ok, Err, refl, sym}
use Rattle.std.specs.Prelude.{slice_get}
use Rattle.bs_words.specs.Memory.{Memory, Cell, InHeader, InBlock, InStatic, sizes, stored, value_in_cell}
use Rattle.bs_words.specs.Operators.{apply, word_in}
use Rattle.bs_words.specs.declared.types.Chunk.{Chunk}
use Rattle.bs_words.specs.declared.types.Chunk.TheVariants as chunk
use Rattle.bs_words.specs.declared.types.Comp.{Comp}
use Rattle.bs_words.specs.declared.types.Ret.{Ret}
use Rattle.bs_words.specs.declared.types.Ret.TheVariants as ret
use Rattle.bs_words.specs.declared.values.Kind.{Kind}
use Rattle.bs_words.specs.declared.values.Value.{Value}
use Rattle.bs_words.specs.declared.values.Value.TheVariants as value
use Rattle.mach_ir.specs.Known.{bound_error, Doing, Gave, Threw, Callee, Inside, Setting}
use Rattle.mach_ir.specs.Acts as acts
use Rattle.mach_ir.specs.Acts.{drop_tries, Around, Target, On, At, AtLabel, AtHandler, Act, Goes, Pushes, Jumps, Unwinds, Asks, Replaces, Ends, EndsRaising, Stuck, stuck_unless}
use Rattle.mach_ir.specs.Meaning.{mark_act, mach_act}
use Rattle.mach_ir.specs.Walks.{OneOf, this, other, next_if, targets, may_raise}
use Rattle.mach_ir.specs.declared.op.Right.TheVariants as right
use Rattle.mach_ir.specs.declared.op.Pure.{Pure}
use Rattle.mach_ir.specs.declared.op.Pure.TheVariants as pure
use Rattle.mach_ir.specs.declared.blocks.NewBlock.{NewBlock}
use Rattle.mach_ir.specs.declared.op.Access.{Access}
use Rattle.mach_ir.specs.declared.op.Access.TheVariants as access
use Rattle.mach_ir.specs.declared.op.Callee.TheVariants as callee
use Rattle.mach_ir.specs.declared.op.Callee as declared
use Rattle.mach_ir.specs.declared.op.Calling.{Calling}
use Rattle.mach_ir.specs.declared.op.Calling.TheVariants as calling
use Rattle.mach_ir.specs.declared.op.Leaving.{Leaving}
use Rattle.mach_ir.specs.declared.op.Leaving.TheVariants as leaving
use Rattle.mach_ir.specs.declared.op.Op.{Op}
use Rattle.mach_ir.specs.declared.op.Op.TheVariants as op
use Rattle.mach_ir.specs.declared.mach.Test.{Test}
use Rattle.mach_ir.specs.declared.mach.Mark.{Mark}
use Rattle.mach_ir.specs.declared.mach.Mark.TheVariants as mark
use Rattle.mach_ir.specs.declared.mach.MachOp.{MachOp}
use Rattle.mach_ir.specs.declared.mach.MachOp.TheVariants as mach

-- the tries, and the raised value, where an operation goes on
abbrev pub tries_on : MachOp → List ℕ → List ℕ
tries_on (mach.Mark (mark.Leave l end)) tries = drop_tries 1 tries
tries_on (mach.Mark (mark.Try l)) tries = l ∷ tries
tries_on _ tries = tries

abbrev pub raised_on : MachOp → Option Value → Option Value
raised_on (mach.Mark (mark.Handler l)) raised = None
raised_on _ raised = raised

pub data IsExit : MachOp → ℕ → ℕ → Type 0 where
  is_exit : {l n : ℕ} → IsExit (mach.Mark (mark.Exit l n)) l n

pub data IsTry : MachOp → ℕ → Type 0 where
  is_try : {l : ℕ} → IsTry (mach.Mark (mark.Try l)) l

-- where an act goes, and what it does to the pushed tries and to the raised value
pub data Turns (f : MachOp) (tries : List ℕ) (raised : Option Value) : Act → Type 0 where
  goes_in : {vs : List Value} {to : Target} {after : Around} → OneOf to (targets f) → after.tries ≡ tries_on f tries →
      after.raised ≡ raised_on f raised → Turns f tries raised (Goes vs to after)
  exits_in : {l n : ℕ} {after : Around} → IsExit f l n → after.tries ≡ drop_tries n tries → after.raised ≡ raised →
      Turns f tries raised (Jumps (AtLabel l) after)
  jumps_in : {h : ℕ} {after : Around} → may_raise f ≡ true → tries ≡ h ∷ after.tries →
      Turns f tries raised (Jumps AtHandler after)
  unwinds_in : {h : ℕ} {after : Around} → may_raise f ≡ true → tries ≡ h ∷ after.tries →
      Turns f tries raised (Unwinds after)
  pushes_in : {l : ℕ} {after : Around} → IsTry f l → after.tries ≡ l ∷ tries → after.raised ≡ raised →
      Turns f tries raised (Pushes after)
  asks_in : {whom : Callee} {vs : List Value} {go : Doing → Act} → ((d : Doing) → Turns f tries raised (go d)) →
      Turns f tries raised (Asks whom vs go)
  replaces_in : {whom : Callee} {vs : List Value} {kept : Ret} → Turns f tries raised (Replaces whom vs kept)
  ends_in : {d : Doing} → Turns f tries raised (Ends d)
  raising_in : {d : Doing} → Turns f tries raised (EndsRaising d)
  stuck_in : Turns f tries raised Stuck

-- it goes on, and leaves both
record Plain (f : MachOp) : Type 0 where
  to : OneOf On (targets f)
  tries : (ts : List ℕ) → tries_on f ts ≡ ts
  raised : (v : Option Value) → raised_on f v ≡ v

plain : (f : Op) → OneOf On (next_if (acts.falls_through f)) → Plain (mach.Op f)
plain f o = record { to = o; tries = λ ts. refl; raised = λ v. refl }

only_in : {ts : List ℕ} {rv : Option Value} (f : MachOp) (b : Bool) (act : Act) → Turns f ts rv act → Turns f ts rv (stuck_unless b act)
only_in f true act w = w
only_in f false act w = stuck_in

cond_in : {ts : List ℕ} {rv : Option Value} (f : MachOp) (b : Bool) (x y : Act) → Turns f ts rv x → Turns f ts rv y → Turns f ts rv (cond b x y)
cond_in f true x y w v = w
cond_in f false x y w v = v

-- ---- what reads registers alone

one_in : (f : MachOp) (a : Around) (r : Result Value Kind) → Plain f → Turns f a.tries a.raised (acts.one_result a r)
one_in f a (Ok v) o = goes_in o.to (sym (o.tries _)) (sym (o.raised _))
one_in f a (Err kind) o = stuck_in

known_in : (f : MachOp) (a : Around) (r : Option Value) → Plain f → Turns f a.tries a.raised (acts.if_known a r)
known_in f a (Some v) o = goes_in o.to (sym (o.tries _)) (sym (o.raised _))
known_in f a None o = stuck_in

pure_in : (c : Setting) (f : Pure) (vs : List Value) (a : Around) → Turns (mach.Op (op.Pure f)) a.tries a.raised (acts.pure_act c f vs a)
pure_in c (pure.Copy kind) [] a = stuck_in
pure_in c (pure.Copy kind) (x ∷ []) a = goes_in this refl refl
pure_in c (pure.Copy kind) (x ∷ y ∷ vs) a = stuck_in
pure_in c (pure.Constant w) [] a = goes_in this refl refl
pure_in c (pure.Constant w) (x ∷ vs) a = stuck_in
pure_in c (pure.Symbol name) [] a = known_in (mach.Op (op.Pure (pure.Symbol name))) a (c.symbol name) (plain _ this)
pure_in c (pure.Symbol name) (x ∷ vs) a = stuck_in
pure_in c (pure.Operator f right.Register) [] a = stuck_in
pure_in c (pure.Operator f right.Register) (x ∷ []) a = stuck_in
pure_in c (pure.Operator f right.Register) (x ∷ y ∷ []) a =
    one_in (mach.Op (op.Pure (pure.Operator f right.Register))) a (apply f (sizes a.memory) x y) (plain _ this)
pure_in c (pure.Operator f right.Register) (x ∷ y ∷ z ∷ vs) a = stuck_in
pure_in c (pure.Operator f (right.Constant w)) [] a = stuck_in
pure_in c (pure.Operator f (right.Constant w)) (x ∷ []) a =
    one_in (mach.Op (op.Pure (pure.Operator f (right.Constant w)))) a (apply f (sizes a.memory) x (value.Word w)) (plain _ this)
pure_in c (pure.Operator f (right.Constant w)) (x ∷ y ∷ vs) a = stuck_in

-- ---- memory

store_in : (f : MachOp) (a : Around) (cells : List Cell) (r : Result Memory Kind) → Plain f →
    Turns f a.tries a.raised (acts.after_store a cells r)
store_in f a cells (Ok m) o = goes_in o.to (sym (o.tries _)) (sym (o.raised _))
store_in f a cells (Err kind) o = stuck_in

header_in : (f : MachOp) (k : Chunk) (a : Around) (s : ℕ) (x v : Value) → Plain f →
    Turns f a.tries a.raised (acts.header_written k a s x v)
header_in f chunk.Int a s (value.Word h) (value.Word w) o = only_in f _ _ (goes_in o.to (sym (o.tries _)) (sym (o.raised _)))
header_in f chunk.Int a s (value.Word h) (value.Block b n) o = stuck_in
header_in f chunk.Int a s (value.Word h) (value.Function g) o = stuck_in
header_in f chunk.Int a s (value.Block b n) v o = stuck_in
header_in f chunk.Int a s (value.Function g) v o = stuck_in
header_in f chunk.Val a s x v o = stuck_in
header_in f chunk.U8 a s x v o = stuck_in
header_in f chunk.I8 a s x v o = stuck_in
header_in f chunk.U16 a s x v o = stuck_in
header_in f chunk.I16 a s x v o = stuck_in
header_in f chunk.U32 a s x v o = stuck_in
header_in f chunk.I32 a s x v o = stuck_in

first_in : (f : MachOp) (k : Chunk) (a : Around) (cell : Cell) (x v : Value) → Plain f →
    Turns f a.tries a.raised (acts.first_written k a cell x v)
first_in f k a (InHeader s) x v o = header_in f k a s (value_in_cell a.memory (InHeader s)) v o
first_in f k a (InBlock s n) x v o = only_in f _ _ (store_in f a _ (stored k a.memory x v) o)
first_in f k a (InStatic l n) x v o = stuck_in

stored_in : (f : MachOp) (k : Chunk) (a : Around) (cell : Option Cell) (x v : Value) → Plain f →
    Turns f a.tries a.raised (acts.stored_act k a cell x v)
stored_in f k a None x v o = stuck_in
stored_in f k a (Some cell) x v o =
    cond_in f _ _ _ (first_in f k a cell x v o) (store_in f a a.unwritten (stored k a.memory x v) o)

loaded_in : (f : MachOp) (a : Around) (cell : Option Cell) (r : Result Value Kind) → Plain f →
    Turns f a.tries a.raised (acts.loaded_act a cell r)
loaded_in f a None r o = stuck_in
loaded_in f a (Some cell) r o = cond_in f _ _ _ stuck_in (one_in f a r o)

blocks_in : (f : MachOp) (blocks : List NewBlock) (so_far : List Value) (a : Around) → Plain f →
    Turns f a.tries a.raised (acts.new_blocks blocks so_far a)
blocks_in f [] so_far a o = goes_in o.to (sym (o.tries _)) (sym (o.raised _))
blocks_in f (b ∷ blocks) so_far a o = blocks_in f blocks _ _ o

access_in : (f : Access) (vs : List Value) (a : Around) → Turns (mach.Op (op.Access f)) a.tries a.raised (acts.access_act f vs a)
access_in (access.Load k n) [] a = stuck_in
access_in (access.Load k n) (x ∷ []) a = loaded_in (mach.Op (op.Access (access.Load k n))) a _ _ (plain _ this)
access_in (access.Load k n) (x ∷ y ∷ vs) a = stuck_in
access_in (access.Store k n) [] a = stuck_in
access_in (access.Store k n) (x ∷ []) a = stuck_in
access_in (access.Store k n) (x ∷ v ∷ []) a = stored_in (mach.Op (op.Access (access.Store k n))) k a _ _ v (plain _ this)
access_in (access.Store k n) (x ∷ v ∷ z ∷ vs) a = stuck_in
access_in (access.Alloc blocks) [] a =
    only_in (mach.Op (op.Access (access.Alloc blocks))) _ _
    (blocks_in (mach.Op (op.Access (access.Alloc blocks))) blocks [] a (plain _ this))
access_in (access.Alloc blocks) (x ∷ vs) a = stuck_in

-- ---- raises and calls

thrown_in : (f : MachOp) → may_raise f ≡ true → (v : Value) (m : Memory) (a : Around) (tries : List ℕ) →
    Turns f tries a.raised (acts.callee_raises v m a tries)
thrown_in f r v m a [] = ends_in
thrown_in f r v m a (l ∷ tries) = unwinds_in r refl

raised_in : (f : MachOp) → may_raise f ≡ true → (v : Value) (a : Around) (tries : List ℕ) →
    Turns f tries a.raised (acts.raised_by v a tries)
raised_in f r v a [] = raising_in
raised_in f r v a (l ∷ tries) = jumps_in r refl

answered_in : {ts : List ℕ} {rv : Option Value} (f : MachOp) (end : ℕ) (result : Ret) (v : Option Value) (go : Option Value → Act) →
    ((v : Option Value) → Turns f ts rv (go v)) → Turns f ts rv (acts.call_answered end result v go)
answered_in f end ret.Unit v go w = w None
answered_in f end (ret.Comp t) (Some v) go w = only_in f _ _ (w (Some v))
answered_in f end (ret.Comp t) None go w = stuck_in

call_in : (f : MachOp) → may_raise f ≡ true → (c : Setting) (result : Ret) (a : Around) → Plain f →
    (d : Doing) → Turns f a.tries a.raised (acts.act_after_call c result a d)
call_in f r c result a o (Gave v m) = answered_in f c.end result v _ (λ v. goes_in o.to (sym (o.tries _)) (sym (o.raised _)))
call_in f r c result a o (Threw v m) = only_in f _ _ (thrown_in f r v m a a.tries)

outside_in : (f : MachOp) (c : Setting) (result : Ret) (frame : Bool) (a : Around) → may_raise f ≡ frame →
    Plain f → (d : Doing) → Turns f a.tries a.raised (acts.after_external c result frame a d)
outside_in f c result frame a r o (Gave v m) = answered_in f c.end result v _ (λ v. goes_in o.to (sym (o.tries _)) (sym (o.raised _)))
outside_in f c result true a r o (Threw v m) = only_in f _ _ (raised_in f r v a a.tries)
outside_in f c result false a r o (Threw v m) = stuck_in

module _ (f : MachOp) (c : Setting) (a : Around) (call : Callee → List Value → Act)
    (w : (whom : Callee) (vs : List Value) → Turns f a.tries a.raised (call whom vs)) where
  comps_in : (comps : Option (List Comp)) (n : ℕ) (vs : List Value) → Turns f a.tries a.raised (acts.asks c comps n vs a call)
  comps_in None n vs = stuck_in
  comps_in (Some comps) n vs = only_in f _ _ (w (Inside n) vs)

  value_asked_in : (v : Option Value) (vs : List Value) → Turns f a.tries a.raised (acts.asks_value c v vs a call)
  value_asked_in None vs = stuck_in
  value_asked_in (Some (value.Word n)) vs = stuck_in
  value_asked_in (Some (value.Block s o)) vs = stuck_in
  value_asked_in (Some (value.Function n)) vs = comps_in (slice_get c.parameters n) n vs

  callee_in : (whom : declared.Callee) (vs : List Value) → Turns f a.tries a.raised (acts.asks_callee c whom vs a call)
  callee_in (callee.Symbol name) vs = value_asked_in (c.symbol name) vs
  callee_in callee.Register [] = stuck_in
  callee_in callee.Register (v ∷ vs) = value_asked_in (Some v) vs

calling_in : (c : Setting) (f : Calling) (vs : List Value) (a : Around) →
    Turns (mach.Op (op.Calling f)) a.tries a.raised (acts.calling_act c f vs a)
calling_in c (calling.Call whom result) vs a =
    callee_in (mach.Op (op.Calling (calling.Call whom result))) c a
    (λ f xs. Asks f xs (acts.act_after_call c result a))
    (λ f xs. asks_in (call_in (mach.Op (op.Calling (calling.Call whom result))) refl c result a (plain _ this))) whom vs
calling_in c (calling.TailCall whom result) vs a =
    callee_in (mach.Op (op.Calling (calling.TailCall whom result))) c a (λ f xs. Replaces f xs result)
    (λ f xs. replaces_in) whom vs
calling_in c (calling.External row frame) vs a =
    only_in (mach.Op (op.Calling (calling.External row frame))) _ _
    (asks_in (outside_in (mach.Op (op.Calling (calling.External row frame))) c row.result frame a refl (plain _ this)))

-- ---- leaving

raises_in : (f : MachOp) → may_raise f ≡ true → (c : Setting) (v : Value) (a : Around) → Turns f a.tries a.raised (acts.raise_act c v a)
raises_in f r c v a = only_in f _ _ (raised_in f r v a a.tries)

checked_in : (f : MachOp) → may_raise f ≡ true → Plain f → (c : Setting) (x y : Result ℕ Kind) (a : Around) →
    Turns f a.tries a.raised (acts.checked c x y a)
checked_in f r o c (Ok x) (Ok y) a = cond_in f _ _ _ (goes_in o.to (sym (o.tries _)) (sym (o.raised _))) (raises_in f r c bound_error a)
checked_in f r o c (Ok x) (Err k) a = stuck_in
checked_in f r o c (Err k) y a = stuck_in

leaving_in : (c : Setting) (f : Leaving) (vs : List Value) (a : Around) →
    Turns (mach.Op (op.Leaving f)) a.tries a.raised (acts.leaving_act c f vs a)
leaving_in c (leaving.Checkbound right.Register) [] a = stuck_in
leaving_in c (leaving.Checkbound right.Register) (x ∷ []) a = stuck_in
leaving_in c (leaving.Checkbound right.Register) (x ∷ y ∷ []) a =
    checked_in (mach.Op (op.Leaving (leaving.Checkbound right.Register))) refl (plain _ this) c (word_in x) (word_in y) a
leaving_in c (leaving.Checkbound right.Register) (x ∷ y ∷ z ∷ vs) a = stuck_in
leaving_in c (leaving.Checkbound (right.Constant w)) [] a = stuck_in
leaving_in c (leaving.Checkbound (right.Constant w)) (x ∷ []) a =
    checked_in (mach.Op (op.Leaving (leaving.Checkbound (right.Constant w)))) refl (plain _ this) c (word_in x) (Ok w) a
leaving_in c (leaving.Checkbound (right.Constant w)) (x ∷ y ∷ vs) a = stuck_in
leaving_in c leaving.Raise [] a = stuck_in
leaving_in c leaving.Raise (v ∷ []) a = raises_in (mach.Op (op.Leaving leaving.Raise)) refl c v a
leaving_in c leaving.Raise (v ∷ w ∷ vs) a = stuck_in
leaving_in c leaving.Return [] a = only_in (mach.Op (op.Leaving leaving.Return)) _ _ ends_in
leaving_in c leaving.Return (v ∷ []) a = only_in (mach.Op (op.Leaving leaving.Return)) _ _ ends_in
leaving_in c leaving.Return (v ∷ w ∷ vs) a = stuck_in

-- ---- marks

branches_in : (t : Test) (l : ℕ) (a : Around) (o : Option Bool) →
    Turns (mach.Mark (mark.If t l)) a.tries a.raised (acts.goes_by_test a On (At l) o)
branches_in t l a (Some true) = goes_in this refl refl
branches_in t l a (Some false) = goes_in (other this) refl refl
branches_in t l a None = stuck_in

one_case_more : {ts : List ℕ} {rv : Option Value} {l : ℕ} {labels : List ℕ} {act : Act} →
    Turns (mach.Mark (mark.Switch labels)) ts rv act → Turns (mach.Mark (mark.Switch (l ∷ labels))) ts rv act
one_case_more (goes_in o e u) = goes_in (other o) e u
one_case_more (exits_in x e u) = elim x [ ]
one_case_more (jumps_in r e) = jumps_in r e
one_case_more (unwinds_in r e) = unwinds_in r e
one_case_more (pushes_in t e u) = elim t [ ]
one_case_more (asks_in w) = asks_in (λ d. one_case_more (w d))
one_case_more replaces_in = replaces_in
one_case_more ends_in = ends_in
one_case_more raising_in = raising_in
one_case_more stuck_in = stuck_in

case_in : (a : Around) (labels : List ℕ) (r : Result ℕ Kind) →
    Turns (mach.Mark (mark.Switch labels)) a.tries a.raised (acts.goes_to_case a labels r)
case_in a [] (Err kind) = stuck_in
case_in a (l ∷ labels) (Err kind) = stuck_in
case_in a [] (Ok n) = stuck_in
case_in a (l ∷ labels) (Ok zero) = goes_in this refl refl
case_in a (l ∷ labels) (Ok (suc n)) = one_case_more (case_in a labels (Ok n))

taken_in : (l : ℕ) (a : Around) (o : Option Value) →
    Turns (mach.Mark (mark.Handler l)) a.tries a.raised (acts.if_known (record a { raised = None }) o)
taken_in l a (Some v) = goes_in this refl refl
taken_in l a None = stuck_in

mark_in : (f : Mark) (vs : List Value) (a : Around) → Turns (mach.Mark f) a.tries a.raised (mark_act f vs a)
mark_in (mark.Exit l n) [] a = exits_in is_exit refl refl
mark_in (mark.Exit l n) (v ∷ vs) a = stuck_in
mark_in (mark.If t l) vs a = branches_in t l a (acts.truth_of (sizes a.memory) t vs)
mark_in (mark.Else l end) [] a = goes_in this refl refl
mark_in (mark.Else l end) (v ∷ vs) a = stuck_in
mark_in (mark.Switch labels) [] a = stuck_in
mark_in (mark.Switch labels) (v ∷ []) a = case_in a labels (word_in v)
mark_in (mark.Switch labels) (v ∷ w ∷ vs) a = stuck_in
mark_in (mark.Case indexes l end) [] a = goes_in this refl refl
mark_in (mark.Case indexes l end) (v ∷ vs) a = stuck_in
mark_in mark.Catch [] a = goes_in this refl refl
mark_in mark.Catch (v ∷ vs) a = stuck_in
mark_in (mark.With l end) [] a = goes_in this refl refl
mark_in (mark.With l end) (v ∷ vs) a = stuck_in
mark_in (mark.Try l) [] a = pushes_in is_try refl refl
mark_in (mark.Try l) (v ∷ vs) a = stuck_in
mark_in (mark.Leave l end) [] a = goes_in this refl refl
mark_in (mark.Leave l end) (v ∷ vs) a = stuck_in
mark_in (mark.Handler l) [] a = taken_in l a a.raised
mark_in (mark.Handler l) (v ∷ vs) a = stuck_in
mark_in (mark.End l) [] a = goes_in this refl refl
mark_in (mark.End l) (v ∷ vs) a = stuck_in

-- Whatever the values, an operation turns within its targets.
pub turns : (c : Setting) (f : MachOp) (vs : List Value) (a : Around) → Turns f a.tries a.raised (mach_act c f vs a)
turns c (mach.Op (op.Pure f)) vs a = pure_in c f vs a
turns c (mach.Op (op.Access f)) vs a = access_in f vs a
turns c (mach.Op (op.Calling f)) vs a = calling_in c f vs a
turns c (mach.Op (op.Leaving f)) vs a = leaving_in c f vs a
turns c (mach.Mark f) vs a = mark_in f vs a
