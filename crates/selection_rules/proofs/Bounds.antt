-- A machine whose constants are words holds words alone.
use Rattle.std.proofs.Common.{◌≡◌, ℕ, zero, suc, Bool, true, false, cond, List, [], ◌∷◌, ◌++◌, length, Option, Some, None, Result, Ok, Err, refl, subst, arith}
use Rattle.std.specs.Prelude.{nat_eq, nat_lt, slice_get}
use Rattle.bs_words.specs.Fits.{fits, type_of_comp}
use Rattle.bs_words.specs.Memory.{Memory, Cell, InHeader, InBlock, InStatic, sizes, width}
use Rattle.bs_words.specs.Operators.{word_in}
use Rattle.bs_words.specs.declared.types.Chunk.{Chunk}
use Rattle.bs_words.specs.declared.types.Chunk.TheVariants as chunk
use Rattle.bs_words.specs.declared.types.Comp.{Comp}
use Rattle.bs_words.specs.declared.types.Ret.{Ret}
use Rattle.bs_words.specs.declared.types.Ret.TheVariants as ret
use Rattle.bs_words.specs.declared.values.Kind.{Kind}
use Rattle.bs_words.specs.declared.values.Value.{Value}
use Rattle.bs_words.specs.declared.values.Value.TheVariants as value
use Rattle.cmm_meaning.specs.Evaluation.{bound_error}
use Rattle.cmm_meaning.specs.Setting.{Setting}
use Rattle.cmm_meaning.specs.State as state
use Rattle.cmm_meaning.specs.State.{Doing, Gave, Threw, Inside}
use Rattle.mach_ir.specs.declared.blocks.NewBlock.{NewBlock}
use Rattle.mach_ir.specs.declared.op.Access.{Access}
use Rattle.mach_ir.specs.declared.op.Access.TheVariants as access
use Rattle.mach_ir.specs.declared.op.Callee.{Callee}
use Rattle.mach_ir.specs.declared.op.Callee.TheVariants as callee
use Rattle.mach_ir.specs.declared.op.Calling.{Calling}
use Rattle.mach_ir.specs.declared.op.Calling.TheVariants as calling
use Rattle.mach_ir.specs.declared.op.Leaving.{Leaving}
use Rattle.mach_ir.specs.declared.op.Leaving.TheVariants as leaving
use Rattle.mach_ir.specs.declared.op.Op.TheVariants as op
use Rattle.mach_ir.specs.declared.op.Pure.{Pure}
use Rattle.mach_ir.specs.declared.op.Pure.TheVariants as pure
use Rattle.mach_ir.specs.declared.op.Right.TheVariants as right
use Rattle.mach_ir.specs.declared.reg.Reg.{Reg}
use Rattle.mach_ir.specs.declared.mach.Instr.{Instr}
use Rattle.mach_ir.specs.declared.mach.Mach.{Mach}
use Rattle.mach_ir.specs.declared.mach.MachOp.{MachOp}
use Rattle.mach_ir.specs.declared.mach.MachOp.TheVariants as mach
use Rattle.mach_ir.specs.declared.mach.Mark.{Mark}
use Rattle.mach_ir.specs.declared.mach.Mark.TheVariants as mark
use Rattle.mach_ir.specs.Acts as acts
use Rattle.mach_ir.specs.Acts.{Around, Target, On, At, Landing, AtLabel, AtHandler, Act, Goes, Pushes, Jumps, Unwinds, Asks, Replaces, Ends, EndsRaising, Stuck, one_result, if_known, pure_act, moved_by, is_among_cells, is_complete, loaded_act, after_store, header_written, first_written, stored_act, with_block, new_blocks, access_act, callee_raises, raised_by, raise_act, call_answered, as_list, act_after_call, after_external, asks, asks_value, asks_callee, calling_act, checked, leaving_act, truth_of, goes_by_test, goes_to_case, switched}
use Rattle.mach_ir.specs.Runs.{ActivationSetting, entry_around}
use Rattle.mach_ir.specs.Meaning.{File, Held, assign_register, put_if, put_all, clear_registers, killed, with_held, values, mark_act, mach_act, has_label, after_label, is_handler_of, from_handler, code_at, at_handler, tries_at, landing_code, wrote, on_act}
use Rattle.selection_rules.specs.Bounded.{Bounded, AllBounded, MaybeBounded, BoundedResult, BoundedMemory, BoundedFile, BoundedAround, BoundedHeaders, BoundedOp, BoundedCode, BoundedState, BoundedDoing, BoundedStep, BoundedSymbols}
use Rattle.selection_rules.specs.Kept.{on_lossless_values, at_lossless_code}
use Rattle.selection_rules.proofs.Words.{apply_bounded, loaded_bounded, BoundedAfter, after, no_after, stored_bounded, new_block_bounded}
use Rattle.selection_rules.proofs.Plays.{StaysBounded}

-- ---- registers

pub nothing_held : BoundedFile (λ n. None)
nothing_held = record { each = λ n h e. absurd (let no' : None ≡ Some h = e in cc) }

put_bounded : (r : Reg) (v : Value) (f : File) → Bounded v → BoundedFile f → BoundedFile (assign_register r v f)
put_bounded r v f b z = record { each = λ n h e. by n h (nat_eq r.number n) e }
  where
    by : (n : ℕ) (h : Held) (t : Bool) → cond t (Some (record { comp = r.comp; value = v })) (f n) ≡ Some h → Bounded h.value
    by n h true e = let same : record { comp = r.comp; value = v } ≡ h = cc in subst (λ (q : Held). Bounded q.value) same b
    by n h false e = z.each n h e

pub data PutBounded : Option File → Type 0 where
  no_file : PutBounded None
  a_file : {f : File} → BoundedFile f → PutBounded (Some f)

put_if_bounded : (t : Bool) (r : Reg) (v : Value) {o : Option File} → Bounded v → PutBounded o → PutBounded (put_if t r v o)
put_if_bounded true r v b no_file = no_file
put_if_bounded true r v b (a_file {f = f} z) = a_file (put_bounded r v f b z)
put_if_bounded false r v b z = no_file

pub put_all_bounded : (end : ℕ) (rs : List Reg) (vs : List Value) {f : File} → AllBounded vs → BoundedFile f → PutBounded (put_all end rs vs f)
put_all_bounded end [] [] b z = a_file z
put_all_bounded end (r ∷ rs) (v ∷ vs) b z = put_if_bounded (fits end (type_of_comp r.comp) v) r v b.0 (put_all_bounded end rs vs b.1 z)
put_all_bounded end [] (v ∷ vs) b z = no_file
put_all_bounded end (r ∷ rs) [] b z = no_file

pub the_file : {o : Option File} (g : File) → PutBounded o → o ≡ Some g → BoundedFile g
the_file g no_file e = absurd (let no' : None ≡ Some g = e in cc)
the_file g (a_file {f = f} z) e = let same : f ≡ g = cc in subst (λ (h : File). BoundedFile h) same z

-- ---- the entry

pub bounded_begun : (c : ActivationSetting) (m : Mach) (params : List Reg) (arguments : List Value) (memory : Memory) {g : File} → BoundedCode m.code → AllBounded arguments → BoundedMemory memory →
    put_all c.setting.end params arguments (λ n. None) ≡ Some g → BoundedState (record { rest = m.code; file = g; around = entry_around memory })
bounded_begun c m params arguments memory {g} constants words cells is =
    record { rest = constants; file = the_file g (put_all_bounded c.setting.end params arguments words nothing_held) is; around = record { memory = cells; raised = tt } }

-- ---- acts

abbrev BoundedAct : Act → Type 0
BoundedAct (Goes vs to next) = AllBounded vs × BoundedAround next
BoundedAct (Pushes next) = BoundedAround next
BoundedAct (Jumps to next) = BoundedAround next
BoundedAct (Unwinds next) = BoundedAround next
BoundedAct (Asks callee vs go) = AllBounded vs × ((d : Doing) → BoundedDoing d → BoundedAct (go d))
BoundedAct (Replaces callee vs kept) = AllBounded vs
BoundedAct (Ends d) = BoundedDoing d
BoundedAct (EndsRaising d) = BoundedDoing d
BoundedAct Stuck = Unit {0}

only_if_bounded : (t : Bool) (x : Act) → BoundedAct x → BoundedAct (acts.stuck_unless t x)
only_if_bounded true x b = b
only_if_bounded false x b = tt

cond_act : (t : Bool) (x y : Act) → BoundedAct x → BoundedAct y → BoundedAct (cond t x y)
cond_act true x y p q = p
cond_act false x y p q = q

-- the same around with tries and unwritten cells of its own
same_words : {a : Around} (cells : List Cell) (tries : List ℕ) → BoundedAround a → BoundedAround (record a { unwritten = cells; tries = tries })
same_words cells tries b = record { memory = b.memory; raised = b.raised }

one_bounded : (a : Around) (o : Result Value Kind) → BoundedResult o → BoundedAround a → BoundedAct (one_result a o)
one_bounded a (Ok v) p b = ((p, tt), b)
one_bounded a (Err kind) p b = tt

if_known_bounded : (a : Around) (o : Option Value) → MaybeBounded o → BoundedAround a → BoundedAct (if_known a o)
if_known_bounded a (Some v) p b = ((p, tt), b)
if_known_bounded a None p b = tt

maybe_symbol : (c : Setting) → BoundedSymbols c → (name : List ℕ) → MaybeBounded (c.symbol name)
maybe_symbol c z name = by (c.symbol name) refl
  where
    by : (o : Option Value) → c.symbol name ≡ o → MaybeBounded o
    by None e = tt
    by (Some v) e = z.each name v e

pure_bounded : (c : Setting) → BoundedSymbols c → (f : Pure) (vs : List Value) (a : Around) → BoundedOp (mach.Op (op.Pure f)) → AllBounded vs → BoundedAround a → BoundedAct (pure_act c f vs a)
pure_bounded c z (pure.Copy kind) [] a q p b = tt
pure_bounded c z (pure.Copy kind) (v ∷ []) a q p b = ((p.0, tt), b)
pure_bounded c z (pure.Copy kind) (v ∷ w ∷ vs) a q p b = tt
pure_bounded c z (pure.Constant w) [] a q p b = ((q, tt), b)
pure_bounded c z (pure.Constant w) (v ∷ vs) a q p b = tt
pure_bounded c z (pure.Symbol name) [] a q p b = if_known_bounded a (c.symbol name) (maybe_symbol c z name) b
pure_bounded c z (pure.Symbol name) (v ∷ vs) a q p b = tt
pure_bounded c z (pure.Operator f right.Register) [] a q p b = tt
pure_bounded c z (pure.Operator f right.Register) (v ∷ []) a q p b = tt
pure_bounded c z (pure.Operator f right.Register) (v ∷ w ∷ []) a q p b = one_bounded a _ (apply_bounded f (sizes a.memory) v w p.0 p.1.0) b
pure_bounded c z (pure.Operator f right.Register) (v ∷ w ∷ u ∷ vs) a q p b = tt
pure_bounded c z (pure.Operator f (right.Constant w)) [] a q p b = tt
pure_bounded c z (pure.Operator f (right.Constant w)) (v ∷ []) a q p b = one_bounded a _ (apply_bounded f (sizes a.memory) v (value.Word w) p.0 q) b
pure_bounded c z (pure.Operator f (right.Constant w)) (v ∷ u ∷ vs) a q p b = tt

-- ---- memory

loaded_act_bounded : (a : Around) (cell : Option Cell) (o : Result Value Kind) → BoundedResult o → BoundedAround a → BoundedAct (loaded_act a cell o)
loaded_act_bounded a (Some cell) o p b = cond_act (is_among_cells cell a.unwritten) Stuck (one_result a o) tt (one_bounded a o p b)
loaded_act_bounded a None o p b = tt

after_store_bounded : (a : Around) (cells : List Cell) {o : Result Memory Kind} → BoundedAfter o → BoundedAround a → BoundedAct (after_store a cells o)
after_store_bounded a cells (after m) b = (tt, record { memory = m; raised = b.raised })
after_store_bounded a cells no_after b = tt

header_bounded : (k : Chunk) (a : Around) (s : ℕ) (old v : Value) → BoundedAround a → BoundedAct (header_written k a s old v)
header_bounded chunk.Int a s (value.Word h) (value.Word w) b = only_if_bounded (nat_eq w h) _ (tt, record { memory = b.memory; raised = b.raised })
header_bounded chunk.Int a s (value.Word h) (value.Block t o) b = tt
header_bounded chunk.Int a s (value.Word h) (value.Function f) b = tt
header_bounded chunk.Int a s (value.Block t o) v b = tt
header_bounded chunk.Int a s (value.Function f) v b = tt
header_bounded chunk.Val a s old v b = tt
header_bounded chunk.U8 a s old v b = tt
header_bounded chunk.I8 a s old v b = tt
header_bounded chunk.U16 a s old v b = tt
header_bounded chunk.I16 a s old v b = tt
header_bounded chunk.U32 a s old v b = tt
header_bounded chunk.I32 a s old v b = tt

first_bounded : (k : Chunk) (a : Around) (cell : Cell) (x v : Value) → Bounded v → BoundedAround a → BoundedAct (first_written k a cell x v)
first_bounded k a (InHeader s) x v p b = header_bounded k a s _ v b
first_bounded k a (InBlock s n) x v p b = only_if_bounded (nat_eq (width k) 8) _ (after_store_bounded a _ (stored_bounded k a.memory x v p b.memory) b)
first_bounded k a (InStatic l n) x v p b = tt

stored_act_bounded : (k : Chunk) (a : Around) (cell : Option Cell) (x v : Value) → Bounded v → BoundedAround a → BoundedAct (stored_act k a cell x v)
stored_act_bounded k a None x v p b = tt
stored_act_bounded k a (Some cell) x v p b =
    cond_act (is_among_cells cell a.unwritten) _ _ (first_bounded k a cell x v p b) (after_store_bounded a a.unwritten (stored_bounded k a.memory x v p b.memory) b)

all_append : (xs ys : List Value) → AllBounded xs → AllBounded ys → AllBounded (xs ++ ys)
all_append [] ys p q = q
all_append (x ∷ xs) ys p q = (p.0, all_append xs ys p.1 q)

new_blocks_bounded : (blocks : List NewBlock) (so_far : List Value) (a : Around) → BoundedHeaders blocks → AllBounded so_far → BoundedAround a → BoundedAct (new_blocks blocks so_far a)
new_blocks_bounded [] so_far a h p b = (p, b)
new_blocks_bounded (n ∷ blocks) so_far a h p b =
    new_blocks_bounded blocks (so_far ++ value.Block (length a.memory.blocks) 0 ∷ []) (with_block n a) h.1 (all_append so_far (value.Block (length a.memory.blocks) 0 ∷ []) p (tt, tt))
    (record { memory = new_block_bounded a.memory n.header n.cells h.0 b.memory; raised = b.raised })

access_bounded : (f : Access) (vs : List Value) (a : Around) → BoundedOp (mach.Op (op.Access f)) → AllBounded vs → BoundedAround a → BoundedAct (access_act f vs a)
access_bounded (access.Load k o) [] a q p b = tt
access_bounded (access.Load k o) (x ∷ []) a q p b = loaded_act_bounded a _ _ (loaded_bounded k a.memory (moved_by o x) b.memory) b
access_bounded (access.Load k o) (x ∷ y ∷ vs) a q p b = tt
access_bounded (access.Store k o) [] a q p b = tt
access_bounded (access.Store k o) (x ∷ []) a q p b = tt
access_bounded (access.Store k o) (x ∷ v ∷ []) a q p b = stored_act_bounded k a _ (moved_by o x) v p.1.0 b
access_bounded (access.Store k o) (x ∷ v ∷ w ∷ vs) a q p b = tt
access_bounded (access.Alloc blocks) [] a q p b = only_if_bounded (is_complete a) _ (new_blocks_bounded blocks [] a q tt b)
access_bounded (access.Alloc blocks) (x ∷ vs) a q p b = tt

-- ---- raises and calls

callee_raises_bounded : (v : Value) (m : Memory) (a : Around) (tries : List ℕ) → Bounded v → BoundedMemory m → BoundedAct (callee_raises v m a tries)
callee_raises_bounded v m a [] p q = (p, q)
callee_raises_bounded v m a (l ∷ tries) p q = record { memory = q; raised = p }

raised_by_bounded : (v : Value) (a : Around) (tries : List ℕ) → Bounded v → BoundedAround a → BoundedAct (raised_by v a tries)
raised_by_bounded v a [] p b = (p, b.memory)
raised_by_bounded v a (l ∷ tries) p b = record { memory = b.memory; raised = p }

raises_bounded : (c : Setting) (v : Value) (a : Around) → Bounded v → BoundedAround a → BoundedAct (raise_act c v a)
raises_bounded c v a p b = only_if_bounded _ _ (raised_by_bounded v a a.tries p b)

as_list_bounded : (v : Option Value) → MaybeBounded v → AllBounded (as_list v)
as_list_bounded None p = tt
as_list_bounded (Some v) p = (p, tt)

answered_bounded : (end : ℕ) (result : Ret) (v : Option Value) (go : Option Value → Act) → MaybeBounded v → ((v : Option Value) → MaybeBounded v → BoundedAct (go v)) → BoundedAct (call_answered end result v go)
answered_bounded end ret.Unit v go p on = on None tt
answered_bounded end (ret.Comp t) (Some v) go p on = only_if_bounded _ _ (on (Some v) p)
answered_bounded end (ret.Comp t) None go p on = tt

after_call_bounded : (c : Setting) (result : Ret) (a : Around) → BoundedAround a → (d : Doing) → BoundedDoing d → BoundedAct (act_after_call c result a d)
after_call_bounded c result a b (Gave v m) q =
    answered_bounded c.end result v _ q.0 (λ v p. (as_list_bounded v p, record { memory = q.1; raised = b.raised }))
after_call_bounded c result a b (Threw v m) q = only_if_bounded _ _ (callee_raises_bounded v m a a.tries q.0 q.1)

after_external_bounded : (c : Setting) (result : Ret) (frame : Bool) (a : Around) → BoundedAround a → (d : Doing) → BoundedDoing d → BoundedAct (after_external c result frame a d)
after_external_bounded c result true a b (Gave v m) q = answered_bounded c.end result v _ q.0 (λ v p. (as_list_bounded v p, b))
after_external_bounded c result false a b (Gave v m) q = answered_bounded c.end result v _ q.0 (λ v p. (as_list_bounded v p, b))
after_external_bounded c result true a b (Threw v m) q = only_if_bounded _ _ (raised_by_bounded v a a.tries q.0 b)
after_external_bounded c result false a b (Threw v m) q = tt

asks_bounded : (c : Setting) (o : Option (List Comp)) (f : ℕ) (vs : List Value) (a : Around) (call : state.Callee → List Value → Act) → AllBounded vs →
    ((f : state.Callee) (vs : List Value) → AllBounded vs → BoundedAct (call f vs)) → BoundedAct (asks c o f vs a call)
asks_bounded c None f vs a call p on = tt
asks_bounded c (Some comps) f vs a call p on = only_if_bounded _ _ (on (Inside f) vs p)

asks_value_bounded : (c : Setting) (o : Option Value) (vs : List Value) (a : Around) (call : state.Callee → List Value → Act) → AllBounded vs →
    ((f : state.Callee) (vs : List Value) → AllBounded vs → BoundedAct (call f vs)) → BoundedAct (asks_value c o vs a call)
asks_value_bounded c None vs a call p on = tt
asks_value_bounded c (Some (value.Word w)) vs a call p on = tt
asks_value_bounded c (Some (value.Block s o)) vs a call p on = tt
asks_value_bounded c (Some (value.Function f)) vs a call p on = asks_bounded c (slice_get c.parameters f) f vs a call p on

asks_callee_bounded : (c : Setting) (whom : Callee) (vs : List Value) (a : Around) (call : state.Callee → List Value → Act) → AllBounded vs →
    ((f : state.Callee) (vs : List Value) → AllBounded vs → BoundedAct (call f vs)) → BoundedAct (asks_callee c whom vs a call)
asks_callee_bounded c (callee.Symbol name) vs a call p on = asks_value_bounded c (c.symbol name) vs a call p on
asks_callee_bounded c callee.Register (v ∷ vs) a call p on = asks_value_bounded c (Some v) vs a call p.1 on
asks_callee_bounded c callee.Register [] a call p on = tt

calling_bounded : (c : Setting) (f : Calling) (vs : List Value) (a : Around) → AllBounded vs → BoundedAround a → BoundedAct (calling_act c f vs a)
calling_bounded c (calling.Call whom result) vs a p b = asks_callee_bounded c whom vs a _ p (λ f vs p. (p, λ d q. after_call_bounded c result a b d q))
calling_bounded c (calling.TailCall whom result) vs a p b = asks_callee_bounded c whom vs a _ p (λ f vs p. p)
calling_bounded c (calling.External row frame) vs a p b = only_if_bounded (is_complete a) _ (p, λ d q. after_external_bounded c row.result frame a b d q)

-- ---- leaving

checked_bounded : (c : Setting) (x y : Result ℕ Kind) (a : Around) → BoundedAround a → BoundedAct (checked c x y a)
checked_bounded c (Ok x) (Ok y) a b = cond_act (nat_lt y x) (Goes [] On a) (raise_act c bound_error a) (tt, b) (raises_bounded c bound_error a (omega arith) b)
checked_bounded c (Ok x) (Err kind) a b = tt
checked_bounded c (Err kind) y a b = tt

leaving_bounded : (c : Setting) (f : Leaving) (vs : List Value) (a : Around) → AllBounded vs → BoundedAround a → BoundedAct (leaving_act c f vs a)
leaving_bounded c (leaving.Checkbound right.Register) [] a p b = tt
leaving_bounded c (leaving.Checkbound right.Register) (x ∷ []) a p b = tt
leaving_bounded c (leaving.Checkbound right.Register) (x ∷ y ∷ []) a p b = checked_bounded c (word_in x) (word_in y) a b
leaving_bounded c (leaving.Checkbound right.Register) (x ∷ y ∷ z ∷ vs) a p b = tt
leaving_bounded c (leaving.Checkbound (right.Constant w)) [] a p b = tt
leaving_bounded c (leaving.Checkbound (right.Constant w)) (x ∷ []) a p b = checked_bounded c (word_in x) (Ok w) a b
leaving_bounded c (leaving.Checkbound (right.Constant w)) (x ∷ y ∷ vs) a p b = tt
leaving_bounded c leaving.Raise [] a p b = tt
leaving_bounded c leaving.Raise (v ∷ []) a p b = raises_bounded c v a p.0 b
leaving_bounded c leaving.Raise (v ∷ w ∷ vs) a p b = tt
leaving_bounded c leaving.Return [] a p b = only_if_bounded (is_complete a) _ (tt, b.memory)
leaving_bounded c leaving.Return (v ∷ []) a p b = only_if_bounded (is_complete a) _ (p.0, b.memory)
leaving_bounded c leaving.Return (v ∷ w ∷ vs) a p b = tt

-- ---- marks

branches_bounded : (a : Around) (x y : Target) (o : Option Bool) → BoundedAround a → BoundedAct (goes_by_test a x y o)
branches_bounded a x y (Some t) b = (tt, b)
branches_bounded a x y None b = tt

case_bounded : (a : Around) (labels : List ℕ) (o : Result ℕ Kind) → BoundedAround a → BoundedAct (goes_to_case a labels o)
case_bounded a labels (Err kind) b = tt
case_bounded a [] (Ok n) b = tt
case_bounded a (l ∷ labels) (Ok zero) b = (tt, b)
case_bounded a (l ∷ labels) (Ok (suc n)) b = case_bounded a labels (Ok n) b

switched_bounded : (a : Around) (labels : List ℕ) (vs : List Value) → BoundedAround a → BoundedAct (switched a labels vs)
switched_bounded a labels [] b = tt
switched_bounded a labels (v ∷ []) b = case_bounded a labels (word_in v) b
switched_bounded a labels (v ∷ w ∷ vs) b = tt

mark_bounded : (f : Mark) (vs : List Value) (a : Around) → BoundedAround a → BoundedAct (mark_act f vs a)
mark_bounded (mark.Exit l n) [] a b = record { memory = b.memory; raised = b.raised }
mark_bounded (mark.If t l) vs a b = branches_bounded a On (At l) (truth_of (sizes a.memory) t vs) b
mark_bounded (mark.Else l end) [] a b = (tt, b)
mark_bounded (mark.Switch labels) vs a b = switched_bounded a labels vs b
mark_bounded (mark.Case indexes l end) [] a b = (tt, b)
mark_bounded mark.Catch [] a b = (tt, b)
mark_bounded (mark.With l end) [] a b = (tt, b)
mark_bounded (mark.Try l) [] a b = record { memory = b.memory; raised = b.raised }
mark_bounded (mark.Leave l end) [] a b = (tt, record { memory = b.memory; raised = b.raised })
mark_bounded (mark.Handler l) [] a b = if_known_bounded _ a.raised b.raised (record { memory = b.memory; raised = tt })
mark_bounded (mark.End l) [] a b = (tt, b)
mark_bounded (mark.Exit l n) (v ∷ vs) a b = tt
mark_bounded (mark.Else l end) (v ∷ vs) a b = tt
mark_bounded (mark.Case indexes l end) (v ∷ vs) a b = tt
mark_bounded mark.Catch (v ∷ vs) a b = tt
mark_bounded (mark.With l end) (v ∷ vs) a b = tt
mark_bounded (mark.Try l) (v ∷ vs) a b = tt
mark_bounded (mark.Leave l end) (v ∷ vs) a b = tt
mark_bounded (mark.Handler l) (v ∷ vs) a b = tt
mark_bounded (mark.End l) (v ∷ vs) a b = tt

act_bounded : (c : Setting) → BoundedSymbols c → (f : MachOp) (vs : List Value) (a : Around) → BoundedOp f → AllBounded vs → BoundedAround a → BoundedAct (mach_act c f vs a)
act_bounded c z (mach.Op (op.Pure f)) vs a q p b = pure_bounded c z f vs a q p b
act_bounded c z (mach.Op (op.Access f)) vs a q p b = access_bounded f vs a q p b
act_bounded c z (mach.Op (op.Calling f)) vs a q p b = calling_bounded c f vs a p b
act_bounded c z (mach.Op (op.Leaving f)) vs a q p b = leaving_bounded c f vs a p b
act_bounded c z (mach.Mark f) vs a q p b = mark_bounded f vs a b

-- ---- steps

code_if : (t : Bool) (x y : List Instr) → BoundedCode x → BoundedCode y → BoundedCode (cond t x y)
code_if true x y p q = p
code_if false x y p q = q

after_label_bounded : (l : ℕ) (code : List Instr) → BoundedCode code → BoundedCode (after_label l code)
after_label_bounded l [] b = tt
after_label_bounded l (i ∷ code) b = code_if (has_label l i.op) code (after_label l code) b.1 (after_label_bounded l code b.1)

from_handler_bounded : (l : ℕ) (code : List Instr) → BoundedCode code → BoundedCode (from_handler l code)
from_handler_bounded l [] b = tt
from_handler_bounded l (i ∷ code) b = code_if (is_handler_of l i.op) (i ∷ code) (from_handler l code) b (from_handler_bounded l code b.1)

code_at_bounded : (code next : List Instr) (t : Target) → BoundedCode code → BoundedCode next → BoundedCode (code_at code next t)
code_at_bounded code next On p q = q
code_at_bounded code next (At l) p q = after_label_bounded l code p

at_handler_bounded : (code : List Instr) (tries : List ℕ) → BoundedCode code → BoundedCode (at_handler code tries)
at_handler_bounded code [] p = tt
at_handler_bounded code (l ∷ tries) p = from_handler_bounded l code p

landing_bounded : (code here : List Instr) (l : Landing) → BoundedCode code → BoundedCode (landing_code code here l)
landing_bounded code here (AtLabel l) p = after_label_bounded l code p
landing_bounded code here AtHandler p = at_handler_bounded code (tries_at here) p

less_bounded : (r : Reg) (f : File) → BoundedFile f → BoundedFile (λ n. cond (nat_eq r.number n) None (f n))
less_bounded r f b = record { each = λ n h e. by n h (nat_eq r.number n) e }
  where
    by : (n : ℕ) (h : Held) (t : Bool) → cond t None (f n) ≡ Some h → Bounded h.value
    by n h true e = absurd (let no' : None ≡ Some h = e in cc)
    by n h false e = b.each n h e

cleared_bounded : (rs : List Reg) (f : File) → BoundedFile f → BoundedFile (clear_registers rs f)
cleared_bounded [] f b = b
cleared_bounded (r ∷ rs) f b = less_bounded r (clear_registers rs f) (cleared_bounded rs f b)

wrote_bounded : (rest : List Instr) (a : Around) {o : Option File} → BoundedCode rest → BoundedAround a → PutBounded o → BoundedStep (wrote rest a o)
wrote_bounded rest a p b no_file = tt
wrote_bounded rest a p b (a_file z) = record { rest = p; file = z; around = b }

-- what is read
data ReadBounded : Option (List Value) → Type 0 where
  no_values : ReadBounded None
  some_values : {vs : List Value} → AllBounded vs → ReadBounded (Some vs)

held_bounded : (f : File) (n : ℕ) (o : Option Held) {p : Option (List Value)} → BoundedFile f → f n ≡ o → ReadBounded p → ReadBounded (with_held o p)
held_bounded f n (Some h) b e (some_values q) = some_values (b.each n h e, q)
held_bounded f n (Some h) b e no_values = no_values
held_bounded f n None b e q = no_values

values_bounded : (f : File) (rs : List Reg) → BoundedFile f → ReadBounded (values f rs)
values_bounded f [] b = some_values tt
values_bounded f (r ∷ rs) b = held_bounded f r.number (f r.number) b refl (values_bounded f rs b)

module _ (c : ActivationSetting) (m : Mach) (z : BoundedSymbols c.setting) (constants : BoundedCode m.code) where
  on_act_bounded : (i : Instr) (next : List Instr) (f : File) (a : Around) (x : Act) → BoundedCode (i ∷ next) → BoundedFile f → BoundedAround a → BoundedAct x → BoundedStep (on_act c m i next f a x)
  on_act_bounded i next f a (Goes vs to later) q p b e =
      wrote_bounded _ later (code_at_bounded m.code next to constants q.1) e.1 (put_all_bounded c.setting.end i.results vs e.0 (cleared_bounded (killed m i) f p))
  on_act_bounded i next f a (Pushes later) q p b e = record { rest = q.1; file = p; around = e }
  on_act_bounded i next f a (Jumps to later) q p b e = record { rest = landing_bounded m.code (i ∷ next) to constants; file = p; around = e }
  on_act_bounded i next f a (Unwinds later) q p b e = record { rest = landing_bounded m.code (i ∷ next) AtHandler constants; file = p; around = e }
  on_act_bounded i next f a (Asks callee vs go) q p b e = (record { arguments = e.0; memory = b.memory }, λ d w. on_act_bounded i next f a (go d) q p b (e.1 d w))
  on_act_bounded i next f a (Replaces callee vs kept) q p b e = record { arguments = e; memory = b.memory }
  on_act_bounded i next f a (Ends d) q p b e = e
  on_act_bounded i next f a (EndsRaising d) q p b e = e
  on_act_bounded i next f a Stuck q p b e = tt

  step_bounded : (rest : List Instr) (f : File) (a : Around) → BoundedCode rest → BoundedFile f → BoundedAround a → BoundedStep (at_lossless_code c m rest f a)
  step_bounded [] f a q p b = tt
  step_bounded (i ∷ next) f a q p b = by (values_bounded f i.args p)
    where
      by : {o : Option (List Value)} → ReadBounded o → BoundedStep (on_lossless_values c m i next f a o)
      by no_values = tt
      by (some_values {vs = vs} e) = on_act_bounded i next f a (mach_act c.setting i.op vs a) q p b (act_bounded c.setting z i.op vs a q.0 e b)

  pub stays_bounded : StaysBounded c m
  stays_bounded = record { step = λ s b. step_bounded s.rest s.file s.around b.rest b.file b.around }
