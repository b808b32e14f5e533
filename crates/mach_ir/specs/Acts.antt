-- What an operation does to values and to what is round a function. Registers, places and colours
-- do not occur here, so that Mach and Linear have this in common, and a pass treats what it leaves
-- alone once.
--
-- The two meanings are stuck a little more often than they need to be: at a header that is not the
-- allocation's, at a value that does not fit what is written, at the end of the code. A text's run is
-- improper in each case. So what selection promises is the stronger for it, and what passes need the
-- weaker.
use Rattle.std.specs.Prelude.{ℕ, zero, suc, ◌+◌, ◌%◌, ◌^◌, Bool, true, false, cond, ◌&&◌, ◌||◌, not, nat_eq, nat_lt, List, [], ◌∷◌, ◌++◌, Option, Some, None, Result, Ok, Err, length, replicate, slice_get}
use Rattle.bs_words.specs.External.{External}
use Rattle.bs_words.specs.Fits.{fits, type_of_comp}
use Rattle.bs_words.specs.Memory.{Memory, HeapBlock, Cell, InHeader, InBlock, InStatic, sizes, loaded, stored, cell_at, width, value_in_cell}
use Rattle.bs_words.specs.Operators.{apply, condition_of, word_in}
use Rattle.bs_words.specs.declared.operators.IntOp.TheVariants as operator
use Rattle.bs_words.specs.declared.types.Chunk.{Chunk}
use Rattle.bs_words.specs.declared.types.Chunk.TheVariants as chunk
use Rattle.bs_words.specs.declared.types.Comp.{Comp}
use Rattle.bs_words.specs.declared.types.Ret.{Ret}
use Rattle.bs_words.specs.declared.types.Ret.TheVariants as ret
use Rattle.bs_words.specs.declared.types.Ty.TheVariants as ty
use Rattle.bs_words.specs.declared.values.Kind.{Kind}
use Rattle.bs_words.specs.declared.values.Value.{Value}
use Rattle.bs_words.specs.declared.values.Value.TheVariants as value
use Rattle.cmm_meaning.specs.Evaluation.{fit_parameters, bound_error}
use Rattle.cmm_meaning.specs.Setting.{Setting}
use Rattle.cmm_meaning.specs.State as state
use Rattle.cmm_meaning.specs.State.{Doing, Gave, Threw, Inside, Outside}
use Rattle.mach_ir.specs.declared.op.Right.TheVariants as right
use Rattle.mach_ir.specs.declared.op.Pure.{Pure}
use Rattle.mach_ir.specs.declared.op.Pure.TheVariants as pure
use Rattle.mach_ir.specs.declared.blocks.NewBlock.{NewBlock}
use Rattle.mach_ir.specs.declared.op.Access.{Access}
use Rattle.mach_ir.specs.declared.op.Access.TheVariants as access
use Rattle.mach_ir.specs.declared.op.Callee.{Callee}
use Rattle.mach_ir.specs.declared.op.Callee.TheVariants as callee
use Rattle.mach_ir.specs.declared.op.External as declared
use Rattle.mach_ir.specs.declared.op.Calling.{Calling}
use Rattle.mach_ir.specs.declared.op.Calling.TheVariants as calling
use Rattle.mach_ir.specs.declared.op.Leaving.{Leaving}
use Rattle.mach_ir.specs.declared.op.Leaving.TheVariants as leaving
use Rattle.mach_ir.specs.declared.op.Op.{Op}
use Rattle.mach_ir.specs.declared.op.Op.TheVariants as op
use Rattle.mach_ir.specs.declared.mach.Test.{Test}
use Rattle.mach_ir.specs.declared.mach.Test.TheVariants as test

-- ---- memory, in which headers and cells of new blocks are unwritten

pub record Around : Type 0 where
  pub memory : Memory
  pub unwritten : List Cell
  -- the handlers of the pushed tries, the innermost first
  pub tries : List ℕ
  -- a raised value on its way to its handler
  pub raised : Option Value

abbrev pub same_cell : Cell → Cell → Bool
same_cell (InHeader s) (InHeader t) = nat_eq s t
same_cell (InBlock s i) (InBlock t j) = nat_eq s t && nat_eq i j
same_cell (InStatic s i) (InStatic t j) = nat_eq s t && nat_eq i j
same_cell _ _ = false

abbrev pub is_among_cells : Cell → List Cell → Bool
is_among_cells c [] = false
is_among_cells c (d ∷ ds) = same_cell c d || is_among_cells c ds

abbrev pub without : Cell → List Cell → List Cell
without c [] = []
without c (d ∷ ds) = cond (same_cell c d) (without c ds) (d ∷ without c ds)

-- so many cells of a block, from this one on
abbrev pub cells_from : ℕ → ℕ → ℕ → List Cell
cells_from s i zero = []
cells_from s i (suc n) = InBlock s i ∷ cells_from s (suc i) n

-- each block has been written whole
abbrev pub is_complete : Around → Bool
is_complete a = nat_eq (length a.unwritten) 0

-- ---- acts

-- where an operation goes on
pub data Target : Type 0 where
  On : Target
  -- at the place of a label
  At : (label : ℕ) → Target

-- where a jump comes to: the place of a label, or the handler of the innermost try
pub data Landing : Type 0 where
  AtLabel : (label : ℕ) → Landing
  AtHandler : Landing

-- What an operation does, once its operands are read.
pub data Act : Type 0 where
  -- it goes on, with values for its results
  Goes : (results : List Value) (to : Target) (after : Around) → Act
  -- it goes on where a try is pushed; it writes nothing
  Pushes : (after : Around) → Act
  -- an exit, or a raise of its own to a handler of the function: a unit; it writes nothing
  Jumps : (to : Landing) (after : Around) → Act
  -- to the handler, since its callee raised; it writes nothing
  Unwinds : (after : Around) → Act
  -- a call, and what it does with what that did
  Asks : (callee : state.Callee) (arguments : List Value) (go : Doing → Act) → Act
  -- a call that takes the function's place: it ends as that does, but for what its own result
  -- leaves
  Replaces : (callee : state.Callee) (arguments : List Value) (kept : Ret) → Act
  -- the function is over
  Ends : (doing : Doing) → Act
  -- it is over by a raise of its own: a unit
  EndsRaising : (doing : Doing) → Act
  Stuck : Act

abbrev pub stuck_unless : Bool → Act → Act
stuck_unless true act = act
stuck_unless false act = Stuck

-- ---- what reads registers alone

abbrev pub one_result : Around → Result Value Kind → Act
one_result a (Ok v) = Goes (v ∷ []) On a
one_result a (Err kind) = Stuck

abbrev pub if_known : Around → Option Value → Act
if_known a (Some v) = Goes (v ∷ []) On a
if_known a None = Stuck

abbrev pub pure_act : Setting → Pure → List Value → Around → Act
pure_act c (pure.Copy kind) (v ∷ []) a = Goes (v ∷ []) On a
pure_act c (pure.Constant w) [] a = Goes (value.Word w ∷ []) On a
pure_act c (pure.Symbol name) [] a = if_known a (c.symbol name)
pure_act c (pure.Operator f right.Register) (x ∷ y ∷ []) a =
    one_result a (apply f (sizes a.memory) x y)
pure_act c (pure.Operator f (right.Constant w)) (x ∷ []) a =
    one_result a (apply f (sizes a.memory) x (value.Word w))
pure_act c _ _ a = Stuck

-- ---- memory

-- the address so many bytes further
abbrev pub moved_by : ℕ → Value → Value
moved_by zero v = v
moved_by offset (value.Word w) = value.Word ((w + offset) % 2 ^ 64)
moved_by offset (value.Block s o) = value.Block s ((o + offset) % 2 ^ 64)
moved_by offset (value.Function f) = value.Function f

-- a read of what has not been written is stuck
abbrev pub loaded_act : Around → Option Cell → Result Value Kind → Act
loaded_act a (Some cell) r = cond (is_among_cells cell a.unwritten) Stuck (one_result a r)
loaded_act a None r = Stuck

abbrev pub after_store : Around → List Cell → Result Memory Kind → Act
after_store a unwritten (Ok m) = Goes [] On (record a { memory = m; unwritten = unwritten })
after_store a unwritten (Err kind) = Stuck

-- The first write of a header is none of an improper kind. It is the word that the allocation says,
-- since that word says which values fit the cells.
abbrev pub header_written : Chunk → Around → ℕ → Value → Value → Act
header_written chunk.Int a s (value.Word header) (value.Word w) =
    stuck_unless (nat_eq w header)
    (Goes [] On (record a { unwritten = without (InHeader s) a.unwritten }))
header_written k a s old new = Stuck

-- a cell is first written as a whole, since a smaller store would read it
abbrev pub first_written : Chunk → Around → Cell → Value → Value → Act
first_written k a (InHeader s) x v = header_written k a s (value_in_cell a.memory (InHeader s)) v
first_written k a (InBlock s n) x v =
    stuck_unless (nat_eq (width k) 8)
    (after_store a (without (InBlock s n) a.unwritten) (stored k a.memory x v))
first_written k a (InStatic l n) x v = Stuck

abbrev pub stored_act : Chunk → Around → Option Cell → Value → Value → Act
stored_act k a None x v = Stuck
stored_act k a (Some cell) x v =
    cond (is_among_cells cell a.unwritten) (first_written k a cell x v)
    (after_store a a.unwritten (stored k a.memory x v))

-- a block as it is allocated: it will have this header, and its cells hold nothing yet
abbrev pub fresh_block : NewBlock → HeapBlock
fresh_block b = record { header = b.header; cells = replicate b.cells (value.Word 0) }

-- the surroundings where one block more is allocated
abbrev pub with_block : NewBlock → Around → Around
with_block b a =
    let s : ℕ = length a.memory.blocks in
    record a {
      memory = record a.memory { blocks = a.memory.blocks ++ fresh_block b ∷ [] };
      unwritten = InHeader s ∷ cells_from s 0 b.cells ++ a.unwritten;
    }

abbrev pub new_blocks : List NewBlock → List Value → Around → Act
new_blocks [] so_far a = Goes so_far On a
new_blocks (b ∷ blocks) so_far a =
    new_blocks blocks (so_far ++ value.Block (length a.memory.blocks) 0 ∷ []) (with_block b a)

abbrev pub access_act : Access → List Value → Around → Act
access_act (access.Load k offset) (x ∷ []) a =
    let at : Value = moved_by offset x in
    loaded_act a (cell_at a.memory (width k) at) (loaded k a.memory at)
access_act (access.Store k offset) (x ∷ v ∷ []) a =
    let at : Value = moved_by offset x in stored_act k a (cell_at a.memory (width k) at) at v
access_act (access.Alloc blocks) [] a = stuck_unless (is_complete a) (new_blocks blocks [] a)
access_act _ _ a = Stuck

-- ---- raising

-- what a callee raised fits val, and goes to the innermost handler, or on to the caller
abbrev pub callee_raises : Value → Memory → Around → List ℕ → Act
callee_raises v m a [] = Ends (Threw v m)
callee_raises v m a (l ∷ tries) = Unwinds (record a { memory = m; tries = tries; raised = Some v })

-- what an operation of the function itself raises goes there too, for a unit
abbrev pub raised_by : Value → Around → List ℕ → Act
raised_by v a [] = EndsRaising (Threw v a.memory)
raised_by v a (l ∷ tries) = Jumps AtHandler (record a { tries = tries; raised = Some v })

abbrev pub raise_act : Setting → Value → Around → Act
raise_act c v a = stuck_unless (is_complete a && fits c.end ty.Val v) (raised_by v a a.tries)

-- ---- calls

-- the row of an external call
abbrev pub external_row : declared.External → External
external_row e = record { name = e.name; params = e.params; result = e.result }

-- what a call that is written so gives: a value that fits comes where it is written with a type,
-- and else it is dropped
abbrev pub call_answered : ℕ → Ret → Option Value → (Option Value → Act) → Act
call_answered end ret.Unit v go = go None
call_answered end (ret.Comp t) (Some v) go = stuck_unless (fits end (type_of_comp t) v) (go (Some v))
call_answered end (ret.Comp t) None go = Stuck

abbrev pub as_list : Option Value → List Value
as_list None = []
as_list (Some v) = v ∷ []

-- a call of a function
abbrev pub act_after_call : Setting → Ret → Around → Doing → Act
act_after_call c result a (Gave v m) =
    call_answered c.end result v (λ v. Goes (as_list v) On (record a { memory = m }))
act_after_call c result a (Threw v m) = stuck_unless (fits c.end ty.Val v) (callee_raises v m a a.tries)

-- An external call leaves the memory as it was, and raises only where it is a frame call. It is no
-- call of a function, so that its raise is one of the function itself: a unit.
abbrev pub after_external : Setting → Ret → Bool → Around → Doing → Act
after_external c result frame a (Gave v m) = call_answered c.end result v (λ v. Goes (as_list v) On a)
after_external c result true a (Threw v m) =
    stuck_unless (fits c.end ty.Val v) (raised_by v a a.tries)
after_external c result false a (Threw v m) = Stuck

-- whatever is then done with a function and its arguments, they fit its parameters
abbrev pub asks : Setting → Option (List Comp) → ℕ → List Value → Around →
    (state.Callee → List Value → Act) → Act
asks c None f arguments a call = Stuck
asks c (Some comps) f arguments a call =
    stuck_unless (fit_parameters c.end comps arguments && is_complete a) (call (Inside f) arguments)

abbrev pub asks_value : Setting → Option Value → List Value → Around →
    (state.Callee → List Value → Act) → Act
asks_value c (Some (value.Function f)) arguments a call =
    asks c (slice_get c.parameters f) f arguments a call
asks_value c _ arguments a call = Stuck

abbrev pub asks_callee : Setting → Callee → List Value → Around →
    (state.Callee → List Value → Act) → Act
asks_callee c (callee.Symbol name) vs a call = asks_value c (c.symbol name) vs a call
asks_callee c callee.Register (v ∷ vs) a call = asks_value c (Some v) vs a call
asks_callee c callee.Register [] a call = Stuck

abbrev pub calling_act : Setting → Calling → List Value → Around → Act
calling_act c (calling.Call whom result) vs a =
    asks_callee c whom vs a (λ f arguments. Asks f arguments (act_after_call c result a))
calling_act c (calling.TailCall whom result) vs a =
    asks_callee c whom vs a (λ f arguments. Replaces f arguments result)
calling_act c (calling.External row frame) vs a =
    stuck_unless (is_complete a)
    (Asks (Outside (external_row row) frame) vs (after_external c row.result frame a))

-- ---- leaving

abbrev pub checked : Setting → Result ℕ Kind → Result ℕ Kind → Around → Act
checked c (Ok bound) (Ok index) a =
    cond (nat_lt index bound) (Goes [] On a) (raise_act c bound_error a)
checked c _ _ a = Stuck

abbrev pub leaving_act : Setting → Leaving → List Value → Around → Act
leaving_act c (leaving.Checkbound right.Register) (bound ∷ index ∷ []) a =
    checked c (word_in bound) (word_in index) a
leaving_act c (leaving.Checkbound (right.Constant w)) (bound ∷ []) a =
    checked c (word_in bound) (Ok w) a
leaving_act c leaving.Raise (v ∷ []) a = raise_act c v a
leaving_act c leaving.Return [] a = stuck_unless (is_complete a) (Ends (Gave None a.memory))
leaving_act c leaving.Return (v ∷ []) a = stuck_unless (is_complete a) (Ends (Gave (Some v) a.memory))
leaving_act c _ _ a = Stuck

abbrev pub act : Setting → Op → List Value → Around → Act
act c (op.Pure f) vs a = pure_act c f vs a
act c (op.Access f) vs a = access_act f vs a
act c (op.Calling f) vs a = calling_act c f vs a
act c (op.Leaving f) vs a = leaving_act c f vs a

-- ---- tests

-- whether a condition holds, or nothing where that is improper
abbrev pub proper_condition : Result Bool Kind → Option Bool
proper_condition (Ok holds) = Some holds
proper_condition (Err kind) = None

abbrev pub opposite : Option Bool → Option Bool
opposite (Some holds) = Some (not holds)
opposite None = None

abbrev pub as_condition : List ℕ → Result Value Kind → Option Bool
as_condition sizes (Ok v) = proper_condition (condition_of sizes v)
as_condition sizes (Err kind) = None

-- whether a test of these values holds; nothing where it is improper
abbrev pub truth_of : List ℕ → Test → List Value → Option Bool
truth_of sizes test.Holds (v ∷ []) = proper_condition (condition_of sizes v)
truth_of sizes test.Fails (v ∷ []) = opposite (proper_condition (condition_of sizes v))
truth_of sizes (test.Signed f right.Register) (x ∷ y ∷ []) =
    as_condition sizes (apply (operator.Cmp f) sizes x y)
truth_of sizes (test.Signed f (right.Constant w)) (x ∷ []) =
    as_condition sizes (apply (operator.Cmp f) sizes x (value.Word w))
truth_of sizes (test.Unsigned f right.Register) (x ∷ y ∷ []) =
    as_condition sizes (apply (operator.CmpU f) sizes x y)
truth_of sizes (test.Unsigned f (right.Constant w)) (x ∷ []) =
    as_condition sizes (apply (operator.CmpU f) sizes x (value.Word w))
truth_of sizes _ _ = None

-- goes to one place where the test holds, and to another where it fails
abbrev pub goes_by_test : Around → Target → Target → Option Bool → Act
goes_by_test a holds fails (Some b) = Goes [] (cond b holds fails) a
goes_by_test a holds fails None = Stuck

-- goes to the label of an index
abbrev pub goes_to_case : Around → List ℕ → Result ℕ Kind → Act
goes_to_case a labels (Err kind) = Stuck
goes_to_case a [] (Ok n) = Stuck
goes_to_case a (l ∷ labels) (Ok zero) = Goes [] (At l) a
goes_to_case a (l ∷ labels) (Ok (suc n)) = goes_to_case a labels (Ok n)

abbrev pub switched : Around → List ℕ → List Value → Act
switched a labels (v ∷ []) = goes_to_case a labels (word_in v)
switched a labels _ = Stuck

-- ---- tries

abbrev pub drop_tries : ℕ → List ℕ → List ℕ
drop_tries zero tries = tries
drop_tries (suc n) [] = []
drop_tries (suc n) (l ∷ tries) = drop_tries n tries

-- a handler takes the raised value
abbrev pub takes_raised : Around → Act
takes_raised a = if_known (record a { raised = None }) a.raised

-- ---- what operations are

-- the frame points that have a descriptor: all but tail calls
abbrev pub has_descriptor : Op → Bool
has_descriptor (op.Calling (calling.Call whom result)) = true
has_descriptor (op.Calling (calling.TailCall whom result)) = false
has_descriptor (op.Calling (calling.External row frame)) = frame
has_descriptor (op.Access (access.Alloc blocks)) = true
has_descriptor (op.Access (access.Load k offset)) = false
has_descriptor (op.Access (access.Store k offset)) = false
has_descriptor (op.Pure f) = false
has_descriptor (op.Leaving f) = false

-- what leads to the innermost handler: calls, frame calls, raises and bound tests
abbrev pub may_raise : Op → Bool
may_raise (op.Calling (calling.Call whom result)) = true
may_raise (op.Calling (calling.TailCall whom result)) = false
may_raise (op.Calling (calling.External row frame)) = frame
may_raise (op.Leaving (leaving.Checkbound r)) = true
may_raise (op.Leaving leaving.Raise) = true
may_raise (op.Leaving leaving.Return) = false
may_raise (op.Access f) = false
may_raise (op.Pure f) = false

-- whether control goes on after it
abbrev pub falls_through : Op → Bool
falls_through (op.Calling (calling.TailCall whom result)) = false
falls_through (op.Calling (calling.Call whom result)) = true
falls_through (op.Calling (calling.External row frame)) = true
falls_through (op.Leaving (leaving.Checkbound r)) = true
falls_through (op.Leaving leaving.Raise) = false
falls_through (op.Leaving leaving.Return) = false
falls_through (op.Access f) = true
falls_through (op.Pure f) = true

-- whether a function is left by it: returns and tail calls
abbrev pub leaves_function : Op → Bool
leaves_function (op.Calling (calling.TailCall whom result)) = true
leaves_function (op.Calling (calling.Call whom result)) = false
leaves_function (op.Calling (calling.External row frame)) = false
leaves_function (op.Leaving leaving.Return) = true
leaves_function (op.Leaving leaving.Raise) = false
leaves_function (op.Leaving (leaving.Checkbound r)) = false
leaves_function (op.Access f) = false
leaves_function (op.Pure f) = false
