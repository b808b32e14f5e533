-- The code of an expression. It is one definition over the tree: the code that follows is handed
-- in, and each register and label is numbered from a number that is handed in, too.
--
-- So no append is in its laws, and a program may fill a vector from the back.
use Rattle.std.specs.Prelude.{ℕ, zero, suc, ◌+◌, ◌-◌, ◌*◌, ◌%◌, ◌^◌, nat_le, nat_eq, Bool, true, false, not, cond, ◌&&◌, List, [], ◌∷◌, ◌++◌, Option, Some, None, map, length, slice_index_or, bytes_eq}
use Rattle.bs_words.specs.Fits.{type_of_comp}
use Rattle.bs_words.specs.declared.operators.CmpOp.{CmpOp}
use Rattle.bs_words.specs.declared.operators.CmpOp.TheVariants as compare
use Rattle.bs_words.specs.declared.operators.IntOp.{IntOp}
use Rattle.bs_words.specs.declared.operators.IntOp.TheVariants as operator
use Rattle.bs_words.specs.declared.types.Chunk.{Chunk}
use Rattle.bs_words.specs.declared.types.Chunk.TheVariants as chunk
use Rattle.bs_words.specs.declared.types.Comp.{Comp}
use Rattle.bs_words.specs.declared.types.Comp.TheVariants as comp
use Rattle.bs_words.specs.declared.types.Loc.TheVariants as loc
use Rattle.bs_words.specs.declared.types.Ret.{Ret}
use Rattle.bs_words.specs.declared.types.Ret.TheVariants as ret
use Rattle.bs_words.specs.declared.types.Ty.{Ty}
use Rattle.bs_words.specs.declared.types.Ty.TheVariants as ty
use Rattle.cmm_tree.specs.Measures.{count_of}
use Rattle.cmm_tree.specs.Tree.{FunctionTree, LabelTree, same_label, is_bare, Parameter, Declaration, Expression, Integer, Pointer, Symbol, Name, Nothing, Let, Assign, Operator, Load, Store, Alloc, App, Extcall, Checkbound, Raise, Seq, If, Switch, Catch, Exit, Try, Expressions, NoMore, More, Bindings, NoBinding, Bind, Cases, NoCase, Choose, Handlers, NoHandler, Handle}
use Rattle.cmm_types.specs.Light.{is_light_address}
use Rattle.cmm_types.specs.Types.{Scoped, type_of, type_bound, is_mutable, body_type, result_of}
use Rattle.cmm_meaning.specs.Choices.{is_named}
use Rattle.cmm_meaning.specs.Evaluation.{is_left_first, scoped_parameter, comps_of_arguments}
use Rattle.mach_ir.specs.Formed.{indexes_to_label}
use Rattle.mach_ir.specs.Forms.{is_immediate, is_immediate_12}
use Rattle.mach_ir.specs.Placed.{colour_numbers}
use Rattle.mach_ir.specs.Seats.{argument_locations}
use Rattle.mach_ir.specs.declared.op.Callee.{Callee}
use Rattle.mach_ir.specs.declared.op.Callee.TheVariants as callee
use Rattle.mach_ir.specs.declared.mach.Instr.{Instr}
use Rattle.mach_ir.specs.declared.mach.Mach.{Mach}
use Rattle.mach_ir.specs.declared.mach.Mark.TheVariants as mark
use Rattle.mach_ir.specs.declared.mach.Test.{Test}
use Rattle.mach_ir.specs.declared.mach.Test.TheVariants as test
use Rattle.mach_ir.specs.declared.op.Right.{Right}
use Rattle.mach_ir.specs.declared.op.Right.TheVariants as right
use Rattle.mach_ir.specs.declared.reg.Reg.{Reg}
use Rattle.selection_rules.specs.Instructions.{bare_mark}
use Rattle.selection_rules.specs.Instructions as emit

-- a name in scope, and its register
pub record NamedRegister : Type 0 where
  pub scoped : Scoped
  pub reg : Reg

abbrev pub scopes : List NamedRegister → List Scoped
scopes env = map (λ (x : NamedRegister). x.scoped) env

-- a handler in scope: the registers of its parameters, its label in the code, and how many tries
-- are between it and here
pub record Label : Type 0 where
  pub label : LabelTree
  pub params : List Reg
  pub number : ℕ
  pub tries : ℕ

abbrev pub comp_of_type : Ty → Comp
comp_of_type ty.Val = comp.Val
comp_of_type ty.Addr = comp.Addr
comp_of_type _ = comp.Int

abbrev pub fresh_register : ℕ → Ty → Reg
fresh_register n type = record { number = n; comp = comp_of_type type; loc = loc.Unset; origin = n }

abbrev pub reg_of : List NamedRegister → List ℕ → Option Reg
reg_of [] name = None
reg_of (x ∷ env) name = cond (bytes_eq x.scoped.name name) (Some x.reg) (reg_of env name)

abbrev pub visible_label : List Label → LabelTree → Option Label
visible_label [] l = None
visible_label (t ∷ labels) l = cond (same_label l t.label) (Some t) (visible_label labels l)

-- code, before the code that follows
abbrev pub Code : Type 0
Code = List Instr → List Instr

abbrev pub move_from : Option Reg → Reg → Code
move_from None d next = next
move_from (Some a) d next = emit.move a d ∷ next

abbrev pub move_to : Reg → Option Reg → Code
move_to a None next = next
move_to a (Some d) next = emit.move a d ∷ next

-- the last first, so that the file is as if all were written at once
abbrev pub moves_all : List Reg → List Reg → Code
moves_all (a ∷ from) (d ∷ to) next = moves_all from to (emit.move a d ∷ next)
moves_all _ _ next = next

-- the left part first, or the right one
abbrev pub ordered : Bool → Code → Code → Code
ordered left_first left right next =
    cond left_first (left (right next)) (right (left next))

abbrev pub only_when : Bool → Code → Code
only_when holds code next = cond holds (code next) next

-- ---- operands

-- an operator with a constant as its right operand
pub record Immediate : Type 0 where
  pub op : IntOp
  pub word : ℕ

-- the exponent of a power of two below 2 ^ 64, from this exponent on
abbrev pub exponent_if : Bool → ℕ → Option ℕ → Option ℕ
exponent_if found k further = cond found (Some k) further

unfoldable pub exponent_from : ℕ → ℕ → ℕ → Option ℕ
exponent_from zero k w = None
exponent_from (suc n) k w = exponent_if (nat_eq (2 ^ k) w) k (exponent_from n (suc k) w)

-- the exponent of a power of two from 2 to 2 ^ 62: a quotient or a remainder by it is made by shifts
abbrev pub power_of : Expression → Option ℕ
power_of (Integer at w) = exponent_from 62 1 w
power_of e = None

abbrev pub shift_by : Option ℕ → Option Immediate
shift_by (Some k) = Some (record { op = operator.Shl; word = k })
shift_by None = None

abbrev pub immediate_if : Bool → IntOp → ℕ → Option Immediate
immediate_if has op w = cond has (Some (record { op = op; word = w })) None

-- what the machine has for an operator with this right operand: the operator with an immediate, or
-- a shift for a product with a power of two
abbrev pub immediate_of : IntOp → ℕ → Option Immediate
immediate_of operator.Mul w = shift_by (exponent_from 64 0 w)
immediate_of op w = immediate_if (is_immediate op w) op w

abbrev pub turned_round : CmpOp → CmpOp
turned_round compare.Eq = compare.Eq
turned_round compare.Ne = compare.Ne
turned_round compare.Lt = compare.Gt
turned_round compare.Le = compare.Ge
turned_round compare.Gt = compare.Lt
turned_round compare.Ge = compare.Le

-- the operator that gives the same where its operands change places
abbrev pub commuted : IntOp → Option IntOp
commuted operator.Add = Some operator.Add
commuted operator.AddV = Some operator.AddV
commuted operator.AddA = Some operator.AddA
commuted operator.Mul = Some operator.Mul
commuted operator.And = Some operator.And
commuted operator.Or = Some operator.Or
commuted operator.Xor = Some operator.Xor
commuted (operator.Cmp f) = Some (operator.Cmp (turned_round f))
commuted (operator.CmpU f) = Some (operator.CmpU (turned_round f))
commuted _ = None

abbrev pub right_immediate : IntOp → Expression → Option Immediate
right_immediate op (Integer at w) = immediate_of op w
right_immediate op e = None

abbrev pub if_commuted : Option IntOp → ℕ → Option Immediate
if_commuted (Some op) w = immediate_of op w
if_commuted None w = None

abbrev pub left_immediate : IntOp → Expression → Option Immediate
left_immediate op (Integer at w) = if_commuted (commuted op) w
left_immediate op e = None

-- Where the operands of an operator are: in registers both, or one of them is a constant that
-- needs none. A divisor that is a power of two needs none either.
pub data OperandShape : Type 0 where
  InRegisters : OperandShape
  ConstantRight : (immediate : Immediate) → OperandShape
  ConstantLeft : (immediate : Immediate) → OperandShape
  PowerRight : (exponent : ℕ) → OperandShape

abbrev pub shape : Option Immediate → Option Immediate → OperandShape
shape (Some i) left = ConstantRight i
shape None (Some i) = ConstantLeft i
shape None None = InRegisters

abbrev pub power_shape : Option ℕ → OperandShape
power_shape (Some k) = PowerRight k
power_shape None = InRegisters

abbrev pub operation_shape : IntOp → Expression → Expression → OperandShape
operation_shape operator.Div left right = power_shape (power_of right)
operation_shape operator.Mod left right = power_shape (power_of right)
operation_shape op left right = shape (right_immediate op right) (left_immediate op left)

abbrev pub shape_op : OperandShape → IntOp → IntOp
shape_op InRegisters op = op
shape_op (ConstantRight i) op = i.op
shape_op (ConstantLeft i) op = i.op
shape_op (PowerRight k) op = op

abbrev pub shape_right : OperandShape → Right
shape_right InRegisters = right.Register
shape_right (ConstantRight i) = right.Constant i.word
shape_right (ConstantLeft i) = right.Constant i.word
shape_right (PowerRight k) = right.Register

abbrev pub shape_args : OperandShape → Reg → Reg → List Reg
shape_args InRegisters x y = x ∷ y ∷ []
shape_args (ConstantRight i) x y = x ∷ []
shape_args (ConstantLeft i) x y = y ∷ []
shape_args (PowerRight k) x y = x ∷ y ∷ []

abbrev pub unless_left : OperandShape → Code → Code
unless_left InRegisters code next = code next
unless_left (ConstantRight i) code next = code next
unless_left (ConstantLeft i) code next = next
unless_left (PowerRight k) code next = code next

abbrev pub unless_right : OperandShape → Code → Code
unless_right InRegisters code next = code next
unless_right (ConstantRight i) code next = next
unless_right (ConstantLeft i) code next = code next
unless_right (PowerRight k) code next = next

-- Rounding toward zero: a negative dividend first gets one less than the power added. The register
-- of the right operand serves on the way.
abbrev pub rounded : ℕ → Reg → Reg → Code
rounded k x y next =
    emit.operator operator.Sar (right.Constant 63) (x ∷ []) y
    ∷ emit.operator operator.Shr (right.Constant (64 - k)) (y ∷ []) y
    ∷ emit.operator operator.Add right.Register (x ∷ y ∷ []) y
    ∷ next

abbrev pub power_code : IntOp → ℕ → Reg → Reg → Reg → Code
power_code operator.Div k x y d next =
    rounded k x y (emit.operator operator.Sar (right.Constant k) (y ∷ []) d ∷ next)
power_code op k x y d next =
    rounded k x y
    (emit.operator operator.Sar (right.Constant k) (y ∷ []) y
    ∷ emit.operator operator.Shl (right.Constant k) (y ∷ []) y
    ∷ emit.operator operator.Sub right.Register (x ∷ y ∷ []) d
    ∷ next)

-- the code of an operator whose operands have this shape
abbrev pub operator_code : OperandShape → IntOp → Reg → Reg → Reg → Code
operator_code (PowerRight k) op x y d next = power_code op k x y d next
operator_code s op x y d next =
    emit.operator (shape_op s op) (shape_right s) (shape_args s x y) d ∷ next

-- the index of a bound test is a constant where the machine has an immediate for it
abbrev pub bound_test_operand : IntOp → Expression → Right
bound_test_operand f (Integer at w) = cond (is_immediate f w) (right.Constant w) right.Register
bound_test_operand f _ = right.Register

abbrev pub unless_constant : Right → Code → Code
unless_constant right.Register code next = code next
unless_constant (right.Constant w) code next = next

-- Where an address is the sum of a base and a short constant, no sum is made: the access has the
-- constant as its offset. An offset of 0 is none.
abbrev pub is_address_sum : IntOp → Bool
is_address_sum operator.AddA = true
is_address_sum operator.AddV = true
is_address_sum _ = false

abbrev pub is_based : IntOp → ℕ → Bool
is_based op w = is_address_sum op && (is_immediate_12 w && not (nat_eq w 0))

abbrev pub offset_of : Expression → ℕ
offset_of (Operator at op base (Integer at' w)) = cond (is_based op w) w 0
offset_of _ = 0

abbrev pub base_of : Expression → Expression
base_of (Operator at op base (Integer at' w)) =
    cond (is_based op w) base (Operator at op base (Integer at' w))
base_of e = e

-- the test that a comparison is, where an `if` takes it
abbrev pub comparison : IntOp → Right → Option Test
comparison (operator.Cmp f) r = Some (test.Signed f r)
comparison (operator.CmpU f) r = Some (test.Unsigned f r)
comparison _ r = None

abbrev pub fused_test : Option Test → (Test → List Instr) → Code
fused_test (Some t) fused value = fused t
fused_test None fused value = value

-- the index of a bound test is below the bound, unsigned
abbrev pub bound_test : IntOp
bound_test = operator.CmpU compare.Lt

abbrev pub is_no_value : Ty → Bool
is_no_value ty.NoValue = true
is_no_value _ = false

-- ---- places that the convention fixes

-- the register of an argument, or of a parameter, at a position; the first is that of a result and
-- of a raised value, too
abbrev pub seat : ℕ → ℕ → Comp → Reg
seat i n c =
    record { number = n; comp = c; loc = slice_index_or argument_locations i loc.Unset; origin = n }

-- the seats of values in these registers, from a position and a number on
abbrev pub seats : ℕ → ℕ → List Reg → List Reg
seats i n [] = []
seats i n (r ∷ rs) = seat i n r.comp ∷ seats (suc i) (suc n) rs

-- the seat of what is given
abbrev pub result_seat : ℕ → Ret → List Reg
result_seat n ret.Unit = []
result_seat n (ret.Comp c) = seat 0 n c ∷ []

-- what is given goes from its seat to a register
abbrev pub from_seat : ℕ → Ret → Reg → Code
from_seat n ret.Unit d next = next
from_seat n (ret.Comp c) d next = emit.move (seat 0 n c) d ∷ next

-- ---- calls

-- what a tail call leaves, where the text drops a value
abbrev pub tail_result : Bool → Ret → Ret
tail_result valued result = cond valued result ret.Unit

-- a function that is called by its symbol needs no register
abbrev pub called_symbol : Expression → Option (List ℕ)
called_symbol (Symbol at name) = Some name
called_symbol _ = None

abbrev pub unless_symbol : Option (List ℕ) → Code → Code
unless_symbol (Some name) code next = next
unless_symbol None code next = code next

abbrev pub callee_of : Option (List ℕ) → Callee
callee_of (Some name) = callee.Symbol name
callee_of None = callee.Register

abbrev pub callee_regs : Option (List ℕ) → Reg → List Reg
callee_regs (Some name) f = []
callee_regs None f = f ∷ []

-- the call of a function whose arguments are in their seats
abbrev pub call_of : Bool → Bool → Ret → Option (List ℕ) → Reg → List Reg → ℕ → Reg → Code
call_of true valued result name f arguments n d next =
    emit.tail_call (callee_of name) (tail_result valued result) (callee_regs name f ++ arguments)
    ∷ next
call_of false valued result name f arguments n d next =
    emit.call (callee_of name) result (callee_regs name f ++ arguments) (result_seat n result)
    ∷ from_seat n result d next

abbrev pub exit_to_handler : Option Label → List Reg → Code
exit_to_handler None from next = next
exit_to_handler (Some t) from next = moves_all from t.params (bare_mark (mark.Exit t.number t.tries) ∷ next)

-- what a node of no value leaves to its last part
abbrev pub inner_valued : Bool → Ty → Bool
inner_valued valued ty.NoValue = false
inner_valued valued _ = valued

abbrev pub params_from : ℕ → List Parameter → List Reg
params_from b [] = []
params_from b (p ∷ params) = fresh_register b (type_of_comp p.comp) ∷ params_from (suc b) params

-- the parameters of a handler, or of a function, in scope: the last innermost
abbrev pub with_params : List Parameter → List Reg → List NamedRegister → List NamedRegister
with_params (p ∷ params) (r ∷ regs) env =
    with_params params regs (record { scoped = scoped_parameter p; reg = r } ∷ env)
with_params _ _ env = env

-- the handlers of a catch, the first of which has this label
abbrev pub labels_from : ℕ → Handlers → List Label
labels_from b NoHandler = []
labels_from b (Handle at label params body rest) =
    record { label = label; params = params_from (suc b) params; number = b; tries = 0 }
    ∷ labels_from (suc b + length params) rest

abbrev pub unless_bare_mark : Bool → Label → List Label → List Label
unless_bare_mark bare_mark t labels = cond bare_mark labels (t ∷ labels)

abbrev pub in_handlers : List Label → List Label
in_handlers [] = []
in_handlers (t ∷ labels) = unless_bare_mark (is_bare t.label) t (in_handlers labels)

abbrev pub width_labels : Handlers → ℕ
width_labels NoHandler = 0
width_labels (Handle at label params body rest) = suc (length params) + width_labels rest

-- the same handlers, from within one try more
abbrev pub labels_within_try : List Label → List Label
labels_within_try [] = []
labels_within_try (t ∷ labels) =
    record { label = t.label; params = t.params; number = t.number; tries = suc t.tries }
    ∷ labels_within_try labels

abbrev pub count_cases : Cases → ℕ
count_cases NoCase = 0
count_cases (Choose indexes body rest) = suc (count_cases rest)

-- the label of the case for a number: that of the last case that names it, and else of the first,
-- which has label `l`
abbrev pub label_of_last_case : ℕ → Cases → ℕ → ℕ → ℕ
label_of_last_case l NoCase k so_far = so_far
label_of_last_case l (Choose indexes body rest) k so_far =
    label_of_last_case (suc l) rest k (cond (is_named indexes k) l so_far)

-- the labels for so many numbers from `k` on
abbrev pub switch_labels : ℕ → Cases → ℕ → ℕ → List ℕ
switch_labels l cases k zero = []
switch_labels l cases k (suc n) = label_of_last_case l cases k l ∷ switch_labels l cases (suc k) n

-- the header of a block is 8 bytes before it
abbrev pub header_offset : ℕ
header_offset = 0xFFFFFFFFFFFFFFF8

abbrev pub raised_name : List ℕ → ℕ → NamedRegister
raised_name name n =
    record { scoped = record { name = name; type = ty.Val; mutable = false }; reg = fresh_register n ty.Val }

-- what the cells of a block are written by: a block whose tag is 250 or less is scanned
abbrev pub chunk_for : Bool → Chunk
chunk_for true = chunk.Val
chunk_for false = chunk.Int

-- the cells of a new block, from this one on, are written
abbrev pub cell_stores : Chunk → Reg → ℕ → List Reg → Code
cell_stores k p i [] next = next
cell_stores k p i (r ∷ rs) next = emit.store k (8 * i) p r ∷ cell_stores k p (suc i) rs next

-- so many numbers of registers and labels
abbrev mutual
  pub width : Expression → ℕ
  width (Let at bindings body) = suc (width_bound bindings + width body)
  width (Assign at name_at name value) = suc (suc (width value))
  width (Operator at op left right) = suc (suc (suc (width left + width right)))
  width (App at callee arguments result result_at) =
      suc (suc (suc (width callee + (width_row arguments + count_of arguments))))
  width (Extcall at frame name arguments result result_at) =
      suc (suc (width_row arguments + count_of arguments))
  width (Seq at elements) = suc (width_row elements)
  width (If at condition on_true on_false) =
      suc (suc (suc (suc (width condition + (width on_true + width on_false)))))
  width (Catch at body handlers) =
      suc (suc (width_labels handlers + (width body + width_handlers handlers)))
  width (Exit at label_at label arguments) = suc (width_row arguments)
  width (Alloc at header_at header operands) = suc (suc (suc (width_row operands)))
  width (Load at chunk address) = suc (suc (width address))
  width (Store at chunk address e) = suc (suc (suc (width address + width e)))
  width (Checkbound at bound index) = suc (suc (suc (width bound + width index)))
  width (Raise at e) = suc (suc (suc (width e)))
  width (Switch at size_at size selector cases) =
      suc (suc (suc (count_cases cases + (width selector + width_cases cases))))
  width (Try at body name_at name handler) =
      suc (suc (suc (suc (suc (width body + width handler)))))
  width _ = 1

  pub width_cases : Cases → ℕ
  width_cases NoCase = 0
  width_cases (Choose indexes body rest) = width body + width_cases rest

  pub width_row : Expressions → ℕ
  width_row NoMore = 0
  width_row (More e rest) = suc (width e + width_row rest)

  pub width_bound : Bindings → ℕ
  width_bound NoBinding = 0
  width_bound (Bind at name declared e rest) = suc (width e + width_bound rest)

  pub width_handlers : Handlers → ℕ
  width_handlers NoHandler = 0
  width_handlers (Handle at label params body rest) = width body + width_handlers rest

abbrev pub bound_name : List NamedRegister → ℕ → List ℕ → Option Declaration → Expression → NamedRegister
bound_name env b name declared e =
    let type : Ty = type_bound declared (type_of (scopes env) e) in
    let scoped : Scoped = record { name = name; type = type; mutable = is_mutable declared } in
    record { scoped = scoped; reg = fresh_register b type }

-- the names after bindings
abbrev pub env_after : List NamedRegister → ℕ → Bindings → List NamedRegister
env_after env b NoBinding = env
env_after env b (Bind at name declared e rest) =
    env_after (bound_name env b name declared e ∷ env) (suc (b + width e)) rest

-- the registers of a row of operands
abbrev pub regs_of : List NamedRegister → ℕ → Expressions → List Reg
regs_of env b NoMore = []
regs_of env b (More e rest) = fresh_register b (type_of (scopes env) e) ∷ regs_of env (suc b) rest

-- where a node of no value has a part with one, that goes into a register that all values fit and
-- nothing reads
abbrev pub inner_dest : Ty → ℕ → Reg → Reg
inner_dest ty.NoValue b d = fresh_register b ty.Addr
inner_dest _ b d = d

abbrev mutual
  -- The code of an expression: its value is left in the register `d`, and its own registers and
  -- labels are numbered from `b` on. In tail position a call is a tail call; where the function's
  -- value is not wanted it gives none.
  pub select : List NamedRegister → List Label → Bool → Bool → Reg → ℕ → Expression → Code
  select env labels valued tail d b (Integer at w) next =
      emit.constant w (inner_dest (type_of (scopes env) (Integer at w)) b d) ∷ next
  select env labels valued tail d b (Pointer at w) next =
      emit.constant w (inner_dest (type_of (scopes env) (Pointer at w)) b d) ∷ next
  select env labels valued tail d b (Symbol at name) next =
      emit.symbol name (inner_dest (type_of (scopes env) (Symbol at name)) b d) ∷ next
  select env labels valued tail d b (Name at x) next =
      move_from (reg_of env x) (inner_dest (type_of (scopes env) (Name at x)) b d) next
  select env labels valued tail d b (Nothing at) next = next
  select env labels valued tail d b (Let at bindings body) next =
      let type = type_of (scopes env) (Let at bindings body) in
      let inner = env_after env (suc b) bindings in
      let base = suc b + width_bound bindings in
      select_bound env labels (suc b) bindings
      (select inner labels (inner_valued valued type) tail (inner_dest type b d) base body next)
  select env labels valued tail d b (Assign at name_at name e) next =
      let t = fresh_register (suc b) (type_of (scopes env) e) in
      select env labels false false t (suc (suc b)) e (move_to t (reg_of env name) next)
  select env labels valued tail d b (Operator at op left right) next =
      let x = fresh_register (suc b) (type_of (scopes env) left) in
      let y = fresh_register (suc (suc b)) (type_of (scopes env) right) in
      let s = operation_shape op left right in
      let type = type_of (scopes env) (Operator at op left right) in
      ordered (is_left_first (scopes env) left right)
      (unless_left s (select env labels false false x (suc (suc (suc b))) left))
      (unless_right s (select env labels false false y (suc (suc (suc b)) + width left) right))
      (operator_code s op x y (inner_dest type b d) next)
  select env labels valued tail d b (App at callee arguments result result_at) next =
      let type = type_of (scopes env) (App at callee arguments result result_at) in
      let f = fresh_register (suc b) (type_of (scopes env) callee) in
      let row = suc (suc b) in
      let seated = row + count_of arguments in
      let given = seated + count_of arguments in
      let base = suc given in
      let light = is_light_address (scopes env) callee in
      let regs = regs_of env row arguments in
      let args = seats 0 seated regs in
      let name = called_symbol callee in
      let wants = inner_valued valued type in
      select_waiting env labels row (base + width callee) arguments
      (only_when (not light) (unless_symbol name (select env labels false false f base callee))
      (select_filled env labels row (base + width callee) arguments
      (only_when light (select env labels false false f base callee)
      (moves_all regs args
      (call_of tail wants result name f args given (inner_dest type b d) next)))))
  select env labels valued tail d b (Extcall at frame name arguments result result_at) next =
      let type = type_of (scopes env) (Extcall at frame name arguments result result_at) in
      let row = suc b in
      let seated = row + count_of arguments in
      let given = seated + count_of arguments in
      let regs = regs_of env row arguments in
      let comps = comps_of_arguments (scopes env) arguments in
      select_waiting env labels row (suc given) arguments
      (select_filled env labels row (suc given) arguments
      (moves_all regs (seats 0 seated regs)
      (emit.external_instruction name comps result frame (seats 0 seated regs) (result_seat given result)
      ∷ from_seat given result (inner_dest type b d) next)))
  select env labels valued tail d b (Seq at elements) next =
      let type = type_of (scopes env) (Seq at elements) in
      let wants = inner_valued valued type in
      select_seq env labels wants tail (inner_dest type b d) (suc b) elements next
  select env labels valued tail d b (If at condition on_true on_false) next =
      let type = type_of (scopes env) (If at condition on_true on_false) in
      let t = fresh_register (suc b) (type_of (scopes env) condition) in
      let l = suc (suc b) in
      let end = suc (suc (suc b)) in
      let base = suc (suc (suc (suc b))) in
      let wants = inner_valued valued type in
      let own = inner_dest type b d in
      let last = bare_mark (mark.End end) ∷ next in
      let false_at = base + width condition + width on_true in
      let false_code = select env labels wants tail own false_at on_false last in
      let else_code = bare_mark (mark.Else l end) ∷ false_code in
      let true_code = select env labels wants tail own (base + width condition) on_true else_code in
      let test_code = emit.branch test.Holds l (t ∷ []) ∷ true_code in
      let value_code = select env labels false false t base condition test_code in
      select_test env labels l base condition value_code true_code
  select env labels valued tail d b (Catch at body handlers) next =
      let type = type_of (scopes env) (Catch at body handlers) in
      let end = suc b in
      let own = labels_from (suc (suc b)) handlers in
      let base = suc (suc b) + width_labels handlers in
      let wants = inner_valued valued type in
      let d' = inner_dest type b d in
      let inside = in_handlers own ++ labels in
      bare_mark mark.Catch
      ∷ select env (own ++ labels) wants tail d' base body
      (select_handlers env inside wants tail d' end (suc (suc b)) (base + width body) handlers
      (bare_mark (mark.End end) ∷ next))
  select env labels valued tail d b (Exit at label_at label arguments) next =
      select_waiting env labels (suc b) (suc b + count_of arguments) arguments
      (select_filled env labels (suc b) (suc b + count_of arguments) arguments
      (exit_to_handler (visible_label labels label) (regs_of env (suc b) arguments) next))
  select env labels valued tail d b (Load at chunk address) next =
      let x = fresh_register (suc b) (type_of (scopes env) (base_of address)) in
      let v = fresh_register (suc b) (type_of (scopes env) address) in
      let type = type_of (scopes env) (Load at chunk address) in
      let whole = select env labels false false v (suc (suc b)) address in
      select_base env labels (suc b) (suc (suc b)) address whole
      (emit.load chunk (offset_of address) x (inner_dest type b d) ∷ next)
  select env labels valued tail d b (Store at chunk address e) next =
      let x = fresh_register (suc b) (type_of (scopes env) (base_of address)) in
      let y = fresh_register (suc (suc b)) (type_of (scopes env) e) in
      let v = fresh_register (suc b) (type_of (scopes env) address) in
      let whole = select env labels false false v (suc (suc (suc b))) address in
      ordered (is_left_first (scopes env) address e)
      (select_base env labels (suc b) (suc (suc (suc b))) address whole)
      (select env labels false false y (suc (suc (suc b)) + width address) e)
      (emit.store chunk (offset_of address) x y ∷ next)
  select env labels valued tail d b (Checkbound at bound index) next =
      let x = fresh_register (suc b) (type_of (scopes env) bound) in
      let y = fresh_register (suc (suc b)) (type_of (scopes env) index) in
      let r = bound_test_operand bound_test index in
      ordered (is_left_first (scopes env) bound index)
      (select env labels false false x (suc (suc (suc b))) bound)
      (unless_constant r (select env labels false false y (suc (suc (suc b)) + width bound) index))
      (emit.checkbound_instr r x y ∷ next)
  select env labels valued tail d b (Raise at e) next =
      let x = fresh_register (suc b) (type_of (scopes env) e) in
      let y = seat 0 (suc (suc b)) comp.Val in
      select env labels false false x (suc (suc (suc b))) e (emit.move x y ∷ emit.raising y ∷ next)
  select env labels valued tail d b (Switch at size_at size selector cases) next =
      let type = type_of (scopes env) (Switch at size_at size selector cases) in
      let x = fresh_register (suc b) (type_of (scopes env) selector) in
      let end = suc (suc b) in
      let l = suc (suc (suc b)) in
      let base = l + count_cases cases in
      let all = switch_labels l cases 0 size in
      let wants = inner_valued valued type in
      let d' = inner_dest type b d in
      select env labels false false x base selector
      (emit.choose all x
      ∷ select_cases env labels wants tail d' all end l (base + width selector) cases
      (bare_mark (mark.End end) ∷ next))
  select env labels valued tail d b (Try at body name_at name handler) next =
      let type = type_of (scopes env) (Try at body name_at name handler) in
      let l = suc b in
      let end = suc (suc b) in
      let x = raised_name name (suc (suc (suc b))) in
      let y = seat 0 (suc (suc (suc (suc b)))) comp.Val in
      let base = suc (suc (suc (suc (suc b)))) in
      let wants = inner_valued valued type in
      let d' = inner_dest type b d in
      bare_mark (mark.Try l)
      ∷ select env (labels_within_try labels) wants false d' base body
      (bare_mark (mark.Leave l end)
      ∷ emit.handler l y
      ∷ emit.move y x.reg
      ∷ select (x ∷ env) labels wants tail d' (base + width body) handler
      (bare_mark (mark.End end) ∷ next))
  select env labels valued tail d b (Alloc at header_at header operands) next =
      let p = fresh_register (suc b) ty.Val in
      let q = fresh_register (suc (suc b)) ty.Int in
      let row = suc (suc (suc b)) in
      let base = row + count_of operands in
      let type = type_of (scopes env) (Alloc at header_at header operands) in
      select_waiting env labels row base operands
      (emit.alloc (record { header = header; cells = count_of operands }) p
      ∷ emit.constant header q
      ∷ emit.store chunk.Int header_offset p q
      ∷ select_filled env labels row base operands
      (cell_stores (chunk_for (nat_le (header % 256) 250)) p 0 (regs_of env row operands)
      (emit.move p (inner_dest type b d) ∷ next)))
  select env labels valued tail d b _ next = next

  -- where a condition holds it goes on with `next`, and else at the label `l`: a comparison is a
  -- test of its own, and another condition is the code `value`
  pub select_test : List NamedRegister → List Label → ℕ → ℕ → Expression → List Instr → Code
  select_test env labels l b (Operator at op left right) value next =
      let x = fresh_register (suc b) (type_of (scopes env) left) in
      let y = fresh_register (suc (suc b)) (type_of (scopes env) right) in
      let s = operation_shape op left right in
      fused_test (comparison (shape_op s op) (shape_right s))
      (λ t.
      ordered (is_left_first (scopes env) left right)
      (unless_left s (select env labels false false x (suc (suc (suc b))) left))
      (unless_right s (select env labels false false y (suc (suc (suc b)) + width left) right))
      (emit.branch t l (shape_args s x y) ∷ next))
      value
  select_test env labels l b e value next = value

  -- the base of an address goes into the register `t`; an address that is no such sum is the code
  -- `whole`
  pub select_base : List NamedRegister → List Label → ℕ → ℕ → Expression → Code → Code
  select_base env labels t b (Operator at op base (Integer at' w)) whole next =
      let x = fresh_register t (type_of (scopes env) base) in
      cond (is_based op w) (select env labels false false x b base next) (whole next)
  select_base env labels t b e whole next = whole next

  -- the operands that do not wait; their registers are numbered from `b` on, and those of their
  -- code from `i` on
  pub select_waiting : List NamedRegister → List Label → ℕ → ℕ → Expressions → Code
  select_waiting env labels b i NoMore next = next
  select_waiting env labels b i (More e rest) next =
      let r = fresh_register b (type_of (scopes env) e) in
      let now = not (is_light_address (scopes env) e) in
      select_waiting env labels (suc b) (i + width e) rest
      (only_when now (select env labels false false r i e) next)

  -- and those that have waited
  pub select_filled : List NamedRegister → List Label → ℕ → ℕ → Expressions → Code
  select_filled env labels b i NoMore next = next
  select_filled env labels b i (More e rest) next =
      let r = fresh_register b (type_of (scopes env) e) in
      select_filled env labels (suc b) (i + width e) rest
      (only_when (is_light_address (scopes env) e) (select env labels false false r i e) next)

  pub select_bound : List NamedRegister → List Label → ℕ → Bindings → Code
  select_bound env labels b NoBinding next = next
  select_bound env labels b (Bind at name declared e rest) next =
      let x = bound_name env b name declared e in
      select env labels false false x.reg (suc b) e
      (select_bound (x ∷ env) labels (suc (b + width e)) rest next)

  pub select_seq : List NamedRegister → List Label → Bool → Bool → Reg → ℕ → Expressions → Code
  select_seq env labels valued tail d b NoMore next = next
  select_seq env labels valued tail d b (More e NoMore) next =
      select env labels valued tail d (suc b) e next
  select_seq env labels valued tail d b (More e rest) next =
      let r = fresh_register b (type_of (scopes env) e) in
      select env labels false false r (suc b) e
      (select_seq env labels valued tail d (suc (b + width e)) rest next)

  pub select_cases : List NamedRegister → List Label → Bool → Bool → Reg → List ℕ → ℕ → ℕ → ℕ → Cases → Code
  select_cases env labels valued tail d all end l b NoCase next = next
  select_cases env labels valued tail d all end l b (Choose indexes body rest) next =
      bare_mark (mark.Case (indexes_to_label l 0 all) l end)
      ∷ select env labels valued tail d b body
      (select_cases env labels valued tail d all end (suc l) (b + width body) rest next)

  pub select_handlers : List NamedRegister → List Label → Bool → Bool → Reg → ℕ → ℕ → ℕ → Handlers → Code
  select_handlers env labels valued tail d end l b NoHandler next = next
  select_handlers env labels valued tail d end l b (Handle at label params body rest) next =
      bare_mark (mark.With l end)
      ∷ select (with_params params (params_from (suc l) params) env) labels valued tail d b body
      (select_handlers env labels valued tail d end (suc l + length params) (b + width body) rest
      next)

-- what the function has goes to where the convention gives it back
abbrev pub to_seat : Reg → ℕ → Ret → Code
to_seat d n ret.Unit next = next
to_seat d n (ret.Comp c) next = emit.move d (seat 0 n c) ∷ next

abbrev pub return_code : Reg → ℕ → Ret → List Instr
return_code d n result = to_seat d n result (emit.give_back (result_seat n result) ∷ [])

-- for each colour a register that is there; their numbers are the first
abbrev pub colour_regs : ℕ → List ℕ → List Reg
colour_regs n [] = []
colour_regs n (colour ∷ rest) =
    record { number = n; comp = comp.Int; loc = loc.Machine colour; origin = n }
    ∷ colour_regs (suc n) rest

-- the first number after those
abbrev pub first_after_colours : ℕ
first_after_colours = length colour_numbers

abbrev pub selected : FunctionTree → Mach
selected f =
    let type : Ty = body_type f in
    let moved = first_after_colours + length f.params in
    let params = params_from moved f.params in
    let n = moved + length f.params in
    let from = suc (suc n) in
    let env = with_params f.params params [] in
    record {
      name = f.name;
      params = seats 0 first_after_colours params;
      result = result_of type;
      labels = from + width f.body;
      colours = colour_regs 0 colour_numbers;
      code =
          moves_all (seats 0 first_after_colours params) params
          (select env [] (not (is_no_value type)) true (fresh_register n type) from f.body
          (return_code (fresh_register n type) (suc n) (result_of type)));
    }
