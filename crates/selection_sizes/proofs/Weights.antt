-- Code that has few words, operands and frame points, and how it is put together.
use Rattle.std.proofs.Common.{ℕ, suc, ◌+◌, ◌*◌, ◌≤◌, length, Bool, true, false, cond, List, [], ◌∷◌, Option, Some, None, arith}
use Rattle.bs_words.specs.declared.operators.IntOp.{IntOp}
use Rattle.bs_words.specs.declared.operators.IntOp.TheVariants as operator
use Rattle.bs_words.specs.declared.types.Chunk.{Chunk}
use Rattle.bs_words.specs.declared.types.Comp.{Comp}
use Rattle.bs_words.specs.declared.types.Ret.{Ret}
use Rattle.bs_words.specs.declared.types.Ret.TheVariants as ret
use Rattle.mach_ir.specs.declared.blocks.NewBlock.{NewBlock}
use Rattle.linearise_rules.specs.Lowered.{same_spot}
use Rattle.mach_ir.specs.Sizes.{operand_count}
use Rattle.mach_ir.specs.declared.mach.Instr.{Instr}
use Rattle.mach_ir.specs.declared.mach.Mark.TheVariants as mark
use Rattle.mach_ir.specs.declared.mach.Test.{Test}
use Rattle.mach_ir.specs.declared.op.Op.TheVariants as op
use Rattle.mach_ir.specs.declared.op.Pure.{Pure}
use Rattle.mach_ir.specs.declared.op.Pure.TheVariants as pure
use Rattle.mach_ir.specs.declared.op.Right.{Right}
use Rattle.mach_ir.specs.declared.op.Right.TheVariants as right
use Rattle.mach_ir.specs.declared.reg.Reg.{Reg}
use Rattle.selection_rules.specs.Instructions.{bare_mark}
use Rattle.selection_rules.specs.Instructions as emit
use Rattle.selection_rules.specs.Select.{Code, OperandShape, InRegisters, ConstantRight, ConstantLeft, PowerRight, shape_args, unless_left, unless_right, power_code, operator_code, move_from, move_to, moves_all, ordered, only_when, from_seat, unless_symbol, unless_constant, fused_test, call_of, cell_stores, result_seat}
use Rattle.pass_rules.specs.Measures.{code_words, one_if_true, code_points}
use Rattle.pass_rules.proofs.Words.{at_most_copy}
use Rattle.selection_places.proofs.Adds.{part}
use Rattle.selection_rules.proofs.Rows.{result_few}

-- Its words, and twelve for each operand and result: a copy before each, and one after it, have as many.
abbrev pub weight : List Instr → ℕ
weight code = code_words code + 12 * operand_count code

-- code that weighs no more than so much, and has at most so many frame points
pub record Weighs (n p : ℕ) (code : Code) : Type 0 where
  pub words : (next : List Instr) → weight (code next) ≤ n + weight next
  pub points : (next : List Instr) → code_points (code next) ≤ p + code_points next

pub w_up : {n k p q : ℕ} {x : Code} → n ≤ k → p ≤ q → Weighs n p x → Weighs k q x
w_up le more w = record {
  words = λ next. let here = w.words next in omega (arith, here, le);
  points = λ next. let here = w.points next in omega (arith, here, more);
}

pub w_then : {n k p q : ℕ} {x y : Code} → Weighs n p x → Weighs k q y → Weighs (n + k) (p + q) (λ next. x (y next))
w_then {n} {k} {p} {q} {x} {y} a b = record {
  words = λ next. let first = a.words (y next) in let second = b.words next in omega (arith, first, second);
  points = λ next. let first = a.points (y next) in let second = b.points next in omega (arith, first, second);
}

pub w_none : Weighs 0 0 (λ next. next)
w_none = record { words = λ next. omega arith; points = λ next. omega arith }

-- ---- one instruction

pub w_pure : (f : Pure) (args : List Reg) (d : Reg) → Weighs (60 + 12 * length args) 0 (λ next. emit.operation_instr (op.Pure f) args (d ∷ []) ∷ next)
w_pure (pure.Copy kind) args d =
    record { words = λ next. let few = at_most_copy (same_spot args (d ∷ [])) in omega (arith, few); points = λ next. omega arith }
w_pure (pure.Constant w) args d = record { words = λ next. omega arith; points = λ next. omega arith }
w_pure (pure.Symbol name) args d = record { words = λ next. omega arith; points = λ next. omega arith }
w_pure (pure.Operator f r) args d = record { words = λ next. omega arith; points = λ next. omega arith }

pub w_alloc : (b : NewBlock) (d : Reg) → Weighs 60 1 (λ next. emit.alloc b d ∷ next)
w_alloc b d = record { words = λ next. omega arith; points = λ next. omega arith }

pub w_load : (k : Chunk) (offset : ℕ) (a d : Reg) → Weighs 72 0 (λ next. emit.load k offset a d ∷ next)
w_load k offset a d = record { words = λ next. omega arith; points = λ next. omega arith }

pub w_store : (k : Chunk) (offset : ℕ) (a v : Reg) → Weighs 56 0 (λ next. emit.store k offset a v ∷ next)
w_store k offset a v = record { words = λ next. omega arith; points = λ next. omega arith }

pub w_raising : (y : Reg) → Weighs 44 0 (λ next. emit.raising y ∷ next)
w_raising y = record { words = λ next. omega arith; points = λ next. omega arith }

pub w_checkbound : (r : Right) (x y : Reg) → Weighs 56 0 (λ next. emit.checkbound_instr r x y ∷ next)
w_checkbound right.Register x y = record { words = λ next. omega arith; points = λ next. omega arith }
w_checkbound (right.Constant w) x y = record { words = λ next. omega arith; points = λ next. omega arith }

pub w_branch : (t : Test) (l : ℕ) (args : List Reg) → Weighs (34 + 12 * length args) 0 (λ next. emit.branch t l args ∷ next)
w_branch t l args = record { words = λ next. omega arith; points = λ next. omega arith }

pub w_choose : (labels : List ℕ) (x : Reg) → Weighs (46 + 4 * length labels) 0 (λ next. emit.choose labels x ∷ next)
w_choose labels x = record { words = λ next. omega arith; points = λ next. omega arith }

pub w_handler : (l : ℕ) (y : Reg) → Weighs 62 0 (λ next. emit.handler l y ∷ next)
w_handler l y = record { words = λ next. omega arith; points = λ next. omega arith }

pub w_else : (l end : ℕ) → Weighs 34 0 (λ next. bare_mark (mark.Else l end) ∷ next)
w_else l end = record { words = λ next. omega arith; points = λ next. omega arith }

pub w_end : (l : ℕ) → Weighs 34 0 (λ next. bare_mark (mark.End l) ∷ next)
w_end l = record { words = λ next. omega arith; points = λ next. omega arith }

pub w_catch : Weighs 34 0 (λ next. bare_mark mark.Catch ∷ next)
w_catch = record { words = λ next. omega arith; points = λ next. omega arith }

pub w_with : (l end : ℕ) → Weighs 34 0 (λ next. bare_mark (mark.With l end) ∷ next)
w_with l end = record { words = λ next. omega arith; points = λ next. omega arith }

pub w_case : (indexes : List ℕ) (l end : ℕ) → Weighs 34 0 (λ next. bare_mark (mark.Case indexes l end) ∷ next)
w_case indexes l end = record { words = λ next. omega arith; points = λ next. omega arith }

pub w_try : (l : ℕ) → Weighs 34 0 (λ next. bare_mark (mark.Try l) ∷ next)
w_try l = record { words = λ next. omega arith; points = λ next. omega arith }

pub w_leave : (l end : ℕ) → Weighs 34 0 (λ next. bare_mark (mark.Leave l end) ∷ next)
w_leave l end = record { words = λ next. omega arith; points = λ next. omega arith }

pub w_exits : (l n : ℕ) → Weighs (2 + 2 * n) 0 (λ next. bare_mark (mark.Exit l n) ∷ next)
w_exits l n = record { words = λ next. omega arith; points = λ next. omega arith }

-- ---- moves

pub w_move : (a d : Reg) → Weighs 30 0 (λ next. emit.move a d ∷ next)
w_move a d = record { words = λ next. let few = at_most_copy (same_spot (a ∷ []) (d ∷ [])) in omega (arith, few); points = λ next. omega arith }

pub w_from : (o : Option Reg) (d : Reg) → Weighs 30 0 (move_from o d)
w_from None d = w_up (omega arith) (omega arith) w_none
w_from (Some a) d = w_move a d

pub w_to : (a : Reg) (o : Option Reg) → Weighs 30 0 (move_to a o)
w_to a None = w_up (omega arith) (omega arith) w_none
w_to a (Some d) = w_move a d

pub w_moves : (from to : List Reg) → Weighs (30 * length from) 0 (moves_all from to)
w_moves [] to = w_up (omega arith) (omega arith) w_none
w_moves (a ∷ from) [] = w_up (omega arith) (omega arith) w_none
w_moves (a ∷ from) (d ∷ to) = w_up (omega arith) (omega arith) (w_then (w_moves from to) (w_move a d))

pub w_cells : (k : Chunk) (p : Reg) (i : ℕ) (rs : List Reg) → Weighs (56 * length rs) 0 (cell_stores k p i rs)
w_cells k p i [] = w_up (omega arith) (omega arith) w_none
w_cells k p i (r ∷ rs) = w_up (omega arith) (omega arith) (w_then (w_store k (8 * i) p r) (w_cells k p (suc i) rs))

pub w_given : (n : ℕ) (result : Ret) (d : Reg) → Weighs 30 0 (from_seat n result d)
w_given n ret.Unit d = w_up (omega arith) (omega arith) w_none
w_given n (ret.Comp c) d = w_move _ d

-- ---- one or the other

pub w_ordered : {x y : Code} {n k p q : ℕ} (b : Bool) → Weighs n p x → Weighs k q y → Weighs (n + k) (p + q) (ordered b x y)
w_ordered true f g = w_then f g
w_ordered {n = n} {k = k} {p = p} {q = q} false f g = w_up (swap n k) (swap p q) (w_then g f)
  where
    swap : (n k : ℕ) → k + n ≤ n + k
    swap n k = omega arith

pub w_when : {code : Code} (b : Bool) (n p : ℕ) → Weighs n p code → Weighs (part b n) (part b p) (only_when b code)
w_when true n p e = e
w_when false n p e = w_none

pub w_unless : {code : Code} {n p : ℕ} (o : Option (List ℕ)) → Weighs n p code → Weighs n p (unless_symbol o code)
w_unless (Some name) e = w_up (omega arith) (omega arith) w_none
w_unless None e = e

pub w_constant : {code : Code} {n p : ℕ} (r : Right) → Weighs n p code → Weighs n p (unless_constant r code)
w_constant right.Register e = e
w_constant (right.Constant w) e = w_up (omega arith) (omega arith) w_none

pub w_left : {code : Code} {n p : ℕ} (s : OperandShape) → Weighs n p code → Weighs n p (unless_left s code)
w_left InRegisters e = e
w_left (ConstantRight i) e = e
w_left (ConstantLeft i) e = w_up (omega arith) (omega arith) w_none
w_left (PowerRight k) e = e

pub w_right : {code : Code} {n p : ℕ} (s : OperandShape) → Weighs n p code → Weighs n p (unless_right s code)
w_right InRegisters e = e
w_right (ConstantRight i) e = w_up (omega arith) (omega arith) w_none
w_right (ConstantLeft i) e = e
w_right (PowerRight k) e = w_up (omega arith) (omega arith) w_none

pub w_tested : {value : Code} {n p : ℕ} (o : Option Test) (fused : Test → Code) → ((t : Test) → Weighs n p (fused t)) → Weighs n p value → Weighs n p
    (λ next. fused_test o (λ t. fused t next) (value next))
w_tested (Some t) fused f v = f t
w_tested None fused f v = v

pub w_if : {x y : Code} {n p : ℕ} (q : Bool) → Weighs n p x → Weighs n p y → Weighs n p (λ next. cond q (x next) (y next))
w_if true a b = a
w_if false a b = b

-- ---- operators

w_power : (f : IntOp) (k : ℕ) (x y d : Reg) → Weighs 504 0 (power_code f k x y d)
w_power operator.Div k x y d = record { words = λ next. omega arith; points = λ next. omega arith }
w_power f k x y d = record { words = λ next. omega arith; points = λ next. omega arith }

pub w_operator : (s : OperandShape) (f : IntOp) (x y d : Reg) → Weighs 504 0 (operator_code s f x y d)
w_operator (PowerRight k) f x y d = w_power f k x y d
w_operator InRegisters f x y d = w_up (omega arith) (omega arith) (w_pure _ _ d)
w_operator (ConstantRight i) f x y d = w_up (omega arith) (omega arith) (w_pure _ _ d)
w_operator (ConstantLeft i) f x y d = w_up (omega arith) (omega arith) (w_pure _ _ d)

-- ---- calls

pub w_call : (tail valued : Bool) (result : Ret) (o : Option (List ℕ)) (f : Reg) (rs : List Reg) (n : ℕ) (d : Reg) → Weighs (102 + 12 * length rs) 1
    (call_of tail valued result o f rs n d)
w_call true valued result None f rs n d = record { words = λ next. omega arith; points = λ next. omega arith }
w_call true valued result (Some name) f rs n d = record { words = λ next. omega arith; points = λ next. omega arith }
w_call false valued result None f rs n d = record {
  words = λ next. let one = result_few n result in let last = (w_given n result d).words next in omega (arith, one, last);
  points = λ next. let last = (w_given n result d).points next in omega (arith, last);
}
w_call false valued result (Some name) f rs n d = record {
  words = λ next. let one = result_few n result in let last = (w_given n result d).words next in omega (arith, one, last);
  points = λ next. let last = (w_given n result d).points next in omega (arith, last);
}

pub w_external : (name : List ℕ) (comps : List Comp) (result : Ret) (frame : Bool) (rs : List Reg) (n : ℕ) (d : Reg) →
    Weighs (90 + 12 * length rs) (one_if_true frame) (λ next. emit.external_instruction name comps result frame rs (result_seat n result) ∷ from_seat n result d next)
w_external name comps result frame rs n d = record {
  words = λ next. let one = result_few n result in let last = (w_given n result d).words next in omega (arith, one, last);
  points = λ next. let last = (w_given n result d).points next in omega (arith, last);
}

-- ---- tests

-- a test compares at most two operands
shape_few : (s : OperandShape) (x y : Reg) → length (shape_args s x y) ≤ 2
shape_few InRegisters x y = omega arith
shape_few (ConstantRight i) x y = omega arith
shape_few (ConstantLeft i) x y = omega arith
shape_few (PowerRight k) x y = omega arith

pub w_compare : (t : Test) (l : ℕ) (s : OperandShape) (x y : Reg) → Weighs 58 0 (λ next. emit.branch t l (shape_args s x y) ∷ next)
w_compare t l s x y = let few = shape_few s x y in w_up (omega (arith, few)) (omega arith) (w_branch t l (shape_args s x y))
