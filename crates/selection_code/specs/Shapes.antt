-- The shapes of the code's operators, and those of the definition.
use Rattle.std.specs.Prelude.{ℕ, Bool, true, false, Option, Some, None}
use Rattle.cmm_tree.specs.Tree.{Expression, Integer}
use Rattle.mach_ir.specs.declared.op.Right.{Right}
use Rattle.mach_ir.specs.declared.op.Right.TheVariants as right
use Rattle.selection_rules.specs.Select as select
use Rattle.selection_code.specs.declared.shape.Immediate.{Immediate}
use Rattle.selection_code.specs.declared.shape.Shape.{Shape}
use Rattle.selection_code.specs.declared.shape.Shape.TheVariants as shape

abbrev pub immediate_view : Immediate → select.Immediate
immediate_view i = record { op = i.op; word = i.word }

abbrev pub shape_view : Shape → select.OperandShape
shape_view shape.InRegisters = select.InRegisters
shape_view (shape.ConstantRight i) = select.ConstantRight (immediate_view i)
shape_view (shape.ConstantLeft i) = select.ConstantLeft (immediate_view i)
shape_view (shape.PowerRight k) = select.PowerRight k

-- the word of an expression that is an integer
abbrev pub integer_of : Expression → Option ℕ
integer_of (Integer at w) = Some w
integer_of _ = None

-- which operands are put into registers
abbrev pub needs_left : select.OperandShape → Bool
needs_left (select.ConstantLeft i) = false
needs_left _ = true

abbrev pub needs_right : select.OperandShape → Bool
needs_right (select.ConstantRight i) = false
needs_right (select.PowerRight k) = false
needs_right _ = true

-- whether the right operand of a bound test is in a register
abbrev pub is_register_operand : Right → Bool
is_register_operand right.Register = true
is_register_operand (right.Constant w) = false
