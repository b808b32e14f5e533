-- The code of two operands, in either order, where one of them may need none.
use Rattle.std.proofs.Common.{◌≡◌, Bool, true, false, List, refl, ap, ◌∙◌}
use Rattle.mach_ir.specs.declared.mach.Instr.{Instr}
use Rattle.mach_ir.specs.declared.op.Right.{Right}
use Rattle.mach_ir.specs.declared.op.Right.TheVariants as right
use Rattle.selection_rules.specs.Select.{Code, OperandShape, ConstantRight, ConstantLeft, PowerRight, ordered, only_when, unless_left, unless_right, unless_constant}
use Rattle.selection_code.specs.Shapes.{needs_left, needs_right, is_register_operand}

pub ordered_same : (b : Bool) (l k r q : Code) (next : List Instr) → ((n : List Instr) → l n ≡ k n) → ((n : List Instr) → r n ≡ q n) → ordered b l r next ≡ ordered b k q next
ordered_same true l k r q next el er = ap l (er next) ∙ el (q next)
ordered_same false l k r q next el er = ap r (el next) ∙ er (k next)

pub left_needed : (s : OperandShape) (c : Code) (n : List Instr) → only_when (needs_left s) c n ≡ unless_left s c n
left_needed (ConstantLeft i) c n = refl
left_needed s c n = refl

pub right_needed : (s : OperandShape) (c : Code) (n : List Instr) → only_when (needs_right s) c n ≡ unless_right s c n
right_needed (ConstantRight i) c n = refl
right_needed (PowerRight k) c n = refl
right_needed s c n = refl

pub constant_needed : (r : Right) (c : Code) (n : List Instr) → only_when (is_register_operand r) c n ≡ unless_constant r c n
constant_needed right.Register c n = refl
constant_needed (right.Constant w) c n = refl

pub operands_are : (b : Bool) (s : OperandShape) (l r : Code) (next : List Instr)
    → ordered b (only_when (needs_left s) l) (only_when (needs_right s) r) next ≡ ordered b (unless_left s l) (unless_right s r) next
operands_are b s l r next = ordered_same b _ _ _ _ next (left_needed s l) (right_needed s r)

pub bound_operands_are : (b : Bool) (k : Right) (l r : Code) (next : List Instr)
    → ordered b l (only_when (is_register_operand k) r) next ≡ ordered b l (unless_constant k r) next
bound_operands_are b k l r next = ordered_same b l l _ _ next (λ n. refl) (constant_needed k r)
