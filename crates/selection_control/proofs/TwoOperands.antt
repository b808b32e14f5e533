-- The code of an operator and of a comparison, from the codes of its two operands.
use Rattle.std.proofs.Common.{◌≡◌, ℕ, suc, ◌+◌, Bool, false, List, ◌∷◌, Some, ap, sym, ◌∙◌}
use Rattle.bs_words.specs.declared.operators.IntOp.{IntOp}
use Rattle.cmm_meaning.specs.Evaluation.{is_left_first}
use Rattle.cmm_tree.specs.Tree.{Operator}
use Rattle.cmm_tree.specs.View.{expr_view}
use Rattle.cmm_tree.specs.declared.expr.Expr.{Expr}
use Rattle.cmm_types.specs.Annotated.{IsAnnotated}
use Rattle.cmm_types.specs.Types.{type_of}
use Rattle.mach_ir.specs.declared.mach.Instr.{Instr}
use Rattle.mach_ir.specs.declared.mach.Test.{Test}
use Rattle.mach_ir.specs.declared.reg.Reg.{Reg}
use Rattle.selection_rules.specs.Instructions as emit
use Rattle.selection_rules.specs.Select.{OperandShape, fresh_register, inner_dest, select, select_test, ordered, only_when, unless_left, unless_right, operator_code, operation_shape, shape_op, shape_right, shape_args, comparison, fused_test, width}
use Rattle.selection_operands.proofs.Ordered.{operands_are}
use Rattle.selection_operands.specs.Below.{node_code}
use Rattle.selection_scope.specs.Scoping.{LexicalScope, scoped_names}
use Rattle.selection_code.specs.Shapes.{needs_left, needs_right}
use Rattle.selection_scope.specs.declared.place.Node.{Node}

-- an operand into a register
abbrev into : LexicalScope → Reg → ℕ → Expr → List Instr → List Instr
into s r b e next = select s.names s.labels false false r b (expr_view e) next

-- the two operands, in the registers and after the numbers that the code has for them
abbrev pub operands_made : LexicalScope → Bool → Bool → Bool → Reg → Reg → ℕ → ℕ → Expr → Expr → List Instr → List Instr
operands_made s left_first need_left need_right x y first second left right next =
    ordered left_first (only_when need_left (into s x first left)) (only_when need_right (into s y second right)) next

-- the register of an operand
abbrev pub operand_reg : LexicalScope → ℕ → Expr → Reg
operand_reg s n e = fresh_register n (type_of (scoped_names s) (expr_view e))

-- the same in those that the definition has
abbrev pub operands_due : LexicalScope → OperandShape → ℕ → Expr → Expr → List Instr → List Instr
operands_due s k b left right next =
    ordered (is_left_first (scoped_names s) (expr_view left) (expr_view right))
    (unless_left k (into s (operand_reg s (suc b) left) (suc (suc (suc b))) left))
    (unless_right k (into s (operand_reg s (suc (suc b)) right) (suc (suc (suc b)) + width (expr_view left)) right))
    next

pub both-operands : (s t : LexicalScope) (k : OperandShape) (left_first need_left need_right : Bool) (b first second : ℕ) (x y : Reg) (left right : Expr) (next new : List Instr)
    → t ≡ s
    → left_first ≡ is_left_first (scoped_names s) (expr_view left) (expr_view right)
    → need_left ≡ needs_left k
    → need_right ≡ needs_right k
    → x ≡ operand_reg s (suc b) left
    → y ≡ operand_reg s (suc (suc b)) right
    → first ≡ suc (suc (suc b))
    → second ≡ suc (suc (suc b)) + width (expr_view left)
    → new ≡ operands_made t left_first need_left need_right x y first second left right next
    → new ≡ operands_due s k b left right next
both-operands s t k left_first need_left need_right b first second x y left right next new ts order nl nr xs ys at_first at_second made =
    let due = is_left_first (scoped_names s) (expr_view left) (expr_view right) in
    let x' = operand_reg s (suc b) left in
    let y' = operand_reg s (suc (suc b)) right in
    let f = suc (suc (suc b)) in
    made
    ∙ ap (λ v. operands_made v left_first need_left need_right x y first second left right next) ts
    ∙ ap (λ v. operands_made s v need_left need_right x y first second left right next) order
    ∙ ap (λ v. operands_made s due v need_right x y first second left right next) nl
    ∙ ap (λ v. operands_made s due (needs_left k) v x y first second left right next) nr
    ∙ ap (λ v. operands_made s due (needs_left k) (needs_right k) v y first second left right next) xs
    ∙ ap (λ v. operands_made s due (needs_left k) (needs_right k) x' v first second left right next) ys
    ∙ ap (λ v. operands_made s due (needs_left k) (needs_right k) x' y' v second left right next) at_first
    ∙ ap (λ v. operands_made s due (needs_left k) (needs_right k) x' y' f v left right next) at_second
    ∙ operands_are due k (into s x' f left) (into s y' (f + width (expr_view left)) right) next

-- the register of an operand that holds its type
pub reg-is : (s : LexicalScope) (m n : ℕ) (e : Expr) (r : Reg) → r ≡ fresh_register m e.ty → m ≡ n → IsAnnotated (scoped_names s) e → r ≡ operand_reg s n e
reg-is s m n e r made number typed = made ∙ ap (λ k. fresh_register k e.ty) number ∙ ap (fresh_register n) typed.type

pub operator-made : (s : LexicalScope) (node : Node) (at : ℕ) (op : IntOp) (k : OperandShape) (left right : Expr) (x y d : Reg) (old mid new : List Instr)
    → node.ty ≡ type_of (scoped_names s) (Operator at op (expr_view left) (expr_view right))
    → k ≡ operation_shape op (expr_view left) (expr_view right)
    → x ≡ operand_reg s (suc node.place.base) left
    → y ≡ operand_reg s (suc (suc node.place.base)) right
    → d ≡ inner_dest node.ty node.place.base node.place.dest
    → mid ≡ operator_code k op x y d old
    → new ≡ operands_due s k node.place.base left right mid
    → new ≡ node_code s node.place (Operator at op (expr_view left) (expr_view right)) old
operator-made s node at op k left right x y d old mid new type shape xs ys ds made operands =
    let b = node.place.base in
    let x' = operand_reg s (suc b) left in
    let y' = operand_reg s (suc (suc b)) right in
    operands
    ∙ ap (λ c. operands_due s k b left right c)
    (made
    ∙ ap (λ r. operator_code k op r y d old) xs
    ∙ ap (λ r. operator_code k op x' r d old) ys
    ∙ ap (λ r. operator_code k op x' y' r old) ds
    ∙ ap (λ t. operator_code k op x' y' (inner_dest t b node.place.dest) old) type)
    ∙ ap
    (λ k. operands_due s k b left right (operator_code k op x' y' (inner_dest (type_of (scoped_names s) (Operator at op (expr_view left) (expr_view right))) b node.place.dest) old))
    shape

pub test-made : (s : LexicalScope) (at b l : ℕ) (op : IntOp) (k : OperandShape) (t : Test) (left right : Expr) (x y : Reg) (value old mid new : List Instr)
    → k ≡ operation_shape op (expr_view left) (expr_view right)
    → comparison (shape_op k op) (shape_right k) ≡ Some t
    → x ≡ operand_reg s (suc b) left
    → y ≡ operand_reg s (suc (suc b)) right
    → mid ≡ emit.branch t l (shape_args k x y) ∷ old
    → new ≡ operands_due s k b left right mid
    → new ≡ select_test s.names s.labels l b (Operator at op (expr_view left) (expr_view right)) value old
test-made s at b l op k t left right x y value old mid new shape test xs ys made operands =
    let x' = operand_reg s (suc b) left in
    let y' = operand_reg s (suc (suc b)) right in
    let fused : OperandShape → Test → List Instr = λ k t. operands_due s k b left right (emit.branch t l (shape_args k x' y') ∷ old) in
    operands
    ∙ ap (λ c. operands_due s k b left right c)
    (made ∙ ap (λ r. emit.branch t l (shape_args k r y) ∷ old) xs ∙ ap (λ r. emit.branch t l (shape_args k x' r) ∷ old) ys)
    ∙ sym (ap (λ o. fused_test o (fused k) value) test)
    ∙ ap (λ k. fused_test (comparison (shape_op k op) (shape_right k)) (fused k) value) shape
