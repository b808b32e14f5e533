use Rattle.std.proofs.Common.{◌≡◌, ℕ, List, Some, ◌+◌, ◌-◌, suc, refl, ap, ◌∙◌, arith}
use Rattle.std.proofs.lemmas.Result.{on_ok_weaker}
use Rattle.bs_words.specs.declared.operators.IntOp.{IntOp}
use Rattle.cmm_tree.specs.Tree.{Operator}
use Rattle.cmm_tree.specs.View.{expr_view}
use Rattle.mach_ir.specs.declared.mach.Instr.{Instr}
use Rattle.selection_rules.specs.Select.{width, select_test, comparison, operation_shape, shape_op, shape_right}
use Rattle.selection_control.proofs.TwoOperands.{operands_made, both-operands, reg-is, test-made}
use Rattle.selection_code.specs.Shapes.{shape_view}
use Rattle.selection_control.proofs.choices.fused.Goals as goal

pub returns-clause-code : goal.returns-clause-code
returns-clause-code g c =
    let s = c.args.scope.now in
    let b = c.args.branch.base in
    let left = c.args.left.now in
    let right = c.args.right.now in
    let first = b + 3 in
    let af : first ≡ suc (suc (suc b)) = omega arith in
    let one : first - 2 ≡ suc b = omega (arith, af) in
    let two : first - 1 ≡ suc (suc b) = omega (arith, af) in
    let second = c.behind-second.ensures ∙ ap (λ n. n + width (expr_view left)) af in
    let x = reg-is s (first - 2) (suc b) left c.fresh.result c.fresh.ensures one c.requires.left_typed in
    let y = reg-is s (first - 1) (suc (suc b)) right c.fresh-2.result c.fresh-2.ensures two c.requires.right_typed in
    let k = shape_view c.args.branch.shape in
    let new = c.both.new.code in
    let step : new ≡ operands_made s c.is_left_first-left_first.result c.needs_left.result c.needs_right.result c.fresh.result c.fresh-2.result first c.behind-second.result left right c.branch-code.new.self
    → (at : ℕ) (op : IntOp) (value : List Instr) → k ≡ operation_shape op (expr_view left) (expr_view right) → comparison (shape_op k op) (shape_right k) ≡ Some c.args.branch.test
    → new ≡ select_test s.names s.labels c.args.branch.otherwise b (Operator at op (expr_view left) (expr_view right)) value c.args.code.now =
    λ made at op value shape test.
    test-made s at b c.args.branch.otherwise op k c.args.branch.test left right c.fresh.result c.fresh-2.result value c.args.code.now c.branch-code.new.self new
    shape test x y c.in_ok-branch.ensures
    (both-operands s s k c.is_left_first-left_first.result c.needs_left.result c.needs_right.result b first c.behind-second.result c.fresh.result c.fresh-2.result left right c.branch-code.new.self new
    refl c.is_left_first-left_first.ensures c.needs_left.ensures c.needs_right.ensures x y af second made) in
    on_ok_weaker c.both.result step c.both.ensures.code
