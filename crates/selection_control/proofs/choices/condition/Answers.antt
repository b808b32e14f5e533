use Rattle.std.proofs.Common.{◌≡◌, ℕ, List, [], ◌∷◌, Some, false, ap, sym, ◌∙◌, rules}
use Rattle.std.proofs.lemmas.Result.{on_ok_weaker}
use Rattle.bs_words.specs.declared.operators.IntOp.{IntOp}
use Rattle.cmm_tree.specs.Tree.{Operator}
use Rattle.cmm_tree.specs.View.{expr_view}
use Rattle.mach_ir.specs.declared.mach.Instr.{Instr}
use Rattle.mach_ir.specs.declared.mach.Test.TheVariants as test
use Rattle.selection_rules.specs.Instructions as emit
use Rattle.selection_rules.specs.Select.{select, select_test, comparison, operation_shape, shape_op, shape_right}
use Rattle.selection_code.specs.Shapes.{shape_view}
use Rattle.selection_control.proofs.choices.condition.Goals as goal

pub returns-in-Some-clause-code : goal.returns-in-Some-clause-code
returns-in-Some-clause-code g c =
    let s = c.args.scope.now in
    let e = c.args.condition.now in
    let op = c.in-Operator.op in
    let left = c.in-Operator.left.now in
    let right = c.in-Operator.right.now in
    let here : expr_view e ≡ Operator e.at op (expr_view left) (expr_view right) = search rules in
    let k = shape_view c.shape_of-shape.result in
    let shape : k ≡ operation_shape op (expr_view left) (expr_view right) = c.shape_of-shape.ensures in
    let told : comparison (shape_op k op) (shape_right k) ≡ Some c.in-Some.test = search rules in
    let base = c.args.place.base in
    let dest = c.args.place.dest in
    let otherwise = c.args.otherwise in
    let old = c.args.code.now in
    let new = c.fused.new.code in
    let value = select s.names s.labels false false dest base (expr_view e) (emit.branch test.Holds otherwise (dest ∷ []) ∷ old) in
    let step : ((at : ℕ) (o : IntOp) (v : List Instr) → k ≡ operation_shape o (expr_view left) (expr_view right) → comparison (shape_op k o) (shape_right k) ≡ Some c.in-Some.test
    → new ≡ select_test s.names s.labels otherwise base (Operator at o (expr_view left) (expr_view right)) v old)
    → new ≡ select_test s.names s.labels otherwise base (expr_view e) value old =
    λ made. made e.at op value shape told ∙ ap (λ x. select_test s.names s.labels otherwise base x value old) (sym here) in
    on_ok_weaker c.fused.result step c.fused.ensures.code
