use Rattle.std.proofs.Common.{◌≡◌, ℕ, ◌+◌, ◌-◌, suc, refl, ap, ◌∙◌, arith}
use Rattle.std.proofs.lemmas.Result.{on_ok_weaker}
use Rattle.cmm_tree.specs.Tree.{Operator}
use Rattle.cmm_tree.specs.View.{expr_view}
use Rattle.selection_rules.specs.Select.{width}
use Rattle.selection_control.proofs.TwoOperands.{operands_made, both-operands, reg-is, operator-made}
use Rattle.selection_operands.specs.Below.{node_code}
use Rattle.selection_code.specs.Shapes.{shape_view}
use Rattle.selection_control.proofs.choices.operator.Goals as goal

pub returns-clause-code : goal.returns-clause-code
returns-clause-code g c =
    let s = c.args.scope.now in
    let b = c.args.node.place.base in
    let left = c.args.left.now in
    let right = c.args.right.now in
    let first = b + 3 in
    let af : first ≡ suc (suc (suc b)) = omega arith in
    let one : first - 2 ≡ suc b = omega (arith, af) in
    let two : first - 1 ≡ suc (suc b) = omega (arith, af) in
    let second = c.behind-second.ensures ∙ ap (λ n. n + width (expr_view left)) af in
    let x = reg-is s (first - 2) (suc b) left c.fresh.result c.fresh.ensures one c.requires.left_typed in
    let y = reg-is s (first - 1) (suc (suc b)) right c.fresh-2.result c.fresh-2.ensures two c.requires.right_typed in
    let k = shape_view c.shape_of-shape.result in
    let new = c.both.new.code in
    let step : new ≡ operands_made s c.is_left_first-left_first.result c.needs_left.result c.needs_right.result c.fresh.result c.fresh-2.result first c.behind-second.result left right c.operator_code.new.self
    → (at : ℕ) → new ≡ node_code s c.args.node.place (Operator at c.args.op (expr_view left) (expr_view right)) c.args.code.now =
    λ made at.
    operator-made s c.args.node at c.args.op k left right c.fresh.result c.fresh-2.result c.dest.result c.args.code.now c.operator_code.new.self new
    (c.requires.ty at) c.shape_of-shape.ensures x y c.dest.ensures c.in_ok-operator_code.ensures
    (both-operands s s k c.is_left_first-left_first.result c.needs_left.result c.needs_right.result b first c.behind-second.result c.fresh.result c.fresh-2.result left right c.operator_code.new.self new
    refl c.is_left_first-left_first.ensures c.needs_left.ensures c.needs_right.ensures x y af second made) in
    on_ok_weaker c.both.result step c.both.ensures.code
