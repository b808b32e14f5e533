use Rattle.std.proofs.Common.{◌≡◌, ◌∙◌, ap, sym}
use Rattle.cmm_tree.specs.Place.{place_of}
use Rattle.cmm_tree.specs.View.{expr_view}
use Rattle.cmm_tree.specs.declared.expr.Expr.{Expr}
use Rattle.cmm_tree.proofs.Rows.{place_view}
use Rattle.cmm_nodes.proofs.node.sequence.Goals as goal

pub returns-clause-expr : goal.returns-clause-expr
returns-clause-expr c =
    let first = c.args.first.value in
    let place : place_of (expr_view first) ≡ c.deref.result.now.at = place_view first.at first.form ∙ ap (λ (e : Expr). e.at) (sym c.deref.ensures) in
    rw place c.sequence_at.ensures.expr
