use Rattle.std.proofs.Common.{◌∙◌, sym}
use Rattle.cmm_tree.specs.View.{expr_view}
use Rattle.cmm_grammar.specs.Rule.{Expr}
use Rattle.cmm_grammar.specs.Reading.{reading, forms_below}
use Rattle.cmm_parts.specs.Results.{trees, test_of}
use Rattle.cmm_parts.proofs.Lists.{going-start}
use Rattle.cmm_parts.proofs.Loops.{loop-shorter, loop-on}
use Rattle.cmm_operations.proofs.lists.list.Goals as goal

pub loop-first-init : goal.loop-first-init
loop-first-init g c =
    rw c.new-expressions.ensures.items
    (going-start (test_of c.args.stop) (reading Expr c.args.depth (forms_below c.args.depth)) (trees c.args.source.now c.args.tokens.now))

pub loop-first-smaller : goal.loop-first-smaller
loop-first-smaller g c =
    loop-shorter Expr tt c.args.depth c.args.source.now c.loop-first.rest.now c.in-Some.first.now c.in-Some.field-0-1.now c.in_ok-expr.behind.now _ c.in-Some.ensures.cases.0 c.in_ok-expr.ensures

pub loop-first-preserved : goal.loop-first-preserved
loop-first-preserved g c =
    loop-on expr_view Expr tt c.args.depth (test_of c.args.stop) c.args.source.now (trees c.args.source.now c.args.tokens.now)
    c.loop-first.expressions.items c.push.new.self.items c.in_ok-expr.expr c.loop-first.rest.now c.in-Some.first.now c.in-Some.field-0-1.now c.in_ok-expr.behind.now
    c.loop-first.invariant c.in-Some.ensures.cases.0 (sym c.passes.ensures ∙ c.if-passes.false) c.in_ok-expr.ensures c.in_ok-push.ensures.items
