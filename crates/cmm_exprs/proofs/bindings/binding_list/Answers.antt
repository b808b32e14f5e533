use Rattle.std.proofs.Common.{◌∙◌, sym}
use Rattle.cmm_grammar.specs.Words.{is_close}
use Rattle.cmm_grammar.specs.Reading.{reading, forms_below}
use Rattle.cmm_parts.specs.Results.{trees}
use Rattle.cmm_nodes.specs.Nodes.{binding_part}
use Rattle.cmm_exprs.specs.Results.{binding_rule}
use Rattle.cmm_parts.proofs.Lists.{going-start}
use Rattle.cmm_parts.proofs.Loops.{loop-shorter, loop-on}
use Rattle.cmm_exprs.proofs.Takings.{takes-binding}
use Rattle.cmm_exprs.proofs.bindings.binding_list.Goals as goal

pub loop-first-init : goal.loop-first-init
loop-first-init g c =
    rw c.new-bindings.ensures.items
    (going-start is_close (reading (binding_rule c.args.mutable) c.args.depth (forms_below c.args.depth)) (trees c.args.source.now c.args.tokens.now))

pub loop-first-smaller : goal.loop-first-smaller
loop-first-smaller g c =
    loop-shorter (binding_rule c.args.mutable) (takes-binding c.args.mutable) c.args.depth c.args.source.now c.loop-first.rest.now c.in-Some.first.now c.in-Some.field-0-1.now c.in_ok-bound.behind.now _ c.in-Some.ensures.cases.0 c.in_ok-bound.ensures

pub loop-first-preserved : goal.loop-first-preserved
loop-first-preserved g c =
    loop-on binding_part (binding_rule c.args.mutable) (takes-binding c.args.mutable) c.args.depth is_close c.args.source.now (trees c.args.source.now c.args.tokens.now)
    c.loop-first.bindings.items c.push.new.self.items c.in_ok-bound.bound c.loop-first.rest.now c.in-Some.first.now c.in-Some.field-0-1.now c.in_ok-bound.behind.now
    c.loop-first.invariant c.in-Some.ensures.cases.0 (sym c.passes.ensures ∙ c.if-passes.false) c.in_ok-bound.ensures c.in_ok-push.ensures.items
