use Rattle.std.proofs.Common.{◌∙◌, sym}
use Rattle.cmm_tree.specs.View.{param_view}
use Rattle.cmm_grammar.specs.Words.{is_close}
use Rattle.cmm_grammar.specs.Grammar.{a_parameter}
use Rattle.cmm_grammar.specs.Reading.{reading, forms_below}
use Rattle.cmm_parts.specs.Results.{trees}
use Rattle.cmm_parts.proofs.Lists.{going-start}
use Rattle.cmm_parts.proofs.Loops.{loop-shorter, loop-on}
use Rattle.cmm_parts.proofs.Takings.{takes-parameter}
use Rattle.cmm_parts.proofs.parts.parameter_list.Goals as goal

pub loop-first-init : goal.loop-first-init
loop-first-init c =
    rw c.new-params.ensures.items
    (going-start is_close (reading a_parameter c.args.depth (forms_below c.args.depth)) (trees c.args.source.now c.args.tokens.now))

pub loop-first-smaller : goal.loop-first-smaller
loop-first-smaller c =
    loop-shorter a_parameter takes-parameter c.args.depth c.args.source.now c.loop-first.rest.now c.in-Some.first.now c.in-Some.field-0-1.now c.in_ok-param.behind.now _ c.in-Some.ensures.cases.0 c.in_ok-param.ensures

pub loop-first-preserved : goal.loop-first-preserved
loop-first-preserved c =
    loop-on param_view a_parameter takes-parameter c.args.depth is_close c.args.source.now (trees c.args.source.now c.args.tokens.now)
    c.loop-first.params.items c.push.new.self.items c.in_ok-param.param c.loop-first.rest.now c.in-Some.first.now c.in-Some.field-0-1.now c.in_ok-param.behind.now
    c.loop-first.invariant c.in-Some.ensures.cases.0 (sym c.passes.ensures ∙ c.if-passes.false) c.in_ok-param.ensures c.in_ok-push.ensures.items
