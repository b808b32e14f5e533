use Rattle.std.proofs.Common.{◌∙◌, sym}
use Rattle.cmm_tree.specs.View.{index_view}
use Rattle.cmm_grammar.specs.Words.{is_no_case}
use Rattle.cmm_grammar.specs.Grammar.{another_number}
use Rattle.cmm_grammar.specs.Reading.{reading, forms_below}
use Rattle.cmm_parts.specs.Results.{trees}
use Rattle.cmm_parts.proofs.Lists.{going-start}
use Rattle.cmm_parts.proofs.Loops.{loop-shorter, loop-on}
use Rattle.cmm_parts.proofs.Takings.{takes-number}
use Rattle.cmm_parts.proofs.parts.more_numbers.Goals as goal

pub loop-first-init : goal.loop-first-init
loop-first-init c =
    rw c.new-indexes.ensures.items
    (going-start is_no_case (reading another_number c.args.depth (forms_below c.args.depth)) (trees c.args.source.now c.args.tokens.now))

pub loop-first-smaller : goal.loop-first-smaller
loop-first-smaller c =
    loop-shorter another_number takes-number c.args.depth c.args.source.now c.loop-first.rest.now c.in-Some.first.now c.in-Some.field-0-1.now c.in_ok-index.behind.now _ c.in-Some.ensures.cases.0 c.in_ok-index.ensures

pub loop-first-preserved : goal.loop-first-preserved
loop-first-preserved c =
    loop-on index_view another_number takes-number c.args.depth is_no_case c.args.source.now (trees c.args.source.now c.args.tokens.now)
    c.loop-first.indexes.items c.push.new.self.items c.in_ok-index.index c.loop-first.rest.now c.in-Some.first.now c.in-Some.field-0-1.now c.in_ok-index.behind.now
    c.loop-first.invariant c.in-Some.ensures.cases.0 (sym c.passes.ensures ∙ c.if-passes.false) c.in_ok-index.ensures c.in_ok-push.ensures.items
