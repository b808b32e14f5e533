use Rattle.std.proofs.Common.{◌∙◌, ap, sym}
use Rattle.std.specs.List.{insert}
use Rattle.cmm_tree.specs.Tree.{Expression, Handlers, Catch}
use Rattle.cmm_tree.specs.View.{expr_view}
use Rattle.cmm_tree.specs.declared.expr.Handler.{Handler}
use Rattle.cmm_grammar.specs.Reading.{Read}
use Rattle.cmm_parts.specs.Results.{trees}
use Rattle.cmm_parts.specs.Parts.{label_part}
use Rattle.cmm_exprs.specs.Results.{handler_part, marked_parts}
use Rattle.cmm_exprs.proofs.FirstTokens.{labelled-read, handlers-first}
use Rattle.cmm_exprs.proofs.handlers.labelled_handlers.Goals as goal

pub returns : goal.returns
returns g c =
    let source = c.args.source.now in
    let catch = c.args.catch in
    let body = expr_view catch.body.value in
    let first = c.in_ok-first.first in
    let goes_on = c.in_ok-first.goes_on in
    let more = c.in_ok-more.more.items in
    let rest = trees source c.in_ok-more.rest.now in
    labelled-read catch.at c.args.depth body (label_part c.args.label) (trees source c.args.tokens.now) (trees source c.in_ok-first.rest.now) rest
    (handler_part goes_on first) (marked_parts handler_part more) c.in_ok-first.ensures c.in_ok-more.ensures
    ∙ ap (λ (v : Expression). Read v rest)
    (ap (λ (v : Handlers). Catch catch.at body v)
    (sym
    (handlers-first first goes_on more c.insert.new.self.items
    (c.in_ok-insert.ensures.items ∙ ap (λ (h : Handler). insert more 0 h) (c.into_inner.ensures ∙ c.in_ok-first-2.ensures.ok))))
    ∙ sym c.catch_node.ensures)
