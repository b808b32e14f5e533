use Rattle.std.proofs.Common.{ℕ, ◌∙◌, ap, sym}
use Rattle.cmm_lex.specs.Token.{token_view}
use Rattle.cmm_tree.specs.Tree.{Expression, Cases, Switch}
use Rattle.cmm_tree.specs.View.{expr_view}
use Rattle.cmm_grammar.specs.Parts.{cases}
use Rattle.cmm_grammar.specs.Reading.{Read}
use Rattle.cmm_parts.specs.Results.{trees}
use Rattle.cmm_exprs.specs.Results.{case_part, marked_parts}
use Rattle.cmm_exprs.proofs.FirstTokens.{switch-read}
use Rattle.cmm_exprs.proofs.Readings.{cases-marked}
use Rattle.cmm_exprs.proofs.cases.switch_form.Goals as goal

pub returns : goal.returns
returns g c =
    let source = c.args.source.now in
    let size = c.in_ok-size.size in
    let selector = expr_view c.in_ok-selector.selector.value in
    let found = c.in_ok-cases.cases.items in
    let rest = trees source c.in_ok-cases.rest.now in
    switch-read c.args.at c.args.depth (trees source c.args.tokens.now) (trees source c.in_ok-size.rest.now) (trees source c.in_ok-selector.rest.now) (trees source c.in_ok-rest.rest.now) rest
    (token_view source size) (token_view source c.in_ok-rest.field-0-0) selector (marked_parts case_part found) c.in_ok-size.ensures c.in_ok-selector.ensures c.in_ok-rest.ensures c.in_ok-cases.ensures
    ∙ ap (λ (v : Expression). Read v rest)
    (ap (λ (word : ℕ). Switch c.args.at size.at word selector (cases (marked_parts case_part found))) (sym c.word-size_word.ensures)
    ∙ ap (λ (v : Cases). Switch c.args.at size.at c.word-size_word.result selector v) (cases-marked found)
    ∙ sym c.switch_node-switch.ensures)
