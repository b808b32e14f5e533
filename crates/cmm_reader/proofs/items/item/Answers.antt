use Rattle.std.proofs.Common.{◌<◌, ap, sym, ◌∙◌, arith}
use Rattle.cmm_lex.specs.Token.{token_view}
use Rattle.cmm_grammar.specs.Rule.{AToken, maybe}
use Rattle.cmm_grammar.specs.Words.{is_function, passing}
use Rattle.cmm_grammar.specs.Grammar.{an_item, item_rest}
use Rattle.cmm_parts.specs.Results.{trees}
use Rattle.cmm_reader.proofs.Inside.{inside-one}
use Rattle.cmm_reader.proofs.items.item.Goals as goal

pub returns : goal.returns
unfolding an_item
returns c =
    let some : 0 < c.args.depth = omega (arith, c.if-depth-eq0.false) in
    rw (inside-one (λ at. maybe AToken (passing is_function) (item_rest at)) c.args.depth (trees c.args.source.now c.args.tokens.now) (token_view c.args.source.now c.in-Some.first.now) (trees c.args.source.now c.in-Some.rest.now)
    (ap (trees c.args.source.now) c.in-Some.ensures.cases.0) (sym c.is_open.ensures ∙ c.if-not-is_open.false) some)
    c.item_inside.ensures
