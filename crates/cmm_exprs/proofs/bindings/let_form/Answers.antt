use Rattle.std.proofs.Common.{ap, sym, ◌∙◌}
use Rattle.cmm_lex.specs.Token.{token_view}
use Rattle.cmm_parts.specs.Results.{trees}
use Rattle.cmm_exprs.proofs.FirstTokens.{let-single}
use Rattle.cmm_exprs.proofs.bindings.let_form.Goals as goal

pub returns : goal.returns
returns g c =
    let source = c.args.source.now in
    rw (let-single c.args.at c.args.mutable c.args.depth (trees source c.args.tokens.now) (token_view source c.in-Some.first.now) (trees source c.in-Some.rest.now)
    (ap (trees source) c.in-Some.ensures.cases.0) (sym c.is_open.ensures ∙ c.if-is_open.false))
    c.let_one.ensures
