use Rattle.std.proofs.Common.{◌∙◌, sym}
use Rattle.cmm_lex.specs.Token.{token_view}
use Rattle.cmm_parts.proofs.Symbols.{if-some, if-none}
use Rattle.cmm_reader.proofs.Symbols.{val-symbol, val-number}
use Rattle.cmm_reader.proofs.data.value_of.Goals as goal

pub returns-in-Some-clause-datum : goal.returns-in-Some-clause-datum
returns-in-Some-clause-datum c =
    let s = if-some _ _ _ (sym c.in-Some.is ∙ c.in_ok-name.ensures.symbol) in
    val-symbol (token_view c.args.source.now c.args.token.now) c.in-Some.name s.0 s.1

pub returns-in-None-clause-datum : goal.returns-in-None-clause-datum
returns-in-None-clause-datum c =
    c.number_of.ensures
    ∙ val-number (token_view c.args.source.now c.args.token.now) (if-none _ _ (sym c.in-None.is ∙ c.in_ok-name.ensures.symbol))
