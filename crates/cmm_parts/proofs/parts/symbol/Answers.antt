use Rattle.std.proofs.Common.{rules, ◌∙◌, sym}
use Rattle.cmm_parts.proofs.Symbols.{if-some}
use Rattle.cmm_parts.proofs.parts.symbol.Goals as goal

pub returns-in-Some-2-clause-read : goal.returns-in-Some-2-clause-read
returns-in-Some-2-clause-read c =
    let s = if-some _ _ _ (sym c.in-Some-2.is ∙ c.in_ok-name.ensures.symbol) in
    let passes = s.0 in
    search rules

pub returns-in-Some-2-clause-name : goal.returns-in-Some-2-clause-name
returns-in-Some-2-clause-name c = (if-some _ _ _ (sym c.in-Some-2.is ∙ c.in_ok-name.ensures.symbol)).1
