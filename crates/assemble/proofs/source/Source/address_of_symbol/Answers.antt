use Rattle.std.proofs.Common.{ap, ◌∙◌, arith}
use Rattle.assemble.specs.Source.{tree_of, source_entries}
use Rattle.assemble.proofs.Bounds.{symbol_below}
use Rattle.cmm_data.specs.Placement.{value_of_symbol}
use Rattle.rv_layout_rules.specs.Laid.{address_of_value}
use Rattle.assemble.proofs.source.Source.address_of_symbol.Goals as goal

pub overflow_cast-result : goal.overflow_cast-result
overflow_cast-result c =
    let s = c.args.self.now in
    let found = c.in-Some.ensures ∙ (c.requires.source.symbols.each c.as_bytes.result.now ∙ ap (value_of_symbol (tree_of s)) c.as_bytes.ensures) in
    let is = c.address_of_value.ensures ∙ ap (address_of_value (source_entries s)) found in
    omega (arith, is, symbol_below s c.requires.source c.requires.fits c.args.name.now)
