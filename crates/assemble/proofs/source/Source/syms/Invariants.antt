use Rattle.std.proofs.Common.{◌≡◌, map, take}
use Rattle.bs_words.specs.Contents.{contents}
use Rattle.cmm_data.specs.Map.{symbol_view}
use Rattle.cmm_data.specs.declared.data_map.DataSymbol.{DataSymbol}
use Rattle.image_form.specs.Tables.{sym}
use Rattle.rv_layout_rules.specs.Laid.{sym_of}
use Rattle.assemble.proofs.source.Source.syms.Given as goal

abbrev pub invariant-loop-symbol : goal.invariant-loop-symbol
invariant-loop-symbol l = record {
  items : l.symbol-items ≡ contents l.self.data.now.symbols;
  rows : map sym l.rows.items ≡ map (λ (s : DataSymbol). sym_of (symbol_view s)) (take l.symbol-index l.symbol-items);
}
