use Rattle.std.proofs.Common.{◌≡◌, [], ◌∷◌, map, drop, None}
use Rattle.cmm_tree.specs.View.{item_view}
use Rattle.cmm_tree.specs.Symbols.{built_in, symbols_among}
use Rattle.cmm_types.specs.Gathered.{with_symbols, symbol_faults}
use Rattle.bs_fault.specs.Reported.{noted_all}
use Rattle.cmm_types.proofs.gathering.gather.Given as goal

abbrev pub invariant-loop-item : goal.invariant-loop-item
invariant-loop-item l =
    record {
      symbols : with_symbols l.all.symbols (symbols_among (map item_view (drop l.item-index l.items))) ≡ with_symbols (built_in ∷ []) (symbols_among (map item_view l.items));
      found : noted_all (symbol_faults l.all.symbols (symbols_among (map item_view (drop l.item-index l.items)))) l.all.found ≡ noted_all (symbol_faults (built_in ∷ []) (symbols_among (map item_view l.items))) None;
    }
