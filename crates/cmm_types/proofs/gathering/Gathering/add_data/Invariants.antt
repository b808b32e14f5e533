use Rattle.std.proofs.Common.{◌≡◌, map, drop}
use Rattle.cmm_tree.specs.View.{data_item_view}
use Rattle.cmm_tree.specs.Symbols.{data_symbols}
use Rattle.cmm_types.specs.Gathered.{with_symbols, symbol_faults}
use Rattle.bs_fault.specs.Reported.{noted_all}
use Rattle.cmm_types.proofs.gathering.Gathering.add_data.Given as goal

abbrev pub invariant-loop-item : goal.invariant-loop-item
invariant-loop-item l =
    record {
      symbols : with_symbols l.self.symbols (data_symbols (map data_item_view (drop l.item-index l.items))) ≡ with_symbols l.initial.self.symbols (data_symbols (map data_item_view l.items));
      found : noted_all (symbol_faults l.self.symbols (data_symbols (map data_item_view (drop l.item-index l.items)))) l.self.found ≡ noted_all (symbol_faults l.initial.self.symbols (data_symbols (map data_item_view l.items))) l.initial.self.found;
    }
