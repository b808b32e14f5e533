use Rattle.std.proofs.Common.{drop, map}
use Rattle.cmm_tree.specs.View.{data_item_view}
use Rattle.cmm_tree.specs.Symbols.{definition_of}
use Rattle.cmm_types.specs.Gathered.{data_faults}
use Rattle.cmm_types.proofs.Loops.{Noting}
use Rattle.cmm_types.proofs.checker.Checker.note_data.Given as goal

abbrev pub invariant-loop-item : goal.invariant-loop-item
invariant-loop-item l =
    Noting l.initial.self l.self (data_faults (definition_of l.symbols) (map data_item_view (drop l.item-index l.items))) (data_faults (definition_of l.symbols) (map data_item_view l.items))
