use Rattle.std.proofs.Common.{◌≡◌, [], drop, take, map}
use Rattle.cmm_tree.specs.View.{item_view}
use Rattle.cmm_tree.specs.Symbols.{definition_of}
use Rattle.cmm_types.specs.Gathered.{items_faults}
use Rattle.bs_fault.specs.Reported.{noted_all}
use Rattle.cmm_types.specs.Typing.{AreItemsAnnotated}
use Rattle.cmm_types.proofs.checker.Checker.check_items.Given as goal

abbrev pub invariant-loop-index : goal.invariant-loop-index
invariant-loop-index l =
    record {
      view : map item_view l.items ≡ map item_view l.initial.items;
      typed : AreItemsAnnotated (take l.index l.items);
      names : l.self.names ≡ [];
      labels : l.self.labels ≡ [];
      found : noted_all (items_faults (definition_of l.symbols) (map item_view (drop l.index l.items))) l.self.found ≡ noted_all (items_faults (definition_of l.symbols) (map item_view l.initial.items)) l.initial.self.found;
    }
