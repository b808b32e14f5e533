use Rattle.std.proofs.Common.{◌≡◌, ◌<◌, map, get_or, length, ap, ◌∙◌, arith}
use Rattle.cmm_tree.specs.View.{item_view}
use Rattle.cmm_tree.specs.Symbols.{definition_of}
use Rattle.cmm_types.specs.Gathered.{items_faults}
use Rattle.bs_fault.specs.Reported.{noted_all}
use Rattle.cmm_types.proofs.Turns.{drop_behind}
use Rattle.cmm_types.proofs.ItemTurns.{items_view-set, items-set, items_turn}
use Rattle.cmm_types.proofs.checker.Checker.check_items.Goals as goal

pub loop-index-preserved : goal.loop-index-preserved
loop-index-preserved c =
    let xs = c.loop-index.items in
    let new = c.check_item.new.item in
    let old = get_or xs c.loop-index.index c.index-items-index.result in
    let lt : c.loop-index.index < length xs = omega arith in
    let at : old ≡ get_or xs c.loop-index.index old = ap (λ y. get_or xs c.loop-index.index y) c.index-items-index.is in
    let d = definition_of c.args.symbols.now in
    let inv = c.loop-index.invariant in
    record {
      view = items_view-set xs c.loop-index.index old new lt at c.in_ok-check_item.ensures.view ∙ inv.view;
      typed = items-set xs c.loop-index.index new lt inv.typed c.in_ok-check_item.ensures.typed;
      names = c.in_ok-check_item.ensures.names;
      labels = c.in_ok-check_item.ensures.labels;
      found = ap (λ k. noted_all (items_faults d (map item_view k)) c.check_item.new.self.found) (drop_behind xs c.loop-index.index new)
          ∙ items_turn d xs c.loop-index.index old c.loop-index.self.found c.check_item.new.self.found lt at c.in_ok-check_item.ensures.found
          ∙ inv.found;
    }
