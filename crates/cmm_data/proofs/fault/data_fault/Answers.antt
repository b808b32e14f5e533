use Rattle.std.proofs.Common.{◌≡◌, ◌∙◌, ap, sym, arith, List, ◌∷◌, drop, map, None, Some, ◌+◌}
use Rattle.std.proofs.lemmas.Grind.{common_steps}
use Rattle.cmm_tree.specs.Tree.{ItemTree, AData, data_among}
use Rattle.cmm_tree.specs.View.{item_view, data_list_view}
use Rattle.cmm_data.specs.Placement.{start_behind, items_from, end_behind, lists_behind, items_of_lists}
use Rattle.cmm_data.specs.Faults.{first_fault}
use Rattle.cmm_data.proofs.Items.{map_drop-cons}
use Rattle.cmm_data.proofs.Walk.{first_fault-next, first_fault-behind}
use Rattle.cmm_data.proofs.fault.data_fault.Goals as goal
use Rattle.cmm_data.proofs.fault.data_fault.Goals.{in-Data+in-Ok, in_default}

pub returns-in-Err : goal.returns-in-Err
returns-in-Err c =
    let k = c.loop-item.item-index in
    let items = c.as_slice-item-items.result.now in
    let rest = map item_view (drop (k + 1) items) in
    let here : map item_view (drop k items) ≡ AData (data_list_view c.in-Data.list) ∷ rest =
    map_drop-cons item_view items k c.item-item.result c.loop-item-test.true c.item-item.is
    ∙ ap (λ i. item_view i ∷ rest) c.in-Data.is in
    let fault : first_fault (items_from (start_behind c.loop-item.end) (data_list_view c.in-Data.list).items) ≡ Some c.in-Err.fault =
    cc (c.in-Err.ensures.fault, c.start_behind.ensures, c.as_slice.ensures) in
    sym (c.loop-item.invariant.fault
    ∙ ap (λ (l : List ItemTree). first_fault (items_of_lists (lists_behind c.loop-item.end (data_among l)))) here
    ∙ first_fault-next c.loop-item.end (data_list_view c.in-Data.list) (data_among rest) c.in-Err.fault fault)

pub loop-item-preserved : goal.loop-item-preserved
loop-item-preserved c = elim c.match-item.branch [
  | in-Data+in-Ok w ↦
      let k = c.loop-item.item-index in
      let items = c.as_slice-item-items.result.now in
      let rest = map item_view (drop (k + 1) items) in
      let d = data_list_view w.in-Data.list in
      let here : map item_view (drop k items) ≡ AData d ∷ rest =
      map_drop-cons item_view items k c.item-item.result c.loop-item-test.true c.item-item.is
      ∙ ap (λ i. item_view i ∷ rest) w.in-Data.is in
      let fault : first_fault (items_from (start_behind c.loop-item.end) d.items) ≡ None =
      cc (w.in-Ok.ensures.faultless, w.start_behind.ensures, w.as_slice.ensures) in
      let behind : end_behind c.loop-item.end d ≡ c.match-item.end =
      cc (w.in-Ok.ensures.end, w.start_behind.ensures, w.as_slice.ensures, w.end-is) in
      record {
        within = omega (arith, w.in-Ok.ensures.within, w.end-is);
        fault =
            c.loop-item.invariant.fault
            ∙ ap (λ (l : List ItemTree). first_fault (items_of_lists (lists_behind c.loop-item.end (data_among l)))) here
            ∙ first_fault-behind c.loop-item.end d (data_among rest) fault
            ∙ ap (λ e. first_fault (items_of_lists (lists_behind e (data_among rest)))) behind;
      }
  | in_default w ↦ grind (arith, common_steps)
]
