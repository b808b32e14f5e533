use Rattle.std.proofs.Common.{List, ◌∷◌, [], ◌++◌, ◌+◌, map, take, ap}
use Rattle.std.proofs.lemmas.List.{take_all}
use Rattle.cmm_tree.specs.Tree.{functions_among}
use Rattle.cmm_tree.specs.View.{item_view}
use Rattle.cmm_tree.specs.declared.file.Item.{Item}
use Rattle.cmm_walks.proofs.Least.{functions-more, typed-here, told-as}
use Rattle.cmm_walks.proofs.check.told_in_items.Goals as goal

pub loop-item-preserved : goal.loop-item-preserved
loop-item-preserved c =
    let items = c.args.items.now in
    let i = c.loop-item.item-index in
    let x = c.item-item.result in
    let former = functions_among (map item_view (take i items)) in
    let here = functions_among (item_view x ∷ []) in
    let t = typed-here items i x c.loop-item-test.true c.item-item.is c.loop-item.invariant.typed in
    record {
      typed = t.1;
      told = told-as (former ++ here) (functions_among (map item_view (take (i + 1) items))) c.first-least.result (functions-more items i x c.loop-item-test.true c.item-item.is) (c.first-least.ensures former here c.loop-item.invariant.told c.in_ok-here.ensures);
    }

pub returns : goal.returns
returns c =
    let items = c.args.items.now in
    let i = c.loop-item.item-index in
    told-as (functions_among (map item_view (take i items))) (functions_among (map item_view items)) c.loop-item.least
    (ap (λ (l : List Item). functions_among (map item_view l)) (take_all i items c.loop-item-test.false))
    c.loop-item.invariant.told
