use Rattle.std.proofs.Common.{[], ◌∷◌, refl, ap, ◌∙◌}
use Rattle.bs_words.specs.Contents.{contents}
use Rattle.cmm_tree.specs.declared.file.Item.{Item}
use Rattle.assemble_rules.specs.Held.{calls_among_items}
use Rattle.assemble_rules.proofs.Held.{items_same}
use Rattle.rv_layout_rules.specs.Externals.{firsts_behind}
use Rattle.external_rows.proofs.Walks.{one_more, no_more, item_step}
use Rattle.external_rows.proofs.walk.external_rows.Goals as goal

pub loop-item-preserved : goal.loop-item-preserved
loop-item-preserved c = record {
  items = c.loop-item.invariant.items;
  rows = one_more calls_among_items (λ (i : Item). calls_among_items (i ∷ [])) item_step _ c.loop-item.item-index c.item-item.result c.loop-item.rows _ _
      c.loop-item-test.true c.item-item.is c.in_ok-walk_item.ensures c.loop-item.invariant.rows;
}

pub returns : goal.returns
returns c =
    no_more calls_among_items refl _ c.loop-item.item-index c.loop-item.rows _ c.loop-item-test.false c.loop-item.invariant.rows
    ∙ ap (firsts_behind []) (items_same (contents c.args.file.now.items) c.requires)
