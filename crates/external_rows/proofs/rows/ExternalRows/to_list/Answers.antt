use Rattle.std.proofs.Common.{map, ap, sym, ◌∙◌}
use Rattle.image_form.specs.Tables.{ext}
use Rattle.external_rows.proofs.Lookups.{next_row, all_rows}
use Rattle.external_rows.proofs.rows.ExternalRows.to_list.Goals as goal

pub loop-index-preserved : goal.loop-index-preserved
loop-index-preserved c = next_row c.self.inside.rows.entries c.loop-index.index _ c.loop-index.rows.items _ _ (sym c.in-Some.ensures.entry) c.in_ok-copy_of-in-Some.ensures c.in_ok-push-in-Some.ensures.items c.loop-index.invariant

pub returns : goal.returns
returns c =
    ap (map ext) c.from_vec.ensures
    ∙ (c.loop-index.invariant ∙ (all_rows c.self.inside.rows.entries c.loop-index.index c.len-index-end.result c.len-index-end.ensures.len c.loop-index-test.false ∙ c.self.view_is))
