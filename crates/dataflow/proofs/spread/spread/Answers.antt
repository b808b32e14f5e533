use Rattle.std.proofs.Common.{◌∙◌}
use Rattle.dataflow.proofs.Moves.{copied, lent_out, lent_in, lent_places, spread_is}
use Rattle.dataflow.proofs.spread.spread.Goals as goal

pub returns-clause-spread : goal.returns-clause-spread
returns-clause-spread c =
    spread_is c.args.place.now _ _ _ _ c.args.p _ _ _ _ _ _ (copied _ _ _ _ c.requires.within c.index.ensures c.copy_row.ensures.members) (lent_places _ _ _ _ _ _ c.as_slice.ensures c.push_rows-aside_grew.ensures) (lent_out _ _ _ _ c.as_slice-2.ensures c.take_out.ensures.members) (lent_in _ _ _ _ c.as_slice-3.ensures c.put_in.ensures.members) (lent_places _ _ _ _ _ _ c.as_slice-4.ensures c.push_rows-next_grew.ensures) (c.put_in.ensures.size ∙ (c.take_out.ensures.size ∙ c.copy_row.ensures.size)) c.either.ensures
