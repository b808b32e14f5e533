use Rattle.std.proofs.Common.{arith}
use Rattle.dataflow.proofs.Visits.{is_place}
use Rattle.dataflow.proofs.Moves.{moved}
use Rattle.dataflow.proofs.spread.move_on.Goals as goal

pub spread-requires-clause-place : goal.spread-requires-clause-place
spread-requires-clause-place c =
    is_place c.args.flow.now _ _ c.args.p _ c.requires.flow c.requires.len c.requires.size c.requires.within c.index.ensures

pub returns-clause-moved : goal.returns-clause-moved
returns-clause-moved c =
    moved c.args.flow.now _ _ c.args.p _ _ _ (omega (arith, c.requires.len, c.requires.within)) c.index.ensures c.requires.size c.spread.ensures.spread
