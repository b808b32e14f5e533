use Rattle.std.proofs.Common.{refl}
use Rattle.lin_unused.proofs.Flagged.{none_yet, none_more, none_all}
use Rattle.lin_unused.proofs.leaving.no_move_goes.Goals as goal

pub loop-place-init : goal.loop-place-init
loop-place-init c = none_yet c.args.flags.now c.args.code.now

pub loop-place-preserved : goal.loop-place-preserved
loop-place-preserved c =
    none_more c.args.flags.now c.args.code.now c.loop-place.place _ c.index-code-place.result c.loop-place-test.true refl c.index-code-place.is
    (c.stays_or_moves_none.ensures c.if-not-stays_or_moves_none.false) c.loop-place.invariant

pub returns : goal.returns
returns c = λ t. none_all c.args.flags.now c.args.code.now c.loop-place.place c.loop-place-test.false c.loop-place.invariant
