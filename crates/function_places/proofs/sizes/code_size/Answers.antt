use Rattle.std.proofs.Common.{arith}
use Rattle.function_places.specs.Sizes.{piece_size}
use Rattle.function_places.proofs.Sums.{sum_step, sum_done}
use Rattle.function_places.proofs.sizes.code_size.Goals as goal

pub piece_size-size-requires : goal.piece_size-size-requires
piece_size-size-requires c = omega (arith, sum_step piece_size c.args.code.now c.loop-piece.piece-index c.piece-item.result c.loop-piece.size _ c.loop-piece-test.true c.piece-item.is c.loop-piece.invariant, c.requires)

pub overflow_add-size : goal.overflow_add-size
overflow_add-size c = omega (arith, sum_step piece_size c.args.code.now c.loop-piece.piece-index c.piece-item.result c.loop-piece.size _ c.loop-piece-test.true c.piece-item.is c.loop-piece.invariant, c.requires, c.piece_size-size.ensures)

pub loop-piece-preserved : goal.loop-piece-preserved
loop-piece-preserved c = omega (arith, sum_step piece_size c.args.code.now c.loop-piece.piece-index c.piece-item.result c.loop-piece.size _ c.loop-piece-test.true c.piece-item.is c.loop-piece.invariant, c.piece_size-size.ensures)

pub returns : goal.returns
returns c = sum_done piece_size c.args.code.now c.loop-piece.piece-index c.loop-piece.size _ c.loop-piece-test.false c.loop-piece.invariant
