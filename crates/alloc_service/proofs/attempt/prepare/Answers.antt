use Rattle.std.proofs.Common.{arith}
use Rattle.machine_laws.proofs.Chain.{count_bound}
use Rattle.alloc_service.proofs.Placing.{cells_of_small, small_of}
use Rattle.alloc_service.proofs.attempt.prepare.Goals as goal

pub choose-requires-clause-room : goal.choose-requires-clause-room
choose-requires-clause-room c =
    omega (arith, count_bound c.args.blocks.now (cells_of_small c.args.blocks.now (small_of c.args.heap c.args.blocks.now c.requires.placed)), c.requires.fits, c.requires.space.starts)
