use Rattle.std.proofs.Common.{arith}
use Rattle.std.specs.Prelude.{◌^◌}
use Rattle.rows_worlds.proofs.Few.{few_functions}
use Rattle.rows_worlds.proofs.world.World.of.Goals as goal

pub of_faultless-requires-clause-few : goal.of_faultless-requires-clause-few
of_faultless-requires-clause-few c = few_functions c.args.file.now (2 ^ 32) (omega (arith, c.len.ensures, c.if-len.false))
