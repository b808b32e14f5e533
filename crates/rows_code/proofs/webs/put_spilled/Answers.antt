use Rattle.std.specs.Prelude.{length}
use Rattle.mach_tests.proofs.Wide.{can_be_spilled}
use Rattle.rows_code.proofs.webs.put_spilled.Goals as goal

pub spill-requires : goal.spill-requires
spill-requires c = record { room = can_be_spilled (length c.args.mach.params) c.requires }
