use Rattle.std.specs.Prelude.{length}
use Rattle.mach_tests.proofs.Wide.{can_be_split}
use Rattle.rows_code.proofs.webs.put_both.Goals as goal

pub split-requires : goal.split-requires
split-requires c = record { room = can_be_split (length c.args.spilled.params) c.requires }
