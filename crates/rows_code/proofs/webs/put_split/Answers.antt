use Rattle.std.specs.Prelude.{length}
use Rattle.mach_tests.proofs.Wide.{countable, can_be_split}
use Rattle.rows_code.proofs.webs.put_split.Goals as goal

pub first_free-free-requires : goal.first_free-free-requires
first_free-free-requires c = record { countable = countable (length c.args.mach.params) c.requires }

pub live-requires : goal.live-requires
live-requires c = record { countable = countable (length c.args.mach.params) c.requires }

pub split-requires : goal.split-requires
split-requires c = record { room = can_be_split (length c.args.mach.params) c.requires }
