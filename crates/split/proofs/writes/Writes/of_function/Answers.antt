use Rattle.std.proofs.Common.{◌∙◌}
use Rattle.split.proofs.Grouping.{numbers_small}
use Rattle.split.proofs.writes.Writes.of_function.Goals as goal

pub groups_of-requires-clause-numbers : goal.groups_of-requires-clause-numbers
groups_of-requires-clause-numbers c =
    numbers_small c.args.mach.now c.args.free c.as_slice.result.now c.requires.numbers (c.as_slice.ensures.value ∙ c.in_ok-all.ensures)
