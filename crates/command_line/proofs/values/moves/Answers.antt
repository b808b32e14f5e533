use Rattle.std.proofs.Common.{rules}
use Rattle.command_line.proofs.Unique.{seeded_or_none}
use Rattle.command_line.proofs.values.moves.Goals as goal

pub returns-else-eq-2 : goal.returns-else-eq-2
returns-else-eq-2 c = seeded_or_none c.args.text.now c.seeded.result (search rules) (search rules) c.seeded.ensures
