use Rattle.command_line.specs.View.{texts}
use Rattle.command_line.proofs.Unique.{only_of, limits_of}
use Rattle.command_line.proofs.read.read_words.Goals as goal

pub returns-clause-only : goal.returns-clause-only
returns-clause-only c = only_of (texts c.args.words.now) c.taken.result c.taken.ensures.command

pub returns-clause-limits : goal.returns-clause-limits
returns-clause-limits c = limits_of (texts c.args.words.now) c.taken.result c.taken.ensures.command
