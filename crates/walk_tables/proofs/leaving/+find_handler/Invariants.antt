use Rattle.std.proofs.Common.{length}
use Rattle.walk_tables.proofs.leaving.+find_handler.Given as goal

abbrev pub decreases-find_handler : goal.decreases-find_handler
decreases-find_handler l = length l.handlers.now
