use Rattle.std.proofs.Common.{length}
use Rattle.split.specs.Names.{naming}
use Rattle.split.proofs.Renaming.{Renaming}
use Rattle.split.proofs.rename.rename_code.Given as goal

abbrev pub invariant-loop-instr : goal.invariant-loop-instr
invariant-loop-instr l = Renaming (naming l.tables l.end) l.fn.code l.items.items l.renamed l.left

abbrev pub decreases-loop-instr : goal.decreases-loop-instr
decreases-loop-instr l = length l.items.items
