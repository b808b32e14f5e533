use Rattle.cmm_data.specs.Symbols.{value_in}
use Rattle.text_commands.proofs.Words.{SoFar}
use Rattle.text_commands.proofs.arguments.words_of.Given as goal

abbrev pub invariant-loop-arg : goal.invariant-loop-arg
invariant-loop-arg l = SoFar (value_in l.table) l.arg-items l.arg-index l.words.items
