use Rattle.file_compile.proofs.Listed.{AreListed}
use Rattle.file_compile.proofs.files.functions_of.Given as goal

abbrev pub invariant-loop-item : goal.invariant-loop-item
invariant-loop-item l = AreListed l.items l.item-index l.functions.items
