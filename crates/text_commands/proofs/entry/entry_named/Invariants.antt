use Rattle.std.proofs.Common.{drop, map}
use Rattle.cmm_tree.specs.Tree.{functions}
use Rattle.cmm_tree.specs.View.{item_view, file_view}
use Rattle.text_commands.proofs.Entries.{Passed}
use Rattle.text_commands.proofs.entry.entry_named.Given as goal

abbrev pub invariant-loop-item : goal.invariant-loop-item
invariant-loop-item l = Passed l.name (functions (file_view l.file)) l.number (map item_view (drop l.item-index l.item-items))
