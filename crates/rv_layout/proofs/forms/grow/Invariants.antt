use Rattle.std.proofs.Common.{◌≡◌, ◌*◌, ◌≤◌, ◌++◌, drop}
use Rattle.rv_layout_rules.specs.Forms.{ranks, none_far, grown_from}
use Rattle.rv_layout.specs.Tables.{words_of_labels}
use Rattle.rv_layout.proofs.forms.grow.Given as goal

abbrev pub invariant-loop-index : goal.invariant-loop-index
invariant-loop-index l = record {
  most : l.at ≤ 3 * l.index;
  few : l.sum ≤ 2 * l.index;
  ranks : l.sum ≡ ranks l.next.items;
  grown : l.next.items ++ grown_from none_far (words_of_labels l.labels) l.at (drop l.index l.code) (drop l.index l.forms) ≡ grown_from none_far (words_of_labels l.labels) 0 l.code l.forms;
}
