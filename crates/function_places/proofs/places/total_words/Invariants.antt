use Rattle.std.proofs.Common.{◌≡◌, ◌+◌, ◌*◌, ◌≤◌, drop}
use Rattle.rv_layout_rules.specs.Forms.{total_words}
use Rattle.function_places.proofs.places.total_words.Given as goal

abbrev pub invariant-loop-index : goal.invariant-loop-index
invariant-loop-index l = record {
  most : l.words ≤ 3 * l.index;
  exact : l.words + total_words (drop l.index l.code) (drop l.index l.forms) ≡ total_words l.code l.forms;
}
