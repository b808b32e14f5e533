use Rattle.std.proofs.Common.{◌≡◌, ◌+◌, ◌*◌, ◌%◌, ◌++◌, drop}
use Rattle.std.specs.List.{AllByRecursion}
use Rattle.rv_layout_rules.specs.Conditions.{AllLead}
use Rattle.rv_pieces.specs.Named.{PieceFits}
use Rattle.rv_layout_rules.specs.Forms.{total_words}
use Rattle.rv_layout_rules.specs.Words.{words_to}
use Rattle.rv_layout.proofs.words.put_words.Given as goal

abbrev pub invariant-loop-index : goal.invariant-loop-index
invariant-loop-index l = record {
  place : l.at + 4 * total_words (drop l.index l.code) (drop l.index l.forms) ≡ l.from + 4 * total_words l.code l.forms;
  aligned : l.at % 4 ≡ 0;
  fits : AllByRecursion PieceFits (drop l.index l.code);
  leads : AllLead (drop l.index l.targets) (drop l.index l.code);
  words : l.words.items ++ words_to l.at (drop l.index l.targets) (drop l.index l.code) (drop l.index l.forms) ≡ l.fn.words.items ++ words_to l.from l.targets l.code l.forms;
}
