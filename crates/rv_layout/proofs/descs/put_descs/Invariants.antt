use Rattle.std.proofs.Common.{◌≡◌, ◌+◌, ◌++◌, map, drop}
use Rattle.image_form.specs.Tables.{desc}
use Rattle.rv_layout_rules.specs.Forms.{total_words}
use Rattle.rv_layout_rules.specs.Laid.{descs_in}
use Rattle.rv_layout.proofs.descs.put_descs.Given as goal

abbrev pub invariant-loop-index : goal.invariant-loop-index
invariant-loop-index l = record {
  place : l.at + total_words (drop l.index l.code) (drop l.index l.forms) ≡ l.from + total_words l.code l.forms;
  rows : map desc l.rows.items ++ descs_in l.at (drop l.index l.code) (drop l.index l.forms) ≡ map desc l.fn.rows.items ++ descs_in l.from l.code l.forms;
}
