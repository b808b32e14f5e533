use Rattle.std.proofs.Common.{◌≡◌, ◌++◌, false, drop}
use Rattle.lin_ir.specs.Text.{labels_text}
use Rattle.lin_ir.proofs.lines.put_more_labels.Given as goal

abbrev pub invariant-loop-label : goal.invariant-loop-label
invariant-loop-label l =
    l.initial.page.bytes.items ++ labels_text false l.labels ≡ l.page.bytes.items ++ labels_text false (drop l.label-index l.labels)
