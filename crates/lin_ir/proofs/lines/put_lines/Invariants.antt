use Rattle.std.proofs.Common.{◌≡◌, ◌++◌, drop}
use Rattle.lin_ir.specs.Text.{lines_text}
use Rattle.lin_ir.proofs.lines.put_lines.Given as goal

abbrev pub invariant-loop-line : goal.invariant-loop-line
invariant-loop-line l =
    l.initial.page.bytes.items ++ lines_text l.code ≡ l.page.bytes.items ++ lines_text (drop l.line-index l.code)
