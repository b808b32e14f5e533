use Rattle.std.proofs.Common.{◌≡◌, ◌++◌, codes, drop}
use Rattle.mach_ir.specs.Text.{lines_text}
use Rattle.mach_ir.proofs.page.Page.put_lines.Given as goal

abbrev pub invariant-loop-instr : goal.invariant-loop-instr
invariant-loop-instr l =
    l.initial.self.bytes.items ++ lines_text (codes "  ") l.code
    ≡ l.self.bytes.items ++ lines_text l.indent.items (drop l.instr-index l.code)
