use Rattle.std.proofs.Common.{◌≡◌, ◌++◌, false, drop}
use Rattle.mach_ir.specs.Text.{numbers_text}
use Rattle.mach_ir.proofs.page.Page.put_more_numbers.Given as goal

abbrev pub invariant-loop-number : goal.invariant-loop-number
invariant-loop-number l =
    l.initial.self.bytes.items ++ numbers_text false l.numbers ≡ l.self.bytes.items ++ numbers_text false (drop l.number-index l.numbers)
