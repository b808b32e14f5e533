-- The numbers of calls, and their code after that of their operands.
use Rattle.std.specs.Prelude.{ℕ, ◌+◌, List}
use Rattle.cmm_tree.specs.Tree.{Expressions}
use Rattle.mach_ir.specs.declared.mach.Instr.{Instr}
use Rattle.mach_ir.specs.declared.reg.Reg.{Reg}
use Rattle.selection_rules.specs.Select.{moves_all, regs_of, seats}
use Rattle.selection_scope.specs.Scoping.{LexicalScope}
use Rattle.selection_operands.specs.declared.leaving.CallNumbers.{CallNumbers}

-- the numbers of a call with so many arguments, from the first on
abbrev pub call_numbers : ℕ → ℕ → CallNumbers
call_numbers row count = record { row = row; seated = row + count; given = row + count + count; base = row + count + count + 1 }

-- the arguments go to their seats, and then the call is made
abbrev pub seated_code : LexicalScope → CallNumbers → Expressions → (List Reg → List Instr) → List Instr
seated_code scope numbers arguments call =
    let regs = regs_of scope.names numbers.row arguments in
    let args = seats 0 numbers.seated regs in
    moves_all regs args (call args)
