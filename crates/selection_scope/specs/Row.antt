-- Registers in a row.
use Rattle.std.specs.Prelude.{List, map}
use Rattle.mach_ir.specs.declared.reg.Reg.{Reg}
use Rattle.selection_scope.specs.declared.row.InRow.{InRow}

abbrev pub regs_in : List InRow → List Reg
regs_in row = map (λ (r : InRow). r.reg) row
