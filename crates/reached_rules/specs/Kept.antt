-- What is kept of a function of which the code goes that no walk reaches.
use Rattle.std.specs.Prelude.{◌≡◌, List, ◌∷◌}
use Rattle.mach_ir.specs.Keeps.{MachSimulation}
use Rattle.mach_ir.specs.Walks.{Reached, StandsAsInstr, IsRegister, NoAddrLive}
use Rattle.mach_ir.specs.declared.op.Op.{Op}
use Rattle.mach_ir.specs.declared.reg.Reg.{Reg}
use Rattle.mach_ir.specs.declared.mach.MachOp.TheVariants as mach
use Rattle.mach_ir.specs.declared.mach.Instr.{Instr}
use Rattle.mach_ir.specs.declared.mach.Mach.{Mach}

pub record IsTrimKept (m q : Mach) : Type 0 where
  -- it does what the first does, step for step
  pub does : MachSimulation m q
  -- no address is live after a frame point where none was
  pub addrs : NoAddrLive m → NoAddrLive q
  -- no register is new
  pub registers : (r : Reg) → IsRegister q r → IsRegister m r
  -- some walk reaches each operation
  pub reached : (i : Instr) (next : List Instr) (f : Op) → StandsAsInstr i next q.code →
      i.op ≡ mach.Op f → Reached q (i ∷ next)
