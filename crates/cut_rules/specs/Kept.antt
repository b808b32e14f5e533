-- What is kept of a function whose straight runs are cut.
use Rattle.mach_ir.specs.Keeps.{MachSimulation}
use Rattle.mach_ir.specs.Walks.{IsRegister, NoAddrLive}
use Rattle.mach_ir.specs.declared.reg.Reg.{Reg}
use Rattle.mach_ir.specs.declared.mach.Mach.{Mach}

pub record IsCutKept (m q : Mach) : Type 0 where
  -- it does what the first does, for as many units
  pub does : MachSimulation m q
  -- no address is live after a frame point where none was
  pub addrs : NoAddrLive m → NoAddrLive q
  -- no register is new
  pub registers : (r : Reg) → IsRegister q r → IsRegister m r
