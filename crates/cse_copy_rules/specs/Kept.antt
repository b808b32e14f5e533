-- What is kept of a function in which operands are read from what they are copies of.
use Rattle.mach_ir.specs.declared.mach.Mach.{Mach}
use Rattle.mach_laws.specs.Passes.{IsPassKept, IsNoLarger}

pub record IsCopyKept (p q : Mach) : Type 0 where
  pub pass : IsPassKept p q
  pub no_larger : IsNoLarger p q
