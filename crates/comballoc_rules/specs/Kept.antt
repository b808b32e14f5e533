-- What is kept of a function whose allocations are combined.
use Rattle.std.specs.Prelude.{◌≡◌, Bool, true, false, List, Contains}
use Rattle.bs_words.specs.declared.types.Comp.{Comp}
use Rattle.bs_words.specs.declared.types.Comp.TheVariants as comp
use Rattle.comballoc_rules.specs.Neighbours.{Allocates}
use Rattle.mach_ir.specs.Formed.{WellFormed}
use Rattle.mach_ir.specs.Placed.{AllocatesFresh}
use Rattle.mach_ir.specs.Walks.{IsRegister}
use Rattle.mach_ir.specs.declared.blocks.NewBlock.{NewBlock}
use Rattle.mach_ir.specs.declared.reg.Reg.{Reg}
use Rattle.mach_ir.specs.declared.mach.Instr.{Instr}
use Rattle.mach_ir.specs.declared.mach.Mach.{Mach}
use Rattle.mach_laws.specs.Passes.{IsPassKept, IsNoLarger}

-- what the start of a block fits
abbrev pub holds_block : Comp → Bool
holds_block comp.Val = true
holds_block comp.Addr = true
holds_block comp.Int = false
holds_block comp.Float = false

-- What combined allocation asks of a function: selection gives it.
pub record IsCombinable (m : Mach) : Type 0 where
  pub formed : WellFormed m
  pub allocates : AllocatesFresh m
  -- what an allocation writes can hold the start of a block
  pub starts : (i : Instr) (blocks : List NewBlock) → Contains m.code i → Allocates i blocks →
      (r : Reg) → Contains i.results r → holds_block r.comp ≡ true
  -- no register is made from another
  pub origins : (r : Reg) → IsRegister m r → r.origin ≡ r.number

-- what a function keeps whose allocations are combined
pub record IsCombineKept (m q : Mach) : Type 0 where
  pub pass : IsPassKept m q
  pub no_larger : IsNoLarger m q
