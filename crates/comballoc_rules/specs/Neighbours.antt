-- Allocations that follow each other in a straight run.
use Rattle.std.specs.Prelude.{◌≡◌, Bool, true, false, List, [], ◌∷◌, ◌++◌, All}
use Rattle.mach_ir.specs.Placed.{IsStraightRun}
use Rattle.mach_ir.specs.declared.blocks.NewBlock.{NewBlock}
use Rattle.mach_ir.specs.declared.op.Access.TheVariants as access
use Rattle.mach_ir.specs.declared.op.Op.TheVariants as op
use Rattle.mach_ir.specs.declared.mach.MachOp.{MachOp}
use Rattle.mach_ir.specs.declared.mach.MachOp.TheVariants as mach
use Rattle.mach_ir.specs.declared.mach.Instr.{Instr}
use Rattle.mach_ir.specs.declared.mach.Mach.{Mach}

abbrev pub is_allocation : MachOp → Bool
is_allocation (mach.Op (op.Access (access.Alloc blocks))) = true
is_allocation _ = false

abbrev pub Allocates : Instr → List NewBlock → Type 0
Allocates i blocks = i.op ≡ mach.Op (op.Access (access.Alloc blocks))

-- Two allocations of one straight run, with these blocks, and none between them.
pub record AreNeighbours (m : Mach) (blocks others : List NewBlock) : Type 0 where
  pub one : Instr
  pub between : List Instr
  pub two : Instr
  pub one_allocates : Allocates one blocks
  pub two_allocates : Allocates two others
  pub none : All (λ (i : Instr). is_allocation i.op ≡ false) between
  pub run : IsStraightRun m (one ∷ between ++ two ∷ [])
