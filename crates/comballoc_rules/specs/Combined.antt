-- Mach functions in which the allocations of each straight run are combined.
use Rattle.std.specs.Prelude.{ℕ, ◌+◌, Bool, true, false, cond, nat_le, List, [], ◌∷◌, ◌++◌, Option, Some, None}
use Rattle.mach_ir.specs.Blocks.{total_block_bytes}
use Rattle.mach_ir.specs.Forms.{reservation_most}
use Rattle.mach_ir.specs.declared.blocks.NewBlock.{NewBlock}
use Rattle.mach_ir.specs.declared.op.Access.TheVariants as access
use Rattle.mach_ir.specs.declared.op.Op.TheVariants as op
use Rattle.mach_ir.specs.declared.reg.Reg.{Reg}
use Rattle.mach_ir.specs.declared.mach.MachOp.{MachOp}
use Rattle.mach_ir.specs.declared.mach.MachOp.TheVariants as mach
use Rattle.mach_ir.specs.declared.mach.Instr.{Instr}
use Rattle.mach_ir.specs.declared.mach.Mach.{Mach}

-- ---- the open allocation
--
-- A scan of the code has an open allocation, known by its bytes, or none: the last one that stays in
-- the straight run so far, which later ones of the run may join.

-- whether an allocation of these blocks joins the open one
abbrev pub joins : Option ℕ → List NewBlock → Bool
joins None blocks = false
joins (Some bytes) blocks = nat_le (bytes + total_block_bytes blocks) reservation_most

-- the bytes of what is open after an allocation
abbrev pub bytes_past : Option ℕ → List NewBlock → ℕ
bytes_past None blocks = total_block_bytes blocks
bytes_past (Some bytes) blocks =
    cond (joins (Some bytes) blocks) (bytes + total_block_bytes blocks) (total_block_bytes blocks)

-- What is open after an instruction: none where it ends the straight run.
abbrev pub open_past : Option ℕ → MachOp → Option ℕ
open_past held (mach.Op (op.Pure f)) = held
open_past held (mach.Op (op.Access (access.Load k offset))) = held
open_past held (mach.Op (op.Access (access.Store k offset))) = held
open_past held (mach.Op (op.Access (access.Alloc blocks))) = Some (bytes_past held blocks)
open_past held (mach.Op (op.Calling f)) = None
open_past held (mach.Op (op.Leaving f)) = None
open_past held (mach.Mark f) = None

-- ---- the scan

-- What a scan makes of a code: the code that is left of it, and the blocks and results that go to the
-- allocation that was open before it.
pub record Scanned : Type 0 where
  pub code : List Instr
  pub blocks : List NewBlock
  pub results : List Reg

abbrev pub allocation : List NewBlock → List Reg → Instr
allocation blocks results =
    record { op = mach.Op (op.Access (access.Alloc blocks)); args = []; results = results }

-- An allocation that joins the open one goes from the code. Another stays, with what goes to it.
abbrev pub allocation_scanned : Bool → List NewBlock → List Reg → Scanned → Scanned
allocation_scanned true blocks results after =
    record {
      code = after.code;
      blocks = blocks ++ after.blocks;
      results = results ++ after.results;
    }
allocation_scanned false blocks results after =
    record {
      code = allocation (blocks ++ after.blocks) (results ++ after.results) ∷ after.code;
      blocks = [];
      results = [];
    }

-- an instruction of this operation, before what a scan makes of the code after it
abbrev pub scanned_at : Option ℕ → Instr → MachOp → Scanned → Scanned
scanned_at held i (mach.Op (op.Access (access.Alloc blocks))) after =
    allocation_scanned (joins held blocks) blocks i.results after
scanned_at held i f after = record after { code = i ∷ after.code }

abbrev pub scan_for_combining : Option ℕ → List Instr → Scanned
scan_for_combining held [] = record { code = []; blocks = []; results = [] }
scan_for_combining held (i ∷ is) = scanned_at held i i.op (scan_for_combining (open_past held i.op) is)

-- ---- combined allocation

-- An allocation that follows another in a straight run joins the first one, as long as all of them
-- together take no more than a reservation has. The blocks and results of the later one come after
-- those of the first.
abbrev pub combined : Mach → Mach
combined m = record m { code = (scan_for_combining None m.code).code }
