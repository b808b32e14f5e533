-- What a scan makes of a code.
use Rattle.std.proofs.Common.{◌≡◌, ◌+◌, List, [], ◌∷◌, ◌++◌, None, refl, arith}
use Rattle.comballoc_rules.specs.Combined.{open_past, scanned_at, scan_for_combining}
use Rattle.mach_ir.specs.Blocks.{total_block_bytes}
use Rattle.mach_ir.specs.declared.blocks.NewBlock.{NewBlock}
use Rattle.mach_ir.specs.declared.op.Access.TheVariants as access
use Rattle.mach_ir.specs.declared.op.Op.TheVariants as op
use Rattle.mach_ir.specs.declared.mach.MachOp.{MachOp}
use Rattle.mach_ir.specs.declared.mach.MachOp.TheVariants as mach
use Rattle.mach_ir.specs.declared.mach.Instr.{Instr}

pub bytes_append : (xs ys : List NewBlock) → total_block_bytes (xs ++ ys) ≡ total_block_bytes xs + total_block_bytes ys
bytes_append [] ys = omega arith
bytes_append (x ∷ xs) ys = let e = bytes_append xs ys in omega (arith, e)

-- where nothing is open, nothing goes to it
pub nothing_goes : (is : List Instr) → ((scan_for_combining None is).blocks ≡ []) × ((scan_for_combining None is).results ≡ [])
nothing_goes [] = (refl, refl)
nothing_goes (i ∷ is) = by i.op (nothing_goes is)
  where
    by : (f : MachOp) → ((scan_for_combining None is).blocks ≡ []) × ((scan_for_combining None is).results ≡ []) →
        ((scanned_at None i f (scan_for_combining (open_past None f) is)).blocks ≡ [])
        × ((scanned_at None i f (scan_for_combining (open_past None f) is)).results ≡ [])
    by (mach.Op (op.Pure f)) ih = ih
    by (mach.Op (op.Access (access.Load k offset))) ih = ih
    by (mach.Op (op.Access (access.Store k offset))) ih = ih
    by (mach.Op (op.Access (access.Alloc blocks))) ih = (refl, refl)
    by (mach.Op (op.Calling f)) ih = ih
    by (mach.Op (op.Leaving f)) ih = ih
    by (mach.Mark f) ih = ih
