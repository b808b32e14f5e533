-- The pieces of one function, written out: two blocks in one allocation, a call, and the return.
use Rattle.std.proofs.Common.{◌≡◌, [], ◌∷◌, refl}
use Rattle.std.specs.Prelude.{codes}
use Rattle.bs_words.specs.declared.types.Comp.TheVariants as comp
use Rattle.bs_words.specs.declared.types.Loc.TheVariants as loc
use Rattle.bs_words.specs.declared.types.Ret.TheVariants as ret
use Rattle.mach_ir.specs.declared.op.Access.TheVariants as access
use Rattle.mach_ir.specs.declared.op.Callee.TheVariants as callee
use Rattle.mach_ir.specs.declared.op.Calling.TheVariants as calling
use Rattle.mach_ir.specs.declared.op.Leaving.TheVariants as leaving
use Rattle.mach_ir.specs.declared.op.Op.TheVariants as op
use Rattle.lin_ir.specs.declared.descr.Descr.{Descr}
use Rattle.lin_ir.specs.declared.lin.Line.{Line}
use Rattle.lin_ir.specs.declared.lin.LinOp.TheVariants as lin
use Rattle.lin_ir.specs.declared.lin.Lin.{Lin}
use Rattle.rv_isa.specs.declared.instr.AluImmOp.TheVariants as imm
use Rattle.rv_isa.specs.declared.instr.Condition.TheVariants as condition
use Rattle.rv_isa.specs.declared.instr.Instr.TheVariants as instr
use Rattle.rv_isa.specs.declared.instr.LoadWidth.TheVariants as loads
use Rattle.rv_isa.specs.declared.instr.StoreWidth.TheVariants as stores
use Rattle.rv_pieces.specs.declared.piece.Piece.TheVariants as piece
use Rattle.rv_emit_rules.specs.Constants.{constant_pieces}
use Rattle.rv_emit_rules.specs.Emitted.{emitted}

allocates : Line
allocates = record {
  op = lin.Op (op.Access (access.Alloc (record { header = 2048; cells = 2 } ∷ record { header = 1024; cells = 1 } ∷ [])));
  args = [];
  results = record { loc = loc.Machine 10; comp = comp.Val } ∷ record { loc = loc.Slot 0; comp = comp.Val } ∷ [];
}

calls : Line
calls = record { op = lin.Op (op.Calling (calling.Call (callee.Symbol (codes "f")) ret.Unit)); args = []; results = [] }

returns : Line
returns = record { op = lin.Op (op.Leaving leaving.Return); args = []; results = [] }

pub two_blocks : Lin
two_blocks = record { name = codes "g"; params = []; result = ret.Unit; slots = 1; code = allocates ∷ calls ∷ returns ∷ [] }

pub at_first : Descr
at_first = record { after = 0; size = 16; entries = [] }

pub at_second : Descr
at_second = record { after = 1; size = 16; entries = [] }

pub two_blocks_emitted : emitted two_blocks (λ left. 0) (at_first ∷ at_second ∷ []) ≡ record {
  frame = 16;
  code =
      -- addi sp, sp, -16; sd ra, 8(sp)
      piece.Known (instr.OpImm imm.Addi 2 2 4080) ∷ piece.Known (instr.Store stores.Sd 2 1 8)
      -- addi s10, s10, -40; ld t1, 0(s11); bgeu s10, t1, +16; addi t0, x0, 40; addi t2, x0, 3; ecall
      ∷ piece.Known (instr.OpImm imm.Addi 26 26 4056) ∷ piece.Known (instr.Load loads.Ld 6 27 0) ∷ piece.Known (instr.Branch condition.Bgeu 26 6 16)
      ∷ piece.Known (instr.OpImm imm.Addi 5 0 40) ∷ piece.Known (instr.OpImm imm.Addi 7 0 3) ∷ piece.Known instr.Ecall ∷ piece.Descriptor at_first
      -- addi t1, s10, 8; sd t1, 0(sp); addi a0, s10, 24
      ∷ piece.Known (instr.OpImm imm.Addi 6 26 8) ∷ piece.Known (instr.Store stores.Sd 2 6 0) ∷ piece.Known (instr.OpImm imm.Addi 10 26 24)
      ∷ piece.Call (codes "f") ∷ piece.Descriptor at_second
      -- ld ra, 8(sp); addi sp, sp, 16; jalr x0, 0(ra)
      ∷ piece.Known (instr.Load loads.Ld 1 2 8) ∷ piece.Known (instr.OpImm imm.Addi 2 2 16) ∷ piece.Known (instr.Jalr 0 1 0) ∷ [];
}
unfolding two_blocks allocates calls returns constant_pieces
two_blocks_emitted = refl
