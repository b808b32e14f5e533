-- The constants of an instruction that has a form are words.
use Rattle.std.proofs.Common.{◌≡◌, ℕ, suc, ◌<◌, ◌^◌, ◌/◌, true, List, [], ◌∷◌, All, arith}
use Rattle.std.specs.Prelude.{◌==◌, nat_le}
use Rattle.std.proofs.lemmas.Bool.{leb-true, eqb-true, and_parts}
use Rattle.bs_words.specs.declared.operators.IntOp.{IntOp}
use Rattle.bs_words.specs.declared.types.Comp.{Comp}
use Rattle.cmm_types.specs.Faults.{is_header}
use Rattle.mach_ir.specs.Formed.{IsFormedInstruction, formed_op, formed_mark}
use Rattle.mach_ir.specs.Forms.{IsRight, a_register, a_constant, IsBlock, HasForm, copies, constant, symbol, operates, loads, stores, allocates, calls, tail_calls, calls_out, checks, raises, returns}
use Rattle.mach_ir.specs.declared.blocks.NewBlock.{NewBlock}
use Rattle.mach_ir.specs.declared.mach.Instr.{Instr}
use Rattle.mach_ir.specs.declared.mach.MachOp.TheVariants as mach
use Rattle.mach_ir.specs.declared.op.Op.{Op}
use Rattle.mach_ir.specs.declared.op.Op.TheVariants as op
use Rattle.mach_ir.specs.declared.op.Pure.TheVariants as pure
use Rattle.mach_ir.specs.declared.op.Right.{Right}
use Rattle.mach_ir.proofs.Immediates.{immediate_word}
use Rattle.selection_rules.specs.Bounded.{BoundedHeaders, BoundedOp}

header_word : (h cells : ℕ) → is_header h cells ≡ true → h < 2 ^ 64
header_word h cells e =
    let same : h / 1024 ≡ cells = eqb-true (h / 1024) cells (and_parts (h / 1024 == cells) _ e).0 in
    let few = leb-true cells 256 (and_parts (nat_le cells 256) _ (and_parts (nat_le 1 cells) _ (and_parts (h / 1024 == cells) _ e).1).1).0 in
    omega (arith, same, few)

headers_bounded : (blocks : List NewBlock) → All IsBlock blocks → BoundedHeaders blocks
headers_bounded [] all = tt
headers_bounded (b ∷ blocks) all =
    (header_word b.header b.cells (all 0 b (omega arith)), headers_bounded blocks (λ i d less. all (suc i) d (omega (arith, less))))

right_bounded : (f : IntOp) {r : Right} {rest : List Comp} → IsRight f r rest → BoundedOp (mach.Op (op.Pure (pure.Operator f r)))
right_bounded f a_register = tt
right_bounded f (a_constant {w = w} e) = immediate_word f w e

op_bounded : {f : Op} {args results : List Comp} → HasForm f args results → BoundedOp (mach.Op f)
op_bounded copies = tt
op_bounded (constant less) = less
op_bounded symbol = tt
op_bounded (operates {f = f} is) = right_bounded f is
op_bounded loads = tt
op_bounded stores = tt
op_bounded (allocates {blocks = blocks} some all most same) = headers_bounded blocks all
op_bounded (calls arguments whom) = tt
op_bounded (tail_calls arguments whom) = tt
op_bounded calls_out = tt
op_bounded (checks is) = tt
op_bounded raises = tt
op_bounded (returns result) = tt

pub formed_bounded : {i : Instr} → IsFormedInstruction i → BoundedOp i.op
formed_bounded (formed_op form) = op_bounded form
formed_bounded (formed_mark form) = tt
