-- The instructions that emission makes, over registers. A number is in its field as the field's
-- low bits.
use Rattle.std.specs.Prelude.{ℕ, ◌%◌}
use Rattle.rv_isa.specs.Registers.{register_number}
use Rattle.rv_isa.specs.declared.register.Register.{Register}
use Rattle.rv_isa.specs.declared.register.Register.TheVariants.{Zero, Ra}
use Rattle.rv_isa.specs.declared.instr.AluImmOp.{AluImmOp}
use Rattle.rv_isa.specs.declared.instr.AluImmOp.TheVariants as imm
use Rattle.rv_isa.specs.declared.instr.AluOp.{AluOp}
use Rattle.rv_isa.specs.declared.instr.AluOp.TheVariants as alu
use Rattle.rv_isa.specs.declared.instr.Condition.{Condition}
use Rattle.rv_isa.specs.declared.instr.Instr.TheVariants as instr
use Rattle.rv_isa.specs.declared.instr.LoadWidth.{LoadWidth}
use Rattle.rv_isa.specs.declared.instr.ShiftOp.{ShiftOp}
use Rattle.rv_isa.specs.declared.instr.StoreWidth.{StoreWidth}
use Rattle.rv_pieces.specs.declared.piece.Piece.{Piece}
use Rattle.rv_pieces.specs.declared.piece.Piece.TheVariants as piece

abbrev pub low_12 : ℕ → ℕ
low_12 w = w % 4096

abbrev pub with_immediate : AluImmOp → Register → Register → ℕ → Piece
with_immediate f to from w =
    piece.Known (instr.OpImm f (register_number to) (register_number from) (low_12 w))

abbrev pub addi : Register → Register → ℕ → Piece
addi to from w = with_immediate imm.Addi to from w

-- the value of one register becomes that of another
abbrev pub mv : Register → Register → Piece
mv to from = addi to from 0

abbrev pub alu_operation : AluOp → Register → Register → Register → Piece
alu_operation f to a b = piece.Known (instr.Op f (register_number to) (register_number a) (register_number b))

abbrev pub add : Register → Register → Register → Piece
add to a b = alu_operation alu.Add to a b

abbrev pub shift_piece : ShiftOp → Register → Register → ℕ → Piece
shift_piece f to from amount = piece.Known (instr.Shift f (register_number to) (register_number from) (amount % 64))

-- the upper bits, as the field has them
abbrev pub lui : Register → ℕ → Piece
lui to upper = piece.Known (instr.Lui (register_number to) (upper % 1048576))

abbrev pub addiw : Register → Register → ℕ → Piece
addiw to from w = piece.Known (instr.Addiw (register_number to) (register_number from) (low_12 w))

-- the address of the instruction itself
abbrev pub auipc : Register → Piece
auipc to = piece.Known (instr.Auipc (register_number to) 0)

-- from so many bytes after an address
abbrev pub load_piece : LoadWidth → Register → Register → ℕ → Piece
load_piece k to address offset =
    piece.Known (instr.Load k (register_number to) (register_number address) (low_12 offset))

-- of a register, to so many bytes after an address
abbrev pub store_piece : StoreWidth → Register → Register → ℕ → Piece
store_piece k from address offset =
    piece.Known (instr.Store k (register_number address) (register_number from) (low_12 offset))

-- over so many instructions after it where the condition holds
abbrev pub skip : Condition → Register → Register → ℕ → Piece
skip f a b bytes = piece.Known (instr.Branch f (register_number a) (register_number b) (bytes % 8192))

-- to the address in a register and so many bytes after it, with no return address
abbrev pub goes_to_address : Register → ℕ → Piece
goes_to_address address offset =
    piece.Known (instr.Jalr (register_number Zero) (register_number address) (low_12 offset))

-- to the address in a register, with the return address in ra
abbrev pub calls_at : Register → Piece
calls_at address = piece.Known (instr.Jalr (register_number Ra) (register_number address) 0)

abbrev pub ecall : Piece
ecall = piece.Known instr.Ecall
