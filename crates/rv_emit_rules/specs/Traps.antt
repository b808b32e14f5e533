-- Traps, raises and bound tests.
--
-- A trap is 16 bytes of the stack: the address of its handler, and the trap pointer as it was
-- before. S1 points at the innermost one.
use Rattle.std.specs.Prelude.{ℕ, ◌+◌, ◌*◌, ◌/◌, List, [], ◌∷◌, ◌++◌, length}
use Rattle.bs_words.specs.Fits.{data_start}
use Rattle.bs_words.specs.declared.types.Loc.TheVariants as loc
use Rattle.mach_ir.specs.declared.op.Right.{Right}
use Rattle.lin_ir.specs.declared.lin.Spot.{Spot}
use Rattle.rv_isa.specs.Registers.{a0}
use Rattle.rv_isa.specs.declared.instr.Condition.TheVariants as condition
use Rattle.rv_isa.specs.declared.instr.LoadWidth.TheVariants as loads
use Rattle.rv_isa.specs.declared.instr.StoreWidth.TheVariants as stores
use Rattle.rv_isa.specs.declared.register.Register.TheVariants.{Sp, T1, S1, A0}
use Rattle.rv_pieces.specs.declared.piece.Piece.{Piece}
use Rattle.rv_pieces.specs.declared.piece.Piece.TheVariants as piece
use Rattle.rv_emit_rules.specs.Instructions.{addi, mv, lui, load_piece, store_piece, skip, goes_to_address}
use Rattle.rv_emit_rules.specs.Slots.{first_location, register_of, fetch_pieces, move_pieces}
use Rattle.rv_emit_rules.specs.Tests.{right_register, right_words}

-- to the handler of the innermost trap, which is popped, with the raised value in a0
abbrev pub raise_words : List Piece
raise_words =
    mv Sp S1 ∷ load_piece loads.Ld T1 Sp 0 ∷ load_piece loads.Ld S1 Sp 8 ∷ addi Sp Sp 16 ∷ goes_to_address T1 0 ∷ []

abbrev pub push_part : (label : ℕ) → List Piece
push_part label =
    piece.LabelAddress T1 label ∷ addi Sp Sp 0xFFFFFFFFFFFFFFF0 ∷ store_piece stores.Sd T1 Sp 0
    ∷ store_piece stores.Sd S1 Sp 8 ∷ mv S1 Sp ∷ []

abbrev pub pop_part : List Piece
pop_part = load_piece loads.Ld S1 Sp 8 ∷ addi Sp Sp 16 ∷ []

-- a handler is entered with the raised value in a0, and with sp and s1 as they are to be
abbrev pub enter_part : (traps : ℕ) → List Spot → List Piece
enter_part traps results = move_pieces traps (loc.Machine a0) (first_location results)

-- caml_bound_error is the first symbol of the data
abbrev pub raise_bound_error : List Piece
raise_bound_error = lui A0 (data_start / 4096) ∷ raise_words

-- the first operand is the bound, the right one the index, both unsigned
abbrev pub check_part : (traps : ℕ) → Right → List Spot → List Piece
check_part traps r args =
    fetch_pieces traps T1 (first_location args) ++ right_words traps r args
    ++ skip condition.Bltu (right_register r args) (register_of T1 (first_location args))
    (4 * (1 + length raise_bound_error))
    ∷ raise_bound_error
