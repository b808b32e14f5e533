-- Slots, where operands are read and results are made, and copies.
--
-- Operands in slots are read into t1 and t2, and a result in a slot is made in t1. T0 keeps its
-- value over what reads registers alone, loads and stores.
--
-- So t1 and t2 alone are scratch where t0 may be live, and a far stack access sets its own scratch
-- register.
use Rattle.std.specs.Prelude.{ℕ, ◌+◌, ◌*◌, cond, nat_lt, List, [], ◌∷◌, ◌++◌}
use Rattle.bs_words.specs.declared.types.Loc.{Loc}
use Rattle.bs_words.specs.declared.types.Loc.TheVariants as loc
use Rattle.lin_ir.specs.Meaning.{same_loc}
use Rattle.lin_ir.specs.declared.lin.Spot.{Spot}
use Rattle.rv_isa.specs.declared.instr.LoadWidth.TheVariants as loads
use Rattle.rv_isa.specs.declared.instr.StoreWidth.TheVariants as stores
use Rattle.rv_isa.specs.declared.register.Register.{Register}
use Rattle.rv_isa.specs.declared.register.Register.TheVariants.{Zero, Sp, T1, T2}
use Rattle.rv_pieces.specs.declared.piece.Piece.{Piece}
use Rattle.rv_emit_rules.specs.Instructions.{lui, add, mv, load_piece, store_piece}
use Rattle.rv_isa.specs.Registers.{register_at}
use Rattle.rv_emit_rules.specs.Constants.{above_12}

-- ---- words of the stack, so many bytes from sp

-- an offset past 12 bits goes through the scratch register: its upper bits, and sp
abbrev pub far_stack : Register → ℕ → List Piece
far_stack scratch offset = lui scratch (above_12 offset) ∷ add scratch scratch Sp ∷ []

abbrev pub stack_load : (scratch to : Register) → ℕ → List Piece
stack_load scratch to offset =
    cond (nat_lt offset 2048) (load_piece loads.Ld to Sp offset ∷ [])
    (far_stack scratch offset ++ load_piece loads.Ld to scratch offset ∷ [])

abbrev pub stack_store : (scratch from : Register) → ℕ → List Piece
stack_store scratch from offset =
    cond (nat_lt offset 2048) (store_piece stores.Sd from Sp offset ∷ [])
    (far_stack scratch offset ++ store_piece stores.Sd from scratch offset ∷ [])

-- where a slot lies while so many traps are pushed
abbrev pub slot_offset : (traps slot : ℕ) → ℕ
slot_offset traps slot = 8 * slot + 16 * traps

-- ---- operands and results

abbrev pub first_location : List Spot → Loc
first_location [] = loc.Unset
first_location (s ∷ ss) = s.loc

abbrev pub second : List Spot → Loc
second [] = loc.Unset
second (s ∷ ss) = first_location ss

-- the register in which a location is read or written
abbrev pub register_of : (scratch : Register) → Loc → Register
register_of scratch (loc.Machine n) = register_at n
register_of scratch (loc.Slot k) = scratch
register_of scratch loc.Unset = Zero

-- what brings it there before it is read
abbrev pub fetch_pieces : (traps : ℕ) → (scratch : Register) → Loc → List Piece
fetch_pieces traps scratch (loc.Machine n) = []
fetch_pieces traps scratch (loc.Slot k) = stack_load scratch scratch (slot_offset traps k)
fetch_pieces traps scratch loc.Unset = []

-- the register in which a result is made
abbrev pub target : Loc → Register
target l = register_of T1 l

-- what takes the result from there to its location
abbrev pub keep_pieces : (traps : ℕ) → Loc → List Piece
keep_pieces traps (loc.Machine n) = []
keep_pieces traps (loc.Slot k) = stack_store T2 T1 (slot_offset traps k)
keep_pieces traps loc.Unset = []

-- ---- copies

abbrev pub copy_pieces : (traps : ℕ) → (from to : Loc) → List Piece
copy_pieces traps (loc.Slot j) to = stack_load T2 (target to) (slot_offset traps j) ++ keep_pieces traps to
copy_pieces traps (loc.Machine n) (loc.Slot k) =
    stack_store T2 (register_at n) (slot_offset traps k)
copy_pieces traps (loc.Machine n) (loc.Machine o) = mv (register_at o) (register_at n) ∷ []
copy_pieces traps (loc.Machine n) loc.Unset = []
copy_pieces traps loc.Unset to = []

-- a copy from a location to itself has no words
abbrev pub move_pieces : (traps : ℕ) → (from to : Loc) → List Piece
move_pieces traps from to = cond (same_loc from to) [] (copy_pieces traps from to)
