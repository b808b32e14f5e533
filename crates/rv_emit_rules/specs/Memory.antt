-- Loads, stores and allocations.
--
-- The bytes of an allocation are made twice, taken off s10 and put into t0, so that the way that does not
-- ask is short.
use Rattle.std.specs.Prelude.{ℕ, ◌+◌, ◌*◌, cond, List, [], ◌∷◌, ◌++◌, length}
use Rattle.bs_words.specs.declared.types.Chunk.{Chunk}
use Rattle.bs_words.specs.declared.types.Chunk.TheVariants as chunk
use Rattle.mach_ir.specs.Blocks.{total_block_bytes}
use Rattle.mach_ir.specs.Forms.{is_immediate_12}
use Rattle.mach_ir.specs.declared.blocks.NewBlock.{NewBlock}
use Rattle.lin_ir.specs.declared.lin.Spot.{Spot}
use Rattle.rv_isa.specs.declared.instr.Condition.TheVariants as condition
use Rattle.rv_isa.specs.declared.instr.LoadWidth.{LoadWidth}
use Rattle.rv_isa.specs.declared.instr.LoadWidth.TheVariants as loads
use Rattle.rv_isa.specs.declared.instr.StoreWidth.{StoreWidth}
use Rattle.rv_isa.specs.declared.instr.StoreWidth.TheVariants as stores
use Rattle.rv_isa.specs.declared.register.Register.{Register}
use Rattle.rv_isa.specs.declared.register.Register.TheVariants.{T0, T1, T2, S10, S11}
use Rattle.rv_pieces.specs.declared.piece.Piece.{Piece}
use Rattle.rv_emit_rules.specs.Instructions.{add, load_piece, store_piece, skip, ecall}
use Rattle.rv_emit_rules.specs.Constants.{constant_pieces, sum_to, bytes_taken_off}
use Rattle.rv_emit_rules.specs.Slots.{first_location, second, register_of, fetch_pieces, target, keep_pieces}

-- ---- addresses with an offset, a word that wraps

-- an offset past 12 bits is added first, into t1
abbrev pub address_words : (base : Register) → (offset : ℕ) → List Piece
address_words base offset =
    cond (is_immediate_12 offset) [] (constant_pieces T2 offset ++ add T1 base T2 ∷ [])

abbrev pub address_register : (base : Register) → (offset : ℕ) → Register
address_register base offset = cond (is_immediate_12 offset) base T1

abbrev pub address_offset : ℕ → ℕ
address_offset offset = cond (is_immediate_12 offset) offset 0

-- ---- loads

abbrev pub load_width : Chunk → LoadWidth
load_width chunk.U8 = loads.Lbu
load_width chunk.I8 = loads.Lb
load_width chunk.U16 = loads.Lhu
load_width chunk.I16 = loads.Lh
load_width chunk.U32 = loads.Lwu
load_width chunk.I32 = loads.Lw
load_width chunk.Int = loads.Ld
load_width chunk.Val = loads.Ld

abbrev pub load_from : Chunk → (offset : ℕ) → (base to : Register) → List Piece
load_from k offset base to =
    address_words base offset
    ++ load_piece (load_width k) to (address_register base offset) (address_offset offset) ∷ []

abbrev pub load_part : (traps : ℕ) → Chunk → (offset : ℕ) → (args results : List Spot) → List Piece
load_part traps k offset args results =
    fetch_pieces traps T1 (first_location args)
    ++ load_from k offset (register_of T1 (first_location args)) (target (first_location results))
    ++ keep_pieces traps (first_location results)

-- ---- stores

abbrev pub store_width : Chunk → StoreWidth
store_width chunk.U8 = stores.Sb
store_width chunk.I8 = stores.Sb
store_width chunk.U16 = stores.Sh
store_width chunk.I16 = stores.Sh
store_width chunk.U32 = stores.Sw
store_width chunk.I32 = stores.Sw
store_width chunk.Int = stores.Sd
store_width chunk.Val = stores.Sd

-- the address is whole before the value is read into t2
abbrev pub store_part : (traps : ℕ) → Chunk → (offset : ℕ) → (args : List Spot) → List Piece
store_part traps k offset args =
    fetch_pieces traps T1 (first_location args)
    ++ address_words (register_of T1 (first_location args)) offset
    ++ fetch_pieces traps T2 (second args)
    ++ store_piece (store_width k) (register_of T2 (second args))
    (address_register (register_of T1 (first_location args)) offset) (address_offset offset)
    ∷ []

-- ---- allocations

-- the number of the allocation service
abbrev pub allocation_service : ℕ
allocation_service = 3

abbrev pub ask : (bytes : ℕ) → List Piece
ask bytes = constant_pieces T0 bytes ++ constant_pieces T2 allocation_service ++ ecall ∷ []

-- The bytes are taken off s10, and the service is asked only where s10 is then below the limit
-- word.
abbrev pub reserved : (bytes : ℕ) → List Piece
reserved bytes =
    bytes_taken_off T1 S10 bytes
    ++ load_piece loads.Ld T1 S11 0 ∷ skip condition.Bgeu S10 T1 (4 * (1 + length (ask bytes)))
    ∷ ask bytes

-- Each block lies above those after it, and its address is that of the cell after its header. The
-- first result is written last, so that it stays where two are written to one location.
abbrev pub addresses : (traps : ℕ) → List NewBlock → List Spot → List Piece
addresses traps (b ∷ blocks) (s ∷ results) =
    addresses traps blocks results
    ++ sum_to T1 (target s.loc) S10 (total_block_bytes blocks + 8) ++ keep_pieces traps s.loc
addresses traps _ _ = []

-- what is at the return address, its descriptor, comes between
abbrev pub alloc_part : (traps : ℕ) → (mark : List Piece) → List NewBlock → List Spot → List Piece
alloc_part traps mark blocks results =
    reserved (total_block_bytes blocks) ++ mark ++ addresses traps blocks results
