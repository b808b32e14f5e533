-- One instruction of the hart.
use Rattle.std.specs.Prelude.{ℕ, zero, suc, ◌+◌, ◌-◌, ◌/◌, ◌%◌, cond, ◌&&◌, ◌==◌, nat_lt, nat_le, List, ◌∷◌, Option, Some, None, slice_get, slice_index, slice_set}
use Rattle.bs_words.specs.Word.{add_word, sext_word}
use Rattle.image_form.specs.Tables.{Tables}
use Rattle.rv_isa.specs.Decoding.{decoded}
use Rattle.rv_isa.specs.Registers.{sp}
use Rattle.rv_isa.specs.declared.instr.Instr.{Instr}
use Rattle.rv_isa.specs.declared.instr.Instr.TheVariants.{Lui, Auipc, Jal, Jalr, Branch, Load, Store, OpImm, Shift, Op, Addiw, ShiftWord, OpWord, Ecall}
use Rattle.rv_isa.specs.declared.instr.LoadWidth.{LoadWidth}
use Rattle.rv_isa.specs.declared.instr.LoadWidth.TheVariants.{Lb, Lh, Lw, Ld, Lbu, Lhu, Lwu}
use Rattle.rv_isa.specs.declared.instr.StoreWidth.{StoreWidth}
use Rattle.rv_isa.specs.declared.instr.StoreWidth.TheVariants.{Sb, Sh, Sw, Sd}
use Rattle.rv_machine.specs.Arithmetic.{imm_i, imm_b, imm_j, imm_u, alu, alu_imm, alu_word, shift, shift_word, sign_extended, is_taken}
use Rattle.rv_machine.specs.Memory.{Region, loaded_number, stored_number, code_region, code_start}
use Rattle.rv_machine.specs.declared.cause.Cause.{Cause}
use Rattle.rv_machine.specs.declared.cause.Cause.TheVariants.{BadFetch, BadWord, BadAccess}

-- Where a block of the heap lies: the address of its first cell, 8 bytes after its header, and the
-- number of its cells.
pub record Placed : Type 0 where
  pub start : ℕ
  pub words : ℕ

-- The state of the machine.
pub record Hart : Type 0 where
  pub image : Tables
  -- x0 to x31
  pub registers : List ℕ
  pub pc : ℕ
  -- the regions that may be written: data, domain page, the halves of the heap, young area, stack
  pub memory : List Region
  -- the lowest address that the stack pointer may have
  pub stack_base : ℕ
  -- the bytes of each half of the heap
  pub heap : ℕ
  -- the blocks by serial
  pub blocks : List Placed
  -- instructions that have retired
  pub retired : ℕ
  -- allocation services and frame calls that came to moving blocks
  pub services : ℕ

-- What comes of an instruction.
pub data Next : Type 0 where
  Retired : (h : Hart) → Next
  -- an ECALL, before its service
  Service : (h : Hart) → Next
  StackOut : Next
  Stopped : (cause : Cause) → Next

-- ---- registers and jumps

-- x0 reads 0
abbrev pub register : Hart → ℕ → ℕ
register h zero = 0
register h (suc r) = slice_index h.registers (suc r)

-- x0 takes nothing
abbrev pub with_register : ℕ → ℕ → List ℕ → List ℕ
with_register zero value registers = registers
with_register (suc r) value registers = slice_set registers (suc r) value

-- the instruction has retired, and the next one is at this address
abbrev pub goes_to : ℕ → Hart → Next
goes_to address h = Retired (record h { pc = address; retired = suc h.retired })

-- the ECALL has retired
abbrev pub past_ecall : Hart → Hart
past_ecall h = record h { pc = h.pc + 4; retired = suc h.retired }

-- register rd is set and the next instruction is at this address; the run is out of stack where x2 comes
-- below the stack's base
abbrev pub sets : ℕ → ℕ → ℕ → Hart → Next
sets rd value address h =
    cond ((rd == sp) && nat_lt value h.stack_base) StackOut
    (goes_to address (record h { registers = with_register rd value h.registers }))

-- a taken target is a multiple of 4; else the machine stops at the jump
abbrev pub jumps_if_aligned : ℕ → Next → Next
jumps_if_aligned target next = cond (target % 4 == 0) next (Stopped BadFetch)

-- ---- loads and stores

abbrev pub bytes_loaded : LoadWidth → ℕ
bytes_loaded Lb = 1
bytes_loaded Lh = 2
bytes_loaded Lw = 4
bytes_loaded Ld = 8
bytes_loaded Lbu = 1
bytes_loaded Lhu = 2
bytes_loaded Lwu = 4

-- what a register gets of the bytes
abbrev pub register_loaded : LoadWidth → ℕ → ℕ
register_loaded Lb n = sext_word n 8
register_loaded Lh n = sext_word n 16
register_loaded Lw n = sext_word n 32
register_loaded Ld n = n
register_loaded Lbu n = n
register_loaded Lhu n = n
register_loaded Lwu n = n

abbrev pub bytes_stored : StoreWidth → ℕ
bytes_stored Sb = 1
bytes_stored Sh = 2
bytes_stored Sw = 4
bytes_stored Sd = 8

abbrev pub loads : Option ℕ → LoadWidth → ℕ → Hart → Next
loads None width rd h = Stopped BadAccess
loads (Some bytes) width rd h = sets rd (register_loaded width bytes) (h.pc + 4) h

abbrev pub stores : Option (List Region) → Hart → Next
stores None h = Stopped BadAccess
stores (Some memory) h = goes_to (h.pc + 4) (record h { memory = memory })

-- what a load may read: the code, and the regions that may be written
abbrev pub readable : Hart → List Region
readable h = code_region h.image.code ∷ h.memory

-- ---- the table

abbrev pub executed : Instr → Hart → Next
executed (Lui rd imm) h = sets rd (imm_u imm) (h.pc + 4) h
executed (Auipc rd imm) h = sets rd (add_word h.pc (imm_u imm)) (h.pc + 4) h
executed (Jal rd offset) h = let target = add_word h.pc (imm_j offset) in jumps_if_aligned target (sets rd (h.pc + 4) target h)
executed (Jalr rd rs1 imm) h =
    let sum = add_word (register h rs1) (imm_i imm) in
    let target = sum - sum % 2 in
    jumps_if_aligned target (sets rd (h.pc + 4) target h)
executed (Branch condition rs1 rs2 offset) h =
    let target = add_word h.pc (imm_b offset) in
    cond (is_taken condition (register h rs1) (register h rs2)) (jumps_if_aligned target (goes_to target h)) (goes_to (h.pc + 4) h)
executed (Load width rd rs1 imm) h =
    loads (loaded_number (readable h) (add_word (register h rs1) (imm_i imm)) (bytes_loaded width)) width rd h
executed (Store width rs1 rs2 imm) h =
    stores (stored_number h.memory (add_word (register h rs1) (imm_i imm)) (bytes_stored width) (register h rs2)) h
executed (OpImm op rd rs1 imm) h = sets rd (alu_imm op (register h rs1) imm) (h.pc + 4) h
executed (Shift op rd rs1 amount) h = sets rd (shift op (register h rs1) amount) (h.pc + 4) h
executed (Op op rd rs1 rs2) h = sets rd (alu op (register h rs1) (register h rs2)) (h.pc + 4) h
executed (Addiw rd rs1 imm) h =
    sets rd (sign_extended (add_word (register h rs1) (imm_i imm))) (h.pc + 4) h
executed (ShiftWord op rd rs1 amount) h =
    sets rd (shift_word op (register h rs1) amount) (h.pc + 4) h
executed (OpWord op rd rs1 rs2) h =
    sets rd (alu_word op (register h rs1) (register h rs2)) (h.pc + 4) h
executed Ecall h = Service h

abbrev pub decoded_next : Option Instr → Hart → Next
decoded_next None h = Stopped BadWord
decoded_next (Some i) h = executed i h

abbrev pub fetched : Option ℕ → Hart → Next
fetched None h = Stopped BadFetch
fetched (Some word) h = decoded_next (decoded word) h

-- the instruction word at an address, where the code has one there
abbrev pub fetch : List ℕ → ℕ → Option ℕ
fetch code pc =
    cond (nat_le code_start pc && (pc % 4 == 0)) (slice_get code ((pc - code_start) / 4)) None

-- one instruction
unfoldable pub hart : Hart → Next
hart h = fetched (fetch h.image.code h.pc) h
