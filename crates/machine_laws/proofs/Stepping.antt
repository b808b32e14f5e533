-- An instruction and an ask keep a hart sound.
use Rattle.std.proofs.Common.{◌≡◌, ℕ, zero, suc, ◌+◌, ◌-◌, ◌*◌, ◌/◌, ◌%◌, ◌^◌, ◌<◌, ◌≤◌, Bool, true, false, cond, ◌&&◌, ◌==◌, nat_le, nat_lt, List, length, Option, Some, None, refl, arith, inr}
use Rattle.std.specs.Prelude.{slice_get}
use Rattle.std.proofs.lemmas.Option.{slice_get_within}
use Rattle.bs_words.proofs.Below.{add_word-below, sext_word-below}
use Rattle.bs_words.specs.Word.{add_word}
use Rattle.image_form.specs.Image.{code_limit}
use Rattle.rv_isa.specs.Decoding.{decoded}
use Rattle.rv_isa.specs.Registers.{sp}
use Rattle.rv_isa.specs.declared.instr.Instr.{Instr}
use Rattle.rv_isa.specs.declared.instr.Instr.TheVariants.{Lui, Auipc, Jal, Jalr, Branch, Load, Store, OpImm, Shift, Op, Addiw, ShiftWord, OpWord, Ecall}
use Rattle.rv_isa.specs.declared.instr.LoadWidth.{LoadWidth}
use Rattle.rv_machine.specs.Arithmetic.{alu, alu_imm, alu_word, sign_extended, imm_b, imm_i, imm_j, imm_u, is_taken, shift, shift_word}
use Rattle.rv_machine.specs.Hart.{Hart, Next, StackOut, Stopped, bytes_loaded, bytes_stored, decoded_next, executed, fetch, fetched, goes_to, hart, jumps_if_aligned, loads, past_ecall, readable, register, register_loaded, sets, stores, with_register}
use Rattle.rv_machine.specs.Memory.{Region, code_start, loaded_number, memory_or, stored_number, written}
use Rattle.rv_machine.specs.Places.{domain_start, limit_asked}
use Rattle.rv_machine.specs.Run.{Schedule, asked, perhaps_asked}
use Rattle.rv_machine.specs.Sound.{AreRegisters, HasRegions, IsSound, IsSoundNext, extents}
use Rattle.rv_machine.specs.declared.cause.Cause.TheVariants.{BadFetch}
use Rattle.machine_laws.proofs.Memory.{has_stored, has_written, loaded_below}
use Rattle.machine_laws.proofs.Values.{alu-below, alu_imm-below, alu_word-below, loaded_word, shift-below, shift_word-below, stored_width}
use Rattle.machine_laws.proofs.Words.{with_registers}

-- ---- parts of the hart that soundness does not see, or that are set

pub moved_on : (h : Hart) (pc retired : ℕ) → IsSound h → IsSound (record h { pc = pc; retired = retired })
moved_on h pc retired s = record { image = s.image; registers = s.registers; memory = s.memory; stack = s.stack; heap = s.heap; apart = s.apart }

pub with_new_registers : (h : Hart) (registers : List ℕ) → IsSound h → AreRegisters registers → IsSound (record h { registers = registers })
with_new_registers h registers s are = record { image = s.image; registers = are; memory = s.memory; stack = s.stack; heap = s.heap; apart = s.apart }

pub with_new_memory :
    (h : Hart) (memory : List Region) → IsSound h → HasRegions (extents h.image h.heap h.stack_base) memory → IsSound (record h { memory = memory })
with_new_memory h memory s has = record { image = s.image; registers = s.registers; memory = has; stack = s.stack; heap = s.heap; apart = s.apart }

pub past_ecall_sound : (h : Hart) → IsSound h → IsSound (past_ecall h)
past_ecall_sound h s = moved_on h (h.pc + 4) (suc h.retired) s

pub register_word : (h : Hart) (r : ℕ) → IsSound h → register h r < 2 ^ 64
register_word h zero s = omega arith
register_word h (suc r) s = s.registers.words (suc r)

-- ---- one instruction

goes_sound : (address : ℕ) (h : Hart) → IsSound h → IsSoundNext (goes_to address h)
goes_sound address h s = moved_on h address (suc h.retired) s

sets_sound : (rd value address : ℕ) (h : Hart) → IsSound h → value < 2 ^ 64 → IsSoundNext (sets rd value address h)
sets_sound rd value address h s small = by_test ((rd == sp) && nat_lt value h.stack_base)
  where
    by_test : (t : Bool) → IsSoundNext (cond t StackOut (goes_to address (record h { registers = with_register rd value h.registers })))
    by_test true = tt
    by_test false =
        goes_sound address (record h { registers = with_register rd value h.registers })
        (with_new_registers h (with_register rd value h.registers) s (with_registers h.registers rd value s.registers small))

jumps_sound : (target : ℕ) (next : Next) → IsSoundNext next → IsSoundNext (jumps_if_aligned target next)
jumps_sound target next s = by_test (target % 4 == 0) s
  where
    by_test : (t : Bool) → IsSoundNext next → IsSoundNext (cond t next (Stopped BadFetch))
    by_test true s = s
    by_test false s = tt

either_sound : (t : Bool) (x y : Next) → IsSoundNext x → IsSoundNext y → IsSoundNext (cond t x y)
either_sound true x y a b = a
either_sound false x y a b = b

loads_sound :
    (o : Option ℕ) (width : LoadWidth) (rd : ℕ) (h : Hart) → IsSound h → ((n : ℕ) → o ≡ Some n → n < 2 ^ (8 * bytes_loaded width)) →
    IsSoundNext (loads o width rd h)
loads_sound None width rd h s small = tt
loads_sound (Some n) width rd h s small = sets_sound rd (register_loaded width n) (h.pc + 4) h s (loaded_word width n (small n refl))

stores_sound :
    (o : Option (List Region)) (h : Hart) → IsSound h → HasRegions (extents h.image h.heap h.stack_base) (memory_or h.memory o) →
    IsSoundNext (stores o h)
stores_sound None h s has = tt
stores_sound (Some memory) h s has = goes_sound (h.pc + 4) (record h { memory = memory }) (with_new_memory h memory s has)

-- the address of the next instruction, which a jump leaves in a register
abbrev pub IsNextWord : Hart → Type 0
IsNextWord h = h.pc + 4 < 2 ^ 64

executed_sound : (i : Instr) (h : Hart) → IsSound h → IsNextWord h → IsSoundNext (executed i h)
executed_sound (Lui rd imm) h s near = sets_sound rd (imm_u imm) (h.pc + 4) h s (sext_word-below _ 32)
executed_sound (Auipc rd imm) h s near = sets_sound rd (add_word h.pc (imm_u imm)) (h.pc + 4) h s (add_word-below _ _)
executed_sound (Jal rd offset) h s near =
    jumps_sound (add_word h.pc (imm_j offset)) _ (sets_sound rd (h.pc + 4) (add_word h.pc (imm_j offset)) h s near)
executed_sound (Jalr rd rs1 imm) h s near = jumps_sound _ _ (sets_sound rd (h.pc + 4) _ h s near)
executed_sound (Branch condition rs1 rs2 offset) h s near =
    either_sound (is_taken condition (register h rs1) (register h rs2)) _ _
    (jumps_sound (add_word h.pc (imm_b offset)) _ (goes_sound (add_word h.pc (imm_b offset)) h s)) (goes_sound (h.pc + 4) h s)
executed_sound (Load width rd rs1 imm) h s near =
    loads_sound (loaded_number (readable h) (add_word (register h rs1) (imm_i imm)) (bytes_loaded width)) width rd h s
    (loaded_below (readable h) (add_word (register h rs1) (imm_i imm)) (bytes_loaded width))
executed_sound (Store width rs1 rs2 imm) h s near =
    stores_sound (stored_number h.memory (add_word (register h rs1) (imm_i imm)) (bytes_stored width) (register h rs2)) h s
    (has_stored _ h.memory (add_word (register h rs1) (imm_i imm)) (bytes_stored width) (register h rs2) (stored_width width) s.memory)
executed_sound (OpImm op rd rs1 imm) h s near =
    sets_sound rd (alu_imm op (register h rs1) imm) (h.pc + 4) h s (alu_imm-below op (register h rs1) imm (register_word h rs1 s))
executed_sound (Shift op rd rs1 amount) h s near =
    sets_sound rd (shift op (register h rs1) amount) (h.pc + 4) h s (shift-below op (register h rs1) amount (register_word h rs1 s))
executed_sound (Op op rd rs1 rs2) h s near =
    sets_sound rd (alu op (register h rs1) (register h rs2)) (h.pc + 4) h s
    (alu-below op (register h rs1) (register h rs2) (register_word h rs1 s) (register_word h rs2 s))
executed_sound (Addiw rd rs1 imm) h s near =
    sets_sound rd (sign_extended (add_word (register h rs1) (imm_i imm))) (h.pc + 4) h s (sext_word-below _ 32)
executed_sound (ShiftWord op rd rs1 amount) h s near =
    sets_sound rd (shift_word op (register h rs1) amount) (h.pc + 4) h s (shift_word-below op (register h rs1) amount)
executed_sound (OpWord op rd rs1 rs2) h s near =
    sets_sound rd (alu_word op (register h rs1) (register h rs2)) (h.pc + 4) h s (alu_word-below op (register h rs1) (register h rs2))
executed_sound Ecall h s near = s

decoded_sound : (o : Option Instr) (h : Hart) → IsSound h → IsNextWord h → IsSoundNext (decoded_next o h)
decoded_sound None h s near = tt
decoded_sound (Some i) h s near = executed_sound i h s near

-- code lies below 2 ^ 32
fetched_near : (code : List ℕ) (pc word : ℕ) → 4 * length code ≤ code_limit → fetch code pc ≡ Some word → pc + 4 < 2 ^ 64
fetched_near code pc word short e = by_test (nat_le code_start pc && (pc % 4 == 0)) refl e
  where
    by_test :
        (t : Bool) → (nat_le code_start pc && (pc % 4 == 0)) ≡ t → cond t (slice_get code ((pc - code_start) / 4)) None ≡ Some word → pc + 4 < 2 ^ 64
    by_test true t e = let within = slice_get_within code ((pc - code_start) / 4) word e in omega (arith, short, within)
    by_test false t e = absurd (cc)

fetched_sound : (o : Option ℕ) (h : Hart) → IsSound h → ((word : ℕ) → o ≡ Some word → IsNextWord h) → IsSoundNext (fetched o h)
fetched_sound None h s near = tt
fetched_sound (Some word) h s near = decoded_sound (decoded word) h s (near word refl)

pub hart_sound : (h : Hart) → IsSound h → IsSoundNext (hart h)
unfolding hart
hart_sound h s = fetched_sound (fetch h.image.code h.pc) h s (λ word e. fetched_near h.image.code h.pc word s.image.code.short e)

-- ---- an ask

pub asked_sound : (h : Hart) → IsSound h → IsSound (asked h)
asked_sound h s =
    with_new_memory h (memory_or h.memory (written h.memory domain_start 8 limit_asked)) s
    (has_written _ h.memory domain_start 8 limit_asked (inr (inr (inr refl))) refl s.memory)

pub perhaps_asked_sound : (schedule : Schedule) (h : Hart) → IsSound h → IsSound (perhaps_asked schedule h)
perhaps_asked_sound schedule h s = by_test (schedule.asks h.retired)
  where
    by_test : (t : Bool) → IsSound (cond t (asked h) h)
    by_test true = asked_sound h s
    by_test false = s
