-- What a frame call does to the machine: an external call at which the blocks move, and which may raise.
--
-- In the meaning of a text it leaves the memory as it was, since moving blocks changes no value of a run.
-- It takes two answers whatever its result is, and has been made before its value is tested.
use Rattle.std.specs.Prelude.{ℕ, ◌+◌, ◌%◌, Bool, ◌&&◌, ◌==◌, nat_le, List}
use Rattle.bs_words.specs.declared.types.Ret.{Ret}
use Rattle.bs_words.specs.declared.types.Ret.TheVariants as returns
use Rattle.rv_isa.specs.Registers.{a0, s1, s10, sp}
use Rattle.rv_machine.specs.Hart.{Hart, Placed, past_ecall, register, with_register}
use Rattle.rv_machine.specs.Memory.{memory_word}
use Rattle.rv_machine.specs.Observation.{blocks_at}
use Rattle.rv_machine.specs.Places.{stack_end}
use Rattle.rv_machine.specs.Relocation.{Serviced, Goes, serve_then, emptied, with_blocks}

-- The blocks move, and the young area is then empty. The ECALL has not retired yet.
abbrev pub collected : (List Placed → List ℕ) → Hart → Serviced
collected plan h =
    serve_then (λ g. Goes (emptied 0 g)) (with_blocks plan h (blocks_at h (register h s10)))

-- s1 is a multiple of 8, and the two words of a trap frame lie in the stack's region there
abbrev pub has_trap_frame : Hart → Bool
has_trap_frame h =
    let at = register h s1 in
    (at % 8 == 0) && nat_le h.stack_base at && nat_le (at + 16) stack_end

-- a0 has the answer that the call's result type wants
abbrev pub with_answer : Ret → ℕ → List ℕ → List ℕ
with_answer returns.Unit answer registers = registers
with_answer (returns.Comp c) answer registers = with_register a0 answer registers

-- A raise takes the trap frame at s1 off the stack: the run goes on at the address in it, with the value
-- that is raised in a0, and s1 is the trap frame below.
abbrev pub raised : ℕ → Hart → Hart
raised value h =
    let at = register h s1 in
    record (past_ecall h) {
      pc = memory_word h.memory at;
      registers =
          with_register a0 value
          (with_register s1 (memory_word h.memory (at + 8)) (with_register sp (at + 16) h.registers));
    }
