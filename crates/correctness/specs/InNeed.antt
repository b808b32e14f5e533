-- Compiled code asks for an allocation only in need: where it has come below the limit word.
use Rattle.std.specs.Prelude.{◌≡◌, ℕ, ◌+◌, ◌*◌, ◌<◌, ◌≤◌, List, Some, length}
use Rattle.cmm_meaning.specs.Run.{IsProper, Run, cmm_run}
use Rattle.cmm_tree.specs.Tree.{FunctionTree, FileTree}
use Rattle.correctness.specs.Correct.{Alike, IsGiven}
use Rattle.correctness.specs.Setting.{layout_of, Entered}
use Rattle.image_form.specs.Tables.{Tables, Func}
use Rattle.rv_isa.specs.Decoding.{decoded}
use Rattle.rv_isa.specs.Registers.{s10, t2}
use Rattle.rv_isa.specs.declared.instr.Instr.TheVariants.{Ecall}
use Rattle.rv_machine.specs.Hart.{fetch, register}
use Rattle.rv_machine.specs.Loading.{IsRoom}
use Rattle.rv_machine.specs.Memory.{memory_word}
use Rattle.rv_machine.specs.Places.{domain_start}
use Rattle.rv_machine.specs.Run.{Schedule, now_after, begun, seen}
use Rattle.rv_machine.specs.Services.{Machine, Now, Going}

-- The machine is at an allocation service, before it is done: the next instruction is an ECALL,
-- and t2 says service 3.
pub record IsAtAllocation (m : Machine) : Type 0 where
  pub instruction : ℕ
  pub there : fetch m.hart.image.code m.hart.pc ≡ Some instruction
  pub ecall : decoded instruction ≡ Some Ecall
  pub service : register m.hart t2 ≡ 3

-- There s10, which the bytes have been taken off, is below the limit word.
abbrev pub IsInNeed : Machine → Type 0
IsInNeed m = IsAtAllocation m → register m.hart s10 < memory_word m.hart.memory domain_start

-- So it is at each moment of a run. (Where the mover asks before the instruction, the limit word only rises.)
abbrev pub AsksOnlyInNeed : Schedule → Now → Type 0
AsksOnlyInNeed schedule start =
    (moment : ℕ) (m : Machine) → now_after schedule moment start ≡ Going m → IsInNeed m

-- So it is at each moment before this one.
abbrev pub AsksOnlyInNeedUntil : Schedule → Now → ℕ → Type 0
AsksOnlyInNeedUntil schedule start last =
    (moment : ℕ) → moment < last → (m : Machine) → now_after schedule moment start ≡ Going m → IsInNeed m

-- the machine's run beside that of the text, for one entry with its words, and one schedule
pub record NeedsItsAsks (run : ℕ → Run) (schedule : Schedule) (start : Now)
    (stack heap words : ℕ) : Type 0 where
  -- where no run of the text is improper, at each moment
  pub always : ((n : ℕ) → IsProper (run n).outcome) → AsksOnlyInNeed schedule start
  -- and whatever comes later: until it has done what the text's run does with n units, where that run is
  -- proper and its needs fit
  pub until : (n : ℕ) → IsGiven (run n) stack heap →
      (m : ℕ) × (m ≤ 2 * (n + 1) * words) × Alike (run n) (seen (now_after schedule m start))
      × AsksOnlyInNeedUntil schedule start m

-- So is each run of an image: for every stack, heap, function of the file, words that fit it, answers, and
-- schedule of the mover.
abbrev pub AsksInNeed : FileTree → Tables → Type 0
AsksInNeed file image =
    (stack heap : ℕ) → IsRoom stack → IsRoom heap → (entry : ℕ) (f : FunctionTree) (row : Func)
    (args answers : List ℕ) (schedule : Schedule) →
    Entered file image entry f row args answers →
    NeedsItsAsks (cmm_run file (layout_of image) entry args answers) schedule
    (begun image row args answers stack heap) stack heap (length image.code)
