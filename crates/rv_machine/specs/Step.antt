-- What a step of the code reports, as what comes of an instruction.
use Rattle.std.specs.Prelude.{◌≡◌, ◌<◌, ◌-◌, ◌^◌, min, ℕ, Bool, true, false, List, Option, Some, None}
use Rattle.rv_machine.specs.Memory.{Region}
use Rattle.rv_machine.specs.Hart.{Hart, Next, with_register}
use Rattle.rv_machine.specs.Services.{filled_registers, destroyed}
use Rattle.rv_isa.specs.Registers.{a0}
use Rattle.rv_machine.specs.Hart as next
use Rattle.rv_machine.specs.declared.step_end.StepEnd.{StepEnd}
use Rattle.rv_machine.specs.declared.step_end.StepEnd.TheVariants.{Retired, Service, StackOut, Stopped}

-- A count stays at the end of its type.
abbrev pub count : ℕ → ℕ
count n = min n (2 ^ 64 - 1)

abbrev pub with_retired_counted : Hart → Hart
with_retired_counted h = record h { retired = count h.retired }

abbrev pub counted_next : Next → Next
counted_next (next.Retired h) = next.Retired (with_retired_counted h)
counted_next (next.Service h) = next.Service h
counted_next next.StackOut = next.StackOut
counted_next (next.Stopped cause) = next.Stopped cause

-- what came of the instruction, where the code reports this and leaves the machine so
abbrev pub next_of : StepEnd → Hart → Next
next_of Retired new = next.Retired new
next_of Service new = next.Service new
next_of StackOut new = next.StackOut
next_of (Stopped cause) new = next.Stopped cause

-- an instruction that does not retire changes nothing
abbrev pub StaysUnlessRetired : StepEnd → Hart → Hart → Type 0
StaysUnlessRetired Retired old new = Unit {0}
StaysUnlessRetired Service old new = new ≡ old
StaysUnlessRetired StackOut old new = new ≡ old
StaysUnlessRetired (Stopped cause) old new = new ≡ old

-- a store reports whether there was a place for it, and changes the memory alone
abbrev pub Stores : Bool → Option (List Region) → Hart → Hart → Type 0
Stores true after old new =
    (memory : List Region) × (after ≡ Some memory) × (new ≡ record old { memory = memory })
Stores false after old new = (after ≡ None) × (new ≡ old)

-- the registers after an external call: some are destroyed, and a0 has the answer where there is one
abbrev pub registers_after : Option ℕ → List ℕ → List ℕ
registers_after None registers = filled_registers destroyed registers
registers_after (Some answer) registers = with_register a0 answer (filled_registers destroyed registers)

-- a machine that is before a service is at a word of its code
abbrev pub IsNear : StepEnd → Hart → Type 0
IsNear Service h = h.pc < 2 ^ 32
IsNear Retired h = Unit {0}
IsNear StackOut h = Unit {0}
IsNear (Stopped cause) h = Unit {0}
