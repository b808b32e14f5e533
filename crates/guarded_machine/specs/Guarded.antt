-- The machine that refuses an allocation service where s10 is not below the limit word.
--
-- That an image is correct is shown over this machine. It never comes to the refusal, so it is the machine
-- itself, and each service was needed.
use Rattle.std.specs.Prelude.{ℕ, Bool, true, false, cond, not, ◌&&◌, ◌||◌, ◌==◌, nat_lt}
use Rattle.machine_laws.specs.Steps.{moments}
use Rattle.rv_isa.specs.Registers.{s10, t2}
use Rattle.rv_machine.specs.Hart.{Next, Retired, Service, hart, register}
use Rattle.rv_machine.specs.Hart as next
use Rattle.rv_machine.specs.Memory.{memory_word}
use Rattle.rv_machine.specs.Places.{domain_start}
use Rattle.rv_machine.specs.Run.{Schedule, one}
use Rattle.rv_machine.specs.Services.{Machine, Now, Going, Over, Stopped}
use Rattle.rv_machine.specs.declared.cause.Cause.TheVariants.{BadService}

abbrev pub is_service : Next → Bool
is_service (Retired h) = false
is_service (Service h) = true
is_service next.StackOut = false
is_service (next.Stopped cause) = false

abbrev pub is_at_allocation : Machine → Bool
is_at_allocation m = is_service (hart m.hart) && (register m.hart t2 == 3)

abbrev pub is_in_need : Machine → Bool
is_in_need m = not (is_at_allocation m) || nat_lt (register m.hart s10) (memory_word m.hart.memory domain_start)

-- one instruction, or the refusal
abbrev pub guarded_of : Schedule → Now → Now
guarded_of schedule (Going m) = cond (is_in_need m) (one schedule m) (Over m.calls (Stopped BadService))
guarded_of schedule (Over calls end) = Over calls end

-- so many instructions
abbrev pub guarded_after : Schedule → ℕ → Now → Now
guarded_after schedule n now = moments (guarded_of schedule) n now
