-- Which asks of a schedule are still to come during a run, and where a machine is at a service.
use Rattle.std.specs.Prelude.{◌≡◌, ◌<◌, ◌^◌, ◌⊎◌, ℕ, length}
use Rattle.rv_isa.specs.Registers.{t0, t2}
use Rattle.rv_machine.specs.Hart.{Hart, register}
use Rattle.bs_words.specs.Contents.{contents}
use Rattle.mover_plans.specs.Words.{generator_after}
use Rattle.mover_runtime.specs.declared.schedule.Asks.{Asks}
use Rattle.mover_runtime.specs.declared.schedule.Asks.TheVariants as drawn
use Rattle.mover_runtime.specs.declared.schedule.Schedule.{Schedule}
use Rattle.mover_runtime.specs.declared.schedule.Schedule.TheVariants.{Never, Every, Seed, Lists}

-- these are the asks of the schedule from the instruction of number k on
abbrev pub StandsAt : Schedule → ℕ → Asks → Type 0
StandsAt Never k drawn.Never = Unit {0}
StandsAt Every k drawn.Every = Unit {0}
StandsAt (Seed seed) k (drawn.Seeded words) = words ≡ generator_after seed k
StandsAt (Lists asks plans) k (drawn.Among numbers) = numbers.now ≡ contents asks
StandsAt _ k _ = ⊥

-- The machine is before the ECALL of an allocation service, or of a frame call that the image has.
pub record MovesBlocks (h : Hart) : Type 0 where
  pub near : h.pc < 2 ^ 32
  pub which : (register h t2 ≡ 3) ⊎ ((register h t2 ≡ 4) × (register h t0 < length h.image.extcs))
