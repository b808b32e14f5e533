-- What a schedule of the code stands for.
use Rattle.std.specs.Prelude.{map}
use Rattle.bs_words.specs.Contents.{contents}
use Rattle.mover_plans.specs.Schedules.{never, every, seeded}
use Rattle.mover_runtime.specs.declared.schedule.Schedule.{Schedule}
use Rattle.mover_runtime.specs.declared.schedule.Schedule.TheVariants.{Never, Every, Seed, Lists}
use Rattle.rv_machine.specs.Run as runs

abbrev pub schedule_of : Schedule → runs.Schedule
schedule_of Never = never
schedule_of Every = every
schedule_of (Seed seed) = seeded seed
schedule_of (Lists asks plans) = runs.lists (contents asks) (map contents (contents plans))
