use Rattle.std.proofs.Common.{◌≡◌, ◌-◌, ◌≤◌, List, length, drop}
use Rattle.std.specs.Io.KnownBytes.{Appends}
use Rattle.bs_words.specs.Observed.{Made}
use Rattle.rv_machine.specs.Run.{now_after}
use Rattle.rv_machine.specs.Services.{Going}
use Rattle.rv_machine.specs.Text.{calls_text}
use Rattle.mover_runtime.specs.Outcome.{calling_none, entry_result}
use Rattle.mover_runtime.specs.Schedules.{schedule_of}
use Rattle.mover_runtime.specs.Standing.{StandsAt}
use Rattle.mover_runtime.proofs.Runs.{state}
use Rattle.mover_runtime.proofs.run.run_image.Given as goal

abbrev pub invariant-loop-count : goal.invariant-loop-count
invariant-loop-count g l =
    ((calls : List Made) × Appends (g.K.Sink.held l.fn.out) (g.K.Sink.held l.out) (calls_text calls)
    × (now_after (schedule_of l.schedule) l.limit (Going (calling_none l.fn.machine (entry_result l.fn.machine) l.answers))
    ≡ now_after (schedule_of l.schedule) (l.limit - l.count) (Going (state l.machine l.returns (drop l.taken l.answers) calls))))
    × (l.count ≤ l.limit) × (l.machine.retired ≡ l.count) × (l.taken ≤ length l.answers) × (g.K.Sink.faults l.fn.out ≤ g.K.Sink.faults l.out)
    × StandsAt l.schedule l.count l.asks × (l.machine.services ≤ l.count)

abbrev pub decreases-loop-count : goal.decreases-loop-count
decreases-loop-count g l = l.limit - l.count
