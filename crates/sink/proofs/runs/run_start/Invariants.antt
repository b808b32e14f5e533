use Rattle.std.proofs.Common.{◌≡◌, ◌≤◌, length}
use Rattle.sink.specs.Runs.{run_start}
use Rattle.sink.proofs.runs.run_start.Given as goal

abbrev pub invariant-loop-place : goal.invariant-loop-place
invariant-loop-place l =
    record {
      within : l.place ≤ length l.code;
      same : run_start l.code l.number l.place ≡ run_start l.code l.number l.end;
    }

abbrev pub decreases-loop-place : goal.decreases-loop-place
decreases-loop-place l = l.place
