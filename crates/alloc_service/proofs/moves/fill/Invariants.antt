use Rattle.std.proofs.Common.{◌≡◌, ◌+◌, ◌*◌, ◌^◌, ◌<◌, replicate}
use Rattle.rv_machine.specs.Memory.{put}
use Rattle.rv_machine.specs.Places.{filler}
use Rattle.alloc_service.proofs.moves.fill.Given as goal

abbrev pub invariant-loop-left : goal.invariant-loop-left
invariant-loop-left l = record {
  filled : put l.memory l.at (replicate l.left filler) ≡ put l.initial.memory l.from (replicate l.count filler);
  low : l.at + 8 * l.left < 2 ^ 63;
}

abbrev pub decreases-loop-left : goal.decreases-loop-left
decreases-loop-left l = l.left
