use Rattle.std.proofs.Common.{◌≡◌, ◌+◌, drop}
use Rattle.rv_machine.specs.Placement.{bytes_used}
use Rattle.alloc_service.proofs.young.bytes_used.Given as goal

abbrev pub invariant-loop-block : goal.invariant-loop-block
invariant-loop-block l = l.used + bytes_used (drop l.block-index l.blocks) ≡ bytes_used l.blocks
