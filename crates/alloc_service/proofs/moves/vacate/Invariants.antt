use Rattle.std.proofs.Common.{◌≡◌, drop}
use Rattle.rv_machine.specs.Moving.{vacated}
use Rattle.alloc_service.proofs.moves.vacate.Given as goal

abbrev pub invariant-loop-block : goal.invariant-loop-block
invariant-loop-block l = vacated l.memory (drop l.block-index l.blocks) ≡ vacated l.initial.memory l.blocks
