use Rattle.std.proofs.Common.{◌≡◌, ◌+◌, ◌*◌, ◌≤◌}
use Rattle.std.specs.Prelude.{IfSome, None}
use Rattle.rv_machine.specs.Observation.{young_blocks, blocks_from}
use Rattle.rv_machine.proofs.Young.{found_in}
use Rattle.rv_machine.proofs.observe.young_serial.Given as goal

abbrev pub invariant-loop-most : goal.invariant-loop-most
invariant-loop-most l = record {
  rest : found_in l.address None (young_blocks l.memory l.from) ≡ found_in l.address l.found (blocks_from l.most l.memory l.at);
  near : l.at + 2056 * l.most ≤ 0x38010000 + 2056 * 4097;
  few : l.most ≤ 4097;
  below : IfSome l.found (λ serial. serial + l.most ≤ 4097);
}

abbrev pub decreases-loop-most : goal.decreases-loop-most
decreases-loop-most l = l.most
