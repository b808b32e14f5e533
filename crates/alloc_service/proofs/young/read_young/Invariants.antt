use Rattle.std.proofs.Common.{◌≡◌, ◌+◌, ◌*◌, ◌≤◌, ◌++◌, List, option_map, vec_len}
use Rattle.std.specs.Vec.{vec_capacity}
use Rattle.rv_machine.specs.Hart.{Placed}
use Rattle.rv_machine.specs.Observation.{young_blocks, blocks_from}
use Rattle.alloc_service.proofs.young.read_young.Given as goal

abbrev pub invariant-loop-most : goal.invariant-loop-most
invariant-loop-most l = record {
  rest : young_blocks l.memory l.from ≡ option_map (λ (bs : List Placed). l.young.items ++ bs) (blocks_from l.most l.memory l.at);
  near : l.at + 2056 * l.most ≤ 0x38010000 + 2056 * 4097;
  few : l.most ≤ 4097;
  count : vec_len l.young + l.most ≤ 4097;
  room : 4097 ≤ vec_capacity l.young;
}

abbrev pub decreases-loop-most : goal.decreases-loop-most
decreases-loop-most l = l.most
