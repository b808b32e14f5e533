use Rattle.std.proofs.Common.{◌≡◌, ◌+◌, ◌++◌, length, drop, take}
use Rattle.bs_words.specs.Contents.{contents}
use Rattle.rv_machine.specs.Services.{arguments_from}
use Rattle.mover_runtime.proofs.text.observe_arguments.Given as goal

abbrev pub invariant-loop-k : goal.invariant-loop-k
invariant-loop-k l = record {
  len : length l.shown ≡ 16;
  rest : arguments_from 10 (contents l.comps) l.machine ≡ take l.k l.shown ++ arguments_from (10 + l.k) (drop l.k (contents l.comps)) l.machine;
}
