use Rattle.std.proofs.Common.{◌≡◌, ◌++◌, length}
use Rattle.rv_machine.specs.Memory.{words_of_bytes}
use Rattle.rv_machine.proofs.start.words_of_bytes.Given as goal

abbrev pub invariant-loop-rest : goal.invariant-loop-rest
invariant-loop-rest l = l.words.items ++ words_of_bytes l.rest ≡ words_of_bytes l.fn.bytes

abbrev pub decreases-loop-rest : goal.decreases-loop-rest
decreases-loop-rest l = length l.rest
