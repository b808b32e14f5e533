use Rattle.std.proofs.Common.{◌≡◌, ◌≤◌, ◌+◌, ◌++◌}
use Rattle.pass_rules.specs.Measures.{other_operands}
use Rattle.reload_rules.specs.Reloaded.{reloaded_code}
use Rattle.reload.proofs.reloading.reloaded_code.Given as goal

abbrev pub invariant-loop-instr : goal.invariant-loop-instr
invariant-loop-instr l =
    record {
      code : l.made.items ++ reloaded_code l.number l.instr-iterator.rest.items ≡ reloaded_code l.free l.fn.code;
      room : l.number + other_operands l.instr-iterator.rest.items ≤ l.free + other_operands l.fn.code;
    }
