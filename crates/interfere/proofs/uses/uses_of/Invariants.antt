use Rattle.std.proofs.Common.{◌≡◌, ◌+◌, ℕ, length, drop}
use Rattle.std.specs.Prelude.{slice_index}
use Rattle.mach_ir.specs.Graph.{uses_of}
use Rattle.interfere.proofs.uses.uses_of.Given as goal

abbrev pub invariant-loop-instr : goal.invariant-loop-instr
invariant-loop-instr l =
    record {
      len : length l.uses.items ≡ l.size;
      uses : (n : ℕ) → slice_index l.uses.items n + uses_of n (drop l.instr-index l.code) ≡ uses_of n l.code;
    }
