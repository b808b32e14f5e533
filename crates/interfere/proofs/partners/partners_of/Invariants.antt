use Rattle.std.proofs.Common.{◌≡◌, ◌++◌, ℕ, length, drop}
use Rattle.mach_ir.specs.Graph.{moves_of}
use Rattle.interfere.specs.Partners.{partners_in}
use Rattle.interfere.proofs.partners.partners_of.Given as goal

abbrev pub invariant-loop-instr : goal.invariant-loop-instr
invariant-loop-instr l =
    record {
      len : length l.table.items ≡ l.size;
      moves : (n : ℕ) → partners_in l.table.items n ++ moves_of n (drop l.instr-index l.code) ≡ moves_of n l.code;
    }
