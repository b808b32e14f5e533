use Rattle.std.proofs.Common.{◌≡◌, ◌+◌, ℕ, length, drop}
use Rattle.std.specs.Prelude.{slice_index}
use Rattle.mach_ir.specs.Graph.{times_among}
use Rattle.interfere.proofs.uses.count.Given as goal

abbrev pub invariant-loop-reg : goal.invariant-loop-reg
invariant-loop-reg l =
    record {
      len : length l.uses.items ≡ length l.initial.uses.items;
      more : (n : ℕ) →
          slice_index l.uses.items n + times_among n (drop l.reg-index l.regs) ≡ slice_index l.initial.uses.items n + times_among n l.regs;
    }
