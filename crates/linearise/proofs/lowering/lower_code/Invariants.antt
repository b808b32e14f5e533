use Rattle.std.proofs.Common.{◌≡◌, ◌≤◌, drop, length}
use Rattle.linearise_rules.specs.Lowered.{lowered_code}
use Rattle.linearise.specs.Numbers.{number_of_slot}
use Rattle.linearise.proofs.lowering.lower_code.Given as goal

abbrev pub invariant-loop-left : goal.invariant-loop-left
invariant-loop-left l =
    record {
      within : l.left ≤ length l.code;
      lines : l.lines ≡ lowered_code (number_of_slot l.numbers) (drop l.left l.code);
    }

abbrev pub decreases-loop-left : goal.decreases-loop-left
decreases-loop-left l = l.left
