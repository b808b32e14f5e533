use Rattle.hoist.proofs.Rebuilt.{Rebuilding}
use Rattle.hoist.proofs.hoisting.moved_first.Given as goal

abbrev pub invariant-loop-instr : goal.invariant-loop-instr
invariant-loop-instr l =
    record {
      iterates : (goal.iterator-loop-instr).can_next l.instr-iterator;
      finite : (goal.iterator-loop-instr).is_finite l.instr-iterator;
      built : Rebuilding l.flags l.fn.code l.first.items l.others.items l.instr-iterator.rest.items l.place;
    }
