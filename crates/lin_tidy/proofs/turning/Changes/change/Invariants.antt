use Rattle.std.proofs.Common.{◌≡◌, ◌≤◌, ◌++◌, List, length}
use Rattle.lin_ir.specs.declared.lin.Line.{Line}
use Rattle.lin_tidy.specs.Loops.{turns_in, opened_in, turned_by}
use Rattle.lin_tidy.proofs.turning.Changes.change.Given as goal

abbrev pub invariant-loop-line : goal.invariant-loop-line
invariant-loop-line l = record {
  opened : l.self.opened ≡ l.fn.self.opened;
  fewer : length (turns_in l.self) ≤ length (turns_in l.fn.self);
  made : (rest : List Line) → l.turned.items ++ turned_by (opened_in l.fn.self l.fn.free) (turns_in l.self) rest
      ≡ turned_by (opened_in l.fn.self l.fn.free) (turns_in l.fn.self) (l.yielded ++ rest);
  so_far : l.turned.items ≡ turned_by (opened_in l.fn.self l.fn.free) (turns_in l.fn.self) l.yielded;
}
