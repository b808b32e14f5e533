use Rattle.std.proofs.Common.{◌≡◌, ◌+◌, ◌++◌, length}
use Rattle.cmm_tree.specs.Rows.{expressions_of}
use Rattle.cmm_types.specs.Lists.{AreAnnotated}
use Rattle.selection_scope.specs.Scoping.{scoped_names}
use Rattle.selection_rules.specs.Select.{regs_of}
use Rattle.selection_scope.proofs.seats.regs_of.Given as goal

abbrev pub invariant-loop-rest : goal.invariant-loop-rest
invariant-loop-rest l =
    record {
      regs : l.made ++ regs_of l.fn.scope.names l.next (expressions_of l.rest) ≡ regs_of l.fn.scope.names l.fn.number (expressions_of l.fn.exprs);
      room : l.next + length l.rest ≡ l.fn.number + length l.fn.exprs;
      typed : AreAnnotated (scoped_names l.fn.scope) l.rest;
    }

abbrev pub decreases-loop-rest : goal.decreases-loop-rest
decreases-loop-rest l = length l.rest
