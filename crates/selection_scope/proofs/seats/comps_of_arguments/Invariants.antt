use Rattle.std.proofs.Common.{◌≡◌, ◌++◌, length}
use Rattle.cmm_tree.specs.Rows.{expressions_of}
use Rattle.cmm_types.specs.Lists.{AreAnnotated}
use Rattle.selection_scope.specs.Scoping.{scoped_names}
use Rattle.cmm_meaning.specs.Evaluation.{comps_of_arguments}
use Rattle.selection_scope.proofs.seats.comps_of_arguments.Given as goal

abbrev pub invariant-loop-rest : goal.invariant-loop-rest
invariant-loop-rest l =
    record {
      comps : l.comps.items ++ comps_of_arguments (scoped_names l.fn.scope) (expressions_of l.rest) ≡ comps_of_arguments (scoped_names l.fn.scope) (expressions_of l.fn.exprs);
      typed : AreAnnotated (scoped_names l.fn.scope) l.rest;
    }

abbrev pub decreases-loop-rest : goal.decreases-loop-rest
decreases-loop-rest l = length l.rest
