use Rattle.std.proofs.Common.{◌≡◌, ◌++◌, length}
use Rattle.assemble_rules.specs.Held.{comps_among}
use Rattle.external_rows.proofs.walk.comps_of_arguments.Given as goal

abbrev pub invariant-loop-rest : goal.invariant-loop-rest
invariant-loop-rest l = l.comps.items ++ comps_among l.rest ≡ comps_among l.arguments

abbrev pub decreases-loop-rest : goal.decreases-loop-rest
decreases-loop-rest l = length l.rest
