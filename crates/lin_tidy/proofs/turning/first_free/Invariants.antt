use Rattle.std.proofs.Common.{◌≡◌, max, drop}
use Rattle.lin_ir.specs.Formed.{labels_in}
use Rattle.linearise_rules.specs.Lowered.{limit_above}
use Rattle.lin_tidy.proofs.turning.first_free.Given as goal

abbrev pub invariant-loop-line : goal.invariant-loop-line
invariant-loop-line l = max l.free (limit_above (labels_in (drop l.line-index l.code))) ≡ limit_above (labels_in l.code)
