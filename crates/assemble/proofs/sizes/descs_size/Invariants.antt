use Rattle.std.proofs.Common.{◌≡◌, ◌+◌, drop}
use Rattle.std.specs.Prelude.{sum_by}
use Rattle.assemble.specs.Sizes.{descs_size}
use Rattle.assemble.proofs.sizes.descs_size.Given as goal

abbrev pub invariant-loop-function : goal.invariant-loop-function
invariant-loop-function l = l.size + sum_by descs_size (drop l.function-index l.functions) ≡ sum_by descs_size l.functions
