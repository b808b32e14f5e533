use Rattle.std.proofs.Common.{◌≡◌, ◌+◌, drop}
use Rattle.std.specs.Prelude.{sum_by}
use Rattle.assemble.specs.Sizes.{call_size}
use Rattle.assemble.proofs.sizes.calls_size.Given as goal

abbrev pub invariant-loop-call : goal.invariant-loop-call
invariant-loop-call l = l.size + sum_by call_size (drop l.call-index l.calls) ≡ sum_by call_size l.calls
