use Rattle.std.proofs.Common.{◌≡◌, length}
use Rattle.function_places.proofs.places.work_of.Given as goal

abbrev pub invariant-loop-function : goal.invariant-loop-function
invariant-loop-function l = length l.work.items ≡ l.function-index
