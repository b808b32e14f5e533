use Rattle.std.proofs.Common.{◌≡◌, ◌+◌, ◌++◌, drop}
use Rattle.std.specs.Prelude.{sum_by}
use Rattle.function_places.proofs.Starts.{own_words, starts}
use Rattle.function_places.proofs.places.Places.of.Given as goal

abbrev pub invariant-loop-function : goal.invariant-loop-function
invariant-loop-function g l = record {
  end : l.at + sum_by own_words (drop l.function-index l.functions) ≡ 4 + sum_by own_words l.functions;
  entries : l.entries.items ++ starts l.at (drop l.function-index l.functions) ≡ starts 4 l.functions;
}
