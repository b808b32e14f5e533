use Rattle.lin_flow.proofs.Searching.{Entering}
use Rattle.lin_flow.proofs.search.Search.enter_all.Given as goal

abbrev pub invariant-loop-place : goal.invariant-loop-place
invariant-loop-place l = Entering l.initial.self l.self l.places l.tries l.place-index l.numbers.items
