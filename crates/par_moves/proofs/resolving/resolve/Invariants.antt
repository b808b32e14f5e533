use Rattle.std.proofs.Common.{drop}
use Rattle.par_moves.proofs.Turns.{Gathering, Emptying}
use Rattle.par_moves.proofs.resolving.resolve.Given as goal

abbrev pub invariant-loop-planned : goal.invariant-loop-planned
invariant-loop-planned l = Gathering l.pending.readers (drop l.planned-index l.moves) l.moves

abbrev pub invariant-loop-planned-2 : goal.invariant-loop-planned-2
invariant-loop-planned-2 l = Emptying l.pending.readers l.made.items (drop l.planned-index l.moves) l.moves
