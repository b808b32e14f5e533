use Rattle.std.proofs.Common.{◌≡◌, ◌++◌, drop}
use Rattle.spill.specs.Copies.{spills_at}
use Rattle.spill.proofs.copies.spills_at.Given as goal

abbrev pub invariant-loop-reg : goal.invariant-loop-reg
invariant-loop-reg l =
    l.made.items ++ spills_at l.tables l.place (drop l.reg-index l.results) ≡ spills_at l.tables l.place l.results
