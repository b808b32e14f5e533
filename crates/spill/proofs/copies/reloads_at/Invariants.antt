use Rattle.std.proofs.Common.{◌≡◌, ◌++◌, drop}
use Rattle.spill.specs.Copies.{reloads_at}
use Rattle.spill.proofs.copies.reloads_at.Given as goal

abbrev pub invariant-loop-reg : goal.invariant-loop-reg
invariant-loop-reg l = l.made.items ++ reloads_at l.tables l.place (drop l.reg-index l.args) ≡ reloads_at l.tables l.place l.args
