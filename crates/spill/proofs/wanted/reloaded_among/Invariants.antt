use Rattle.std.proofs.Common.{◌≡◌, ◌++◌, drop}
use Rattle.spill.specs.Graphs.{reloaded_among}
use Rattle.spill.proofs.wanted.reloaded_among.Given as goal

abbrev pub invariant-loop-reg : goal.invariant-loop-reg
invariant-loop-reg l =
    l.found.items ++ reloaded_among l.lost.rows.items l.place (drop l.reg-index l.args) ≡ reloaded_among l.lost.rows.items l.place l.args
