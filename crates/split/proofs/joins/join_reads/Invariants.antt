use Rattle.std.proofs.Common.{take}
use Rattle.split.specs.Joins.{JoinsReads}
use Rattle.split.proofs.joins.join_reads.Given as goal

abbrev pub invariant-loop-reg : goal.invariant-loop-reg
invariant-loop-reg l =
    JoinsReads l.initial.labels.items l.labels.items l.writes l.rows.rows.items l.place (take l.reg-index l.args)
