use Rattle.split.proofs.Joining.{Joining}
use Rattle.split.proofs.joins.join_at.Given as goal

abbrev pub invariant-loop-index : goal.invariant-loop-index
invariant-loop-index l =
    Joining l.initial.labels.items l.labels.items l.members l.index-index l.rows.rows.items l.place l.first
