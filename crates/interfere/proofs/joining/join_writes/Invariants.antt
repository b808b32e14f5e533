use Rattle.std.proofs.Common.{take}
use Rattle.bs_words.specs.Contents.{contents}
use Rattle.interfere.specs.Pairs.{AddsPairs, MeetsPlaces}
use Rattle.interfere.proofs.joining.join_writes.Given as goal

abbrev pub invariant-loop-place : goal.invariant-loop-place
invariant-loop-place l =
    AddsPairs l.initial.joined l.joined
    (MeetsPlaces l.moved l.live.before.rows.items (contents l.node.writes) (take l.place-index (contents l.node.next)))
