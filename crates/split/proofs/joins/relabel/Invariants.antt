use Rattle.std.proofs.Common.{◌≡◌, ◌++◌, map, take, drop}
use Rattle.split.specs.Joins.{replaced_label}
use Rattle.split.proofs.joins.relabel.Given as goal

abbrev pub invariant-loop-label : goal.invariant-loop-label
invariant-loop-label l =
    take l.label-index l.labels ++ map (replaced_label l.from l.to) (drop l.label-index l.labels)
    ≡ map (replaced_label l.from l.to) l.initial.labels
