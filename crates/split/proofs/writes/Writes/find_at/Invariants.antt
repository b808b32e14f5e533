use Rattle.std.proofs.Common.{◌≡◌, drop}
use Rattle.split.specs.Writes.{listed_writes, writes_of_number, find_at}
use Rattle.split.proofs.writes.Writes.find_at.Given as goal

abbrev pub invariant-loop-index : goal.invariant-loop-index
invariant-loop-index l =
    find_at (listed_writes l.self) l.left (drop l.index-index l.index-items)
    ≡ find_at (listed_writes l.self) l.left (writes_of_number l.self l.number)
