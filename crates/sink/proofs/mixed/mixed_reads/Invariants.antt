use Rattle.std.proofs.Common.{◌≡◌, drop}
use Rattle.sink.specs.Mixed.{noted_code}
use Rattle.sink.proofs.mixed.mixed_reads.Given as goal

abbrev pub invariant-loop-place : goal.invariant-loop-place
invariant-loop-place l =
    noted_code l.fresh.rows.items l.stale.rows.items l.place (drop l.place l.code) l.mixed
    ≡ noted_code l.fresh.rows.items l.stale.rows.items 0 l.code l.initial.mixed
