use Rattle.std.proofs.Common.{◌≡◌, ◌<◌, ◌≤◌, ℕ, length}
use Rattle.std.specs.Prelude.{slice_index}
use Rattle.split.specs.Reach.{AreReaching}
use Rattle.split.specs.Writes.{listed_writes}
use Rattle.split.proofs.Joining.{WebsBefore}
use Rattle.split.proofs.joins.webs_of.Given as goal

abbrev pub invariant-loop-place : goal.invariant-loop-place
invariant-loop-place l =
    record {
      len : length l.labels.items ≡ length (listed_writes l.writes);
      least : (w : ℕ) → w < length l.labels.items → slice_index l.labels.items w ≤ w;
      webs : AreReaching l.mach l.writes l.rows.rows.items → WebsBefore l.mach l.writes l.rows.rows.items l.labels.items l.place;
    }
