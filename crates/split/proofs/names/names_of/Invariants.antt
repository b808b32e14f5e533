use Rattle.std.proofs.Common.{◌≡◌, ◌<◌, ℕ, Some, length}
use Rattle.std.specs.Prelude.{slice_get, slice_index}
use Rattle.split.specs.Names.{new_number}
use Rattle.split.specs.Writes.{listed_writes}
use Rattle.split_rules.specs.declared.writes.Write.{Write}
use Rattle.split.proofs.names.names_of.Given as goal

abbrev pub invariant-loop-index : goal.invariant-loop-index
invariant-loop-index l =
    record {
      len : length l.names.items ≡ l.index;
      each : (w : ℕ) (x : Write) → w < l.index → slice_get (listed_writes l.writes) w ≡ Some x →
          slice_get l.names.items w
          ≡ Some (new_number l.writes l.free x.number (slice_index l.labels w));
    }
