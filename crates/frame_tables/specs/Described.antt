-- Descriptors that say what is in a set.
use Rattle.std.specs.Prelude.{◌≡◌, ℕ, ◌+◌, ◌*◌, Bool, cond, List, [], ◌∷◌, Some, length, slice_get}
use Rattle.dataflow.specs.Rows.{set_in_row}
use Rattle.lin_ir.specs.declared.descr.Descr.{Descr}
use Rattle.lin_laws.specs.Numbers.{trap_entries_from}
use Rattle.frame_tables.specs.declared.after.Point.{Point}

-- the entry of a member
abbrev pub entry_if : Bool → ℕ → List ℕ
entry_if member entry = cond member (entry ∷ []) []

abbrev pub described : ℕ → Point → List Bool → Descr
described frame point set =
    record {
      after = point.place;
      size = frame + 16 * point.traps;
      entries = trap_entries_from point.traps 0 set;
    }

-- each of these frame points, with its set from this one on
pub record AreDescribed (frame first : ℕ) (points : List Point) (sets : List (List Bool))
    (ds : List Descr) : Type 0 where
  pub len : length ds ≡ length points
  pub each : (k : ℕ) (point : Point) → slice_get points k ≡ Some point →
      slice_get ds k ≡ Some (described frame point (set_in_row sets (first + k)))
