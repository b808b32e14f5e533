-- The numbers of writes, and the naming that tables give.
use Rattle.std.specs.Prelude.{◌≡◌, ℕ, ◌+◌, ◌-◌, Bool, cond, List, [], ◌∷◌, Option, Some, None, slice_get, slice_index}
use Rattle.bs_bits.specs.Set.{has}
use Rattle.dataflow.specs.Rows.{set_in_row}
use Rattle.mach_ir.specs.declared.mach.Mach.{Mach}
use Rattle.split_rules.specs.Renamed.{Naming}
use Rattle.split.specs.Writes.{listed_writes, writes_of_number, find_at, is_first_write, AreWrites}
use Rattle.split.specs.Reach.{AreReaching}
use Rattle.split.specs.Joins.{AreWebs}
use Rattle.split_rules.specs.declared.writes.Write.{Write}
use Rattle.split.specs.declared.writes.Writes.{Writes}
use Rattle.split.specs.declared.tables.Tables.{Tables}

-- The number of a web of this register, by the index of its first write: that of the register's first
-- write keeps the register's.
abbrev pub new_number : Writes → ℕ → ℕ → ℕ → ℕ
new_number t free n label = cond (is_first_write (writes_of_number t n) label) n (free + label)

-- each write has the number of its web
pub record AreNames (t : Writes) (labels : List ℕ) (free : ℕ) (names : List ℕ) : Type 0 where
  pub each : (w : ℕ) (x : Write) → slice_get (listed_writes t) w ≡ Some x →
      slice_get names w ≡ Some (new_number t free x.number (slice_index labels w))

-- the first of these writes that comes to a place
abbrev pub find_coming : List Bool → List ℕ → Option ℕ
find_coming set [] = None
find_coming set (w ∷ ws) = cond (has set w) (Some w) (find_coming set ws)

abbrev pub or_name : ℕ → Option ℕ → ℕ
or_name n None = n
or_name n (Some k) = k

-- the number of a write; a register that none was found of keeps its own
abbrev pub name_of : List ℕ → ℕ → Option ℕ → ℕ
name_of names n None = n
name_of names n (Some w) = or_name n (slice_get names w)

-- the number that a register has as an operand at a place
abbrev pub name_read : Tables → ℕ → ℕ → ℕ
name_read t place n =
    name_of t.names.items n (find_coming (set_in_row t.rows.rows.items place) (writes_of_number t.writes n))

-- and as a result before so many instructions
abbrev pub name_written : Tables → ℕ → ℕ → ℕ
name_written t left n = name_of t.names.items n (find_at (listed_writes t.writes) left (writes_of_number t.writes n))

-- An operand has the number of a write that comes to it, a result that of its own.
abbrev pub naming : Tables → ℕ → Naming
naming t end =
    record {
      read = λ k n. name_read t (end - 1 - k) n;
      write = λ k n. name_written t k n;
    }

-- what is known of the tables of a function
pub record AreSplitTables (m : Mach) (free : ℕ) (t : Tables) : Type 0 where
  pub writes : AreWrites m free t.writes
  pub reaching : AreReaching m t.writes t.rows.rows.items
  pub labels : List ℕ
  pub webs : AreWebs m t.writes t.rows.rows.items labels
  pub names : AreNames t.writes labels free t.names.items
