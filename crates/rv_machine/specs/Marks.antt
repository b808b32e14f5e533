-- The table of marks: a word for each word where a block may start, those of the young area first, then
-- those of the second half of the heap and of the first.
--
-- A block is found by its old start in one access, so a service is linear in the bytes of blocks and stack.
-- All words are 0 between services.
use Rattle.std.specs.Prelude.{◌≡◌, ℕ, ◌+◌, ◌-◌, ◌/◌, ◌%◌, Bool, cond, ◌&&◌, ◌==◌, nat_le, nat_lt, List, Option, Some, None, slice_index}
use Rattle.rv_machine.specs.Observation.{young_start}
use Rattle.rv_machine.specs.Places.{half_start}

-- The marks, for halves of so many bytes.
pub record Marks : Type 0 where
  pub heap : ℕ
  pub marks : List ℕ

-- an address lies in so many bytes from another on
abbrev pub is_between : ℕ → ℕ → ℕ → Bool
is_between from bytes address = nat_le from address && nat_lt address (from + bytes)

-- the place in the table of an address
abbrev pub mark_index : ℕ → ℕ → Option ℕ
mark_index heap address =
    cond (address % 8 == 0)
    (cond (is_between young_start 65536 address) (Some ((address - young_start) / 8))
    (cond (is_between (half_start 1) heap address) (Some (8192 + (address - half_start 1) / 8))
    (cond (is_between (half_start 0) heap address) (Some (8192 + heap / 8 + (address - half_start 0) / 8)) None)))
    None

abbrev pub mark_by : List ℕ → Option ℕ → ℕ
mark_by marks None = 0
mark_by marks (Some i) = slice_index marks i

-- what the table has for an address; 0 where it has nothing
unfoldable pub mark_at : Marks → ℕ → ℕ
mark_at table address = mark_by table.marks (mark_index table.heap address)

abbrev pub IsClean : Marks → Type 0
IsClean table = (address : ℕ) → mark_at table address ≡ 0
