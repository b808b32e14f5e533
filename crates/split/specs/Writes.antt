-- The table of the writes of open registers.
use Rattle.std.specs.Prelude.{◌≡◌, ℕ, ◌-◌, ◌<◌, Bool, false, cond, nat_eq, List, [], ◌∷◌, ◌++◌, Option, Some, None, map, drop, length, slice_get, slice_index_or, Contains}
use Rattle.mach_ir.specs.declared.mach.Instr.{Instr}
use Rattle.mach_ir.specs.declared.mach.Mach.{Mach}
use Rattle.split_rules.specs.Order.{writes_of}
use Rattle.split_rules.specs.declared.writes.Write.{Write}
use Rattle.split.specs.declared.writes.WriteGroup as group
use Rattle.split.specs.declared.writes.Writes.{Writes}

abbrev pub listed_writes : Writes → List Write
listed_writes t = t.all.items

abbrev pub members_in : List group.WriteGroup → ℕ → List ℕ
members_in groups n = slice_index_or (map (λ (g : group.WriteGroup). g.members.items) groups) n []

-- the indexes of the writes of a number
abbrev pub writes_of_number : Writes → ℕ → List ℕ
writes_of_number t n = members_in t.groups.items n

-- an index has come to its group, and nothing else
pub record HasOnlyNewMember (old new : List group.WriteGroup) (n member : ℕ) : Type 0 where
  pub len : length new ≡ length old
  pub here : members_in new n ≡ members_in old n ++ member ∷ []
  pub others : (k : ℕ) → (k ≡ n → ⊥) → members_in new k ≡ members_in old k

-- Each index is below those after it.
pub data AreRising : List ℕ → Type 0 where
  ends : AreRising []
  rises : {w : ℕ} {ws : List ℕ} → ((v : ℕ) → Contains ws v → w < v) → AreRising ws → AreRising (w ∷ ws)

-- each index is in the group of its write's number, in their order, and nothing else is
pub record IsGrouped (writes : List Write) (free : ℕ) (groups : List group.WriteGroup) : Type 0 where
  pub len : length groups ≡ free
  pub sound : (n w : ℕ) → Contains (members_in groups n) w →
      (x : Write) × (slice_get writes w ≡ Some x) × (x.number ≡ n)
  pub whole : (w : ℕ) (x : Write) → slice_get writes w ≡ Some x → Contains (members_in groups x.number) w
  pub rising : (n : ℕ) → AreRising (members_in groups n)

-- the writes of a function
pub record AreWrites (m : Mach) (free : ℕ) (t : Writes) : Type 0 where
  pub all : listed_writes t ≡ writes_of m
  pub grouped : IsGrouped (listed_writes t) free t.groups.items

abbrev pub has_left : Option Write → ℕ → Bool
has_left None k = false
has_left (Some x) k = nat_eq x.left k

abbrev pub is_at : List Write → ℕ → ℕ → Bool
is_at writes w k = has_left (slice_get writes w) k

-- the first of these writes after which so many instructions come
abbrev pub find_at : List Write → ℕ → List ℕ → Option ℕ
find_at writes k [] = None
find_at writes k (w ∷ ws) = cond (is_at writes w k) (Some w) (find_at writes k ws)

abbrev pub is_first_write : List ℕ → ℕ → Bool
is_first_write [] w = false
is_first_write (v ∷ ws) w = nat_eq v w

-- the code after so many instructions are left: what a write with this number is known by
abbrev pub code_after : Mach → ℕ → List Instr
code_after m k = drop (length m.code - k) m.code
