-- The index of pending moves: what a map from the keys of locations holds.
use Rattle.std.specs.Prelude.{◌≡◌, ℕ, ◌+◌, ◌*◌, ◌==◌, List, [], ◌∷◌, Option, Some, None, filter, reverse, vec_len}
use Rattle.std.specs.Ordering.{nat_cmp}
use Rattle.std.specs.BTreeMap as tree
use Rattle.std.specs.BTreeMap.{BTreeMap}
use Rattle.std.specs.Global.{Vec}
use Rattle.bs_words.specs.declared.types.Loc.{Loc}
use Rattle.bs_words.specs.declared.types.Loc.TheVariants.{Unset, Machine, Slot}
use Rattle.par_moves.specs.declared.moves.Move.{Move}

-- a number for each location
abbrev pub key_of : Loc → ℕ
key_of Unset = 0
key_of (Machine register) = 2 * register + 1
key_of (Slot slot) = 2 * slot + 2

-- those that read the place of a key
abbrev pub readers_of : ℕ → List Move → List Move
readers_of key moves = filter (λ m. key_of m.from == key) moves

-- a row of the map, the next move first
abbrev pub moves_of_row : Option (Vec Move) → List Move
moves_of_row None = []
moves_of_row (Some row) = reverse row.items

-- each row has the pending moves that read its place
pub record HoldsPending (index : BTreeMap ℕ (Vec Move)) (pending : List Move) : Type 0 where
  pub rows : (key : ℕ) → moves_of_row (tree.get nat_cmp index key) ≡ readers_of key pending

abbrev pub entries_held : List (ℕ × Vec Move) → ℕ
entries_held [] = 0
entries_held (e ∷ es) = vec_len e.1 + entries_held es

-- how many moves all rows have
abbrev pub moves_held : BTreeMap ℕ (Vec Move) → ℕ
moves_held index = entries_held index.entries
