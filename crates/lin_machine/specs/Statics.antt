-- How the lists of static data lie in an image.
use Rattle.std.specs.Prelude.{◌≡◌, ℕ, ◌+◌, ◌*◌, ◌%◌, ◌<◌, ◌≤◌, true, List, [], ◌∷◌, length}
use Rattle.bs_words.specs.Fits.{data_start}
use Rattle.bs_words.specs.Memory.{Memory, StaticList, end_of_data, is_root}
use Rattle.image_form.specs.Tables.{Tables}
use Rattle.rv_machine.specs.Relocation.{root_addresses}
use Rattle.moving_laws.specs.Stands.{AmongNumbers}

-- a list begins at a multiple of 8, and has a cell for each 8 bytes that it begins
abbrev pub IsCellList : StaticList → Type 0
IsCellList l =
    (l.start % 8 ≡ 0) × (8 * length l.cells < l.size + 8) × (l.size ≤ 8 * length l.cells)

-- the lists lie one after the other, from an address on
abbrev pub AreBehind : ℕ → List StaticList → Type 0
AreBehind at [] = Unit {0}
AreBehind at (l ∷ lists) = (at ≤ l.start) × IsCellList l × AreBehind (l.start + l.size) lists

-- The static data of a memory lies as that of the image.
pub record StaticsLie (image : Tables) (memory : Memory) : Type 0 where
  pub lists : AreBehind data_start memory.statics
  pub ends : end_of_data memory ≡ data_start + length image.bytes
  pub root : (x : ℕ) → is_root memory.roots x ≡ true → AmongNumbers x (root_addresses image)
  pub roots : (x : ℕ) → AmongNumbers x (root_addresses image) → is_root memory.roots x ≡ true
