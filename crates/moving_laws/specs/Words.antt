-- Memories whose words can be read and written.
use Rattle.std.specs.Prelude.{◌≡◌, ℕ, true, cond, List, [], ◌∷◌, slice_index}
use Rattle.std.specs.List.{AllByRecursion}
use Rattle.std.specs.Option.{is_some}
use Rattle.rv_machine.specs.Memory.{Region, index_in, is_inside, loaded_number}
use Rattle.rv_machine.specs.Sound.{IsRegion}

pub record IsFormed (m : List Region) : Type 0 where
  pub each : AllByRecursion IsRegion m

-- a word of 8 bytes can be read and written there
pub record IsReadable (m : List Region) (a : ℕ) : Type 0 where
  pub is : is_some (loaded_number m a 8) ≡ true

-- The word of the region that has a byte at this address, whole also where the region ends inside
-- it; 0 where there is none.
-- The last list of static data may have a part of its last cell alone. Stores set that word whole; where
-- all 8 bytes can be read, it is what the machine reads and writes.
abbrev pub held_word : List Region → ℕ → ℕ
held_word [] x = 0
held_word (r ∷ rs) x =
    cond (is_inside r x 1) (slice_index r.words (index_in r x)) (held_word rs x)
