-- What a run takes from the image: nothing but numbers that it adds up or shows.
use Rattle.std.specs.Prelude.{ℕ, List, slice_index}
use Rattle.bs_words.specs.declared.values.Obs.{Obs}
use Rattle.bs_words.specs.declared.values.Obs.TheVariants as obs
use Rattle.bs_words.specs.declared.values.Value.{Value}
use Rattle.bs_words.specs.declared.values.Value.TheVariants.{Word, Block, Function}

-- For each function of the file, in order: the bytes of its frame, and its address.
pub record Layout : Type 0 where
  pub frames : List ℕ
  pub addresses : List ℕ

-- what is seen of a value: a word is itself, the start of a block is its serial, a function is its
-- address; no other pointer is ever shown, since what is shown fits val or int
abbrev pub observed : Layout → Value → Obs
observed layout (Word w) = obs.Word w
observed layout (Block serial offset) = obs.Block serial
observed layout (Function f) = obs.Word (slice_index layout.addresses f)
