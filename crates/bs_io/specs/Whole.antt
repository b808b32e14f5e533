-- What is left after a whole read, and what a sink holds after a whole write.
use Rattle.std.specs.Prelude.{◌≡◌, ℕ, ◌+◌, ◌<◌, ◌≤◌, List, Option, length, take}
use Rattle.std.specs.Io.KnownBytes.{Consumes, Appends}
use Rattle.bs_words.specs.Contents.{contents}
use Rattle.bs_words.specs.declared.list.List as declared
use Rattle.bs_io.specs.declared.whole.InFault.{InFault}
use Rattle.bs_io.specs.declared.whole.InFault.TheVariants.{Read, Long, OutOfMemory}

-- at most so many bytes were taken from the front
abbrev pub TakesAtMost : Option (List ℕ) → Option (List ℕ) → ℕ → Type 0
TakesAtMost old new most = (bytes : List ℕ) × Consumes old new bytes × (length bytes ≤ most)

-- some bytes of the piece were appended, from its front, and not all
abbrev pub AppendsPart : Option (List ℕ) → Option (List ℕ) → List ℕ → Type 0
AppendsPart old new piece =
    (count : ℕ) × (count < length piece) × Appends old new (take count piece)

-- the bytes that were taken past a limit, one more than it
abbrev pub PastLimit : Option (List ℕ) → Option (List ℕ) → ℕ → declared.List ℕ → Type 0
PastLimit old new limit bytes =
    Consumes old new (contents bytes) × (length (contents bytes) ≡ limit + 1)

-- where a whole read stops short: past the limit with the bytes, else with at most so many taken
abbrev pub StopsShort : Option (List ℕ) → Option (List ℕ) → ℕ → InFault → Type 0
StopsShort old new limit (Long bytes) = PastLimit old new limit bytes
StopsShort old new limit Read = TakesAtMost old new limit
StopsShort old new limit OutOfMemory = TakesAtMost old new limit
