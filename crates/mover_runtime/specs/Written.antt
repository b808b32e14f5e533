-- What a sink holds after pieces of a text were written to it one by one.
use Rattle.std.specs.Prelude.{◌≤◌, ℕ, List, Option, Result, Ok, Err}
use Rattle.std.specs.Io.KnownBytes.{Appends}
use Rattle.bs_io.specs.Faults.{Risen}
use Rattle.bs_io.specs.Whole.{AppendsPart}

-- the whole text was appended; or a fault was counted, and a part of the text from its front was
-- appended and not all of it
abbrev pub AppendsResult : {T E : Type 0} → Result T E → Option (List ℕ) → Option (List ℕ) → List ℕ → Type 0
AppendsResult (Ok t) old new text = Appends old new text
AppendsResult (Err e) old new text = AppendsPart old new text

-- a fault is counted, and the count never falls
abbrev pub Counts : {T E : Type 0} → Result T E → ℕ → ℕ → Type 0
Counts (Ok t) old new = old ≤ new
Counts (Err e) old new = Risen old new × (old ≤ new)
