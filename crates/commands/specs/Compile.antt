-- What the commands on a Cmm text read.
use Rattle.std.specs.Prelude.{ℕ, ◌<◌, List, All}
use Rattle.bs_fault.specs.Limits.{longest_text}
use Rattle.commands.specs.Effects.{Side, IsRead}

-- This holds of the text that was read from the source, all of it bytes.
pub record ReadsText (Holds : List ℕ → Type 0) (source : Side) : Type 0 where
  pub text : List ℕ
  pub are_bytes : All (λ b. b < 256) text
  pub read : IsRead longest_text source text
  pub holds : Holds text
