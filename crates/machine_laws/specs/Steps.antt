-- A run of the machine from moment to moment.
use Rattle.std.specs.Prelude.{◌≡◌, ℕ, zero, suc, ◌⊎◌, List, ◌++◌}
use Rattle.bs_words.specs.Observed.{Made}
use Rattle.rv_machine.specs.Run.{Schedule, Seen, one}
use Rattle.rv_machine.specs.Services.{Running, Now, Going, Over}

-- one instruction, with the ask before it and its service; a run that is over stays as it is
abbrev pub next_now : Schedule → Now → Now
next_now schedule (Going m) = one schedule m
next_now schedule (Over calls end) = Over calls end

-- the state so many moments later
abbrev pub moments : {X : Type 0} → (X → X) → ℕ → X → X
moments next zero x = x
moments next (suc n) x = moments next n (next x)

-- these calls are the first ones of those
abbrev pub IsFrontOf : List Made → List Made → Type 0
IsFrontOf earlier later = (further : List Made) × (later ≡ earlier ++ further)

-- States of a run, one after the other, whatever they are: one that runs no more stays as it is, and no call is forgotten.
pub record IsOrderly (X : Type 0) (next : X → X) (see : X → Seen) : Type 0 where
  pub stays : (x : X) → ((see x).end ≡ Running) ⊎ (next x ≡ x)
  pub calls : (x : X) → IsFrontOf (see x).calls (see (next x)).calls
