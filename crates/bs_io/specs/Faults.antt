-- Counts of faults.
use Rattle.std.specs.Prelude.{ℕ, ◌-◌, ◌^◌, ◌<◌, ◌≤◌, ◌⊎◌}

-- a count rose, or is at the greatest u64, where it stays
abbrev pub Risen : ℕ → ℕ → Type 0
Risen old new = (old < new) ⊎ (2 ^ 64 - 1 ≤ new)
