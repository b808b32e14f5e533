-- What the stages owe the passes after them.
use Rattle.std.proofs.Common.{◌≡◌, ℕ, length, refl}
use Rattle.stages.specs.declared.stage.Stage.{Stage}
use Rattle.stages.specs.declared.stage.Stage.TheVariants.{Select, CombAlloc, Cse, Dead, Spill, Split, Alloc, Linear, Frames, Code}
use Rattle.mach_ir.specs.Formed.{WellFormed}
use Rattle.mach_ir.specs.Placed.{WellPlaced}
use Rattle.mach_ir.specs.Sizes.{HasRoom}
use Rattle.mach_ir.specs.declared.mach.Mach.{Mach}
use Rattle.prepare_rules.specs.Prepared.{IsPreparable, prepared_size}
use Rattle.prepare_rules.specs.Known.{HasConstantsFirst}
use Rattle.sink_rules.specs.Chosen.{IsSunk}
use Rattle.prepare_rules.specs.Stages.{IsOverMach, IsPassedTo, spills, splits}
use Rattle.prepare_rules.proofs.Room.{spilled_room}
use Rattle.prepare_rules.proofs.Whole.{dropped_cut, hoist_cut, sunk_stage, slots_stage}
use Rattle.spill_rules.specs.Chosen.{IsSpilled}
use Rattle.split_rules.specs.Split.{IsSplit, split_size}

-- which of them it is
abbrev pub place : Stage → ℕ
place Select = 0
place CombAlloc = 1
place Cse = 2
place Dead = 3
place Spill = 4
place Split = 5
place Alloc = 6
place Linear = 7
place Frames = 8
place Code = 9

-- the last of them over Mach is left
pub is_last : (s : Stage) → IsOverMach s → (s ≡ Select → ⊥) → (s ≡ CombAlloc → ⊥) → (s ≡ Cse → ⊥) → (s ≡ Dead → ⊥) → (s ≡ Spill → ⊥) → s ≡ Split
is_last Select over a b c d e = absurd (a refl)
is_last CombAlloc over a b c d e = absurd (b refl)
is_last Cse over a b c d e = absurd (c refl)
is_last Dead over a b c d e = absurd (d refl)
is_last Spill over a b c d e = absurd (e refl)
is_last Split over a b c d e = refl
is_last Alloc over a b c d e = absurd over
is_last Linear over a b c d e = absurd over
is_last Frames over a b c d e = absurd over
is_last Code over a b c d e = absurd over

-- where spilling asks for a well formed function, it gets one
pub spill_passed : {m start a b q : Mach} → IsPreparable m → IsPassedTo m Dead start → HasConstantsFirst start a → IsSunk a b → (WellFormed b → IsSpilled b q) →
    IsPassedTo m Spill q
spill_passed is before first late made = spills before first late (made (sunk_stage is (hoist_cut is (dropped_cut is before) first) late).pass.formed)

-- and so does splitting, with numbers for its webs
pub split_passed : {m s q : Mach} → IsPreparable m → IsPassedTo m Spill s → (WellFormed s → WellPlaced s → IsSplit s q) → IsPassedTo m Split q
split_passed is (spills before first late slots) made =
    let k = slots_stage is (hoist_cut is (dropped_cut is before) first) late slots in
    splits (spills before first late slots) (made k.pass.formed (k.pass.placed is.placed))

pub split_room : (m : Mach) → IsPreparable m → HasRoom (prepared_size (length m.params)) m → {q : Mach} → IsPassedTo m Spill q → HasRoom (split_size (length q.params)) q
split_room m is room (spills before first late slots) = spilled_room m is room (hoist_cut is (dropped_cut is before) first) late slots
