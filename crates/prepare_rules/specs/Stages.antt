-- What the passes before register allocation make up to a stage.
--
-- Constants and late stores are seen in the stage of spilling, since the stages that `list` shows are
-- OCaml's.
use Rattle.std.specs.Prelude.{◌≡◌, ⊤}
use Rattle.comballoc_rules.specs.Combined.{combined}
use Rattle.cse_copy_rules.specs.Propagated.{IsPropagated}
use Rattle.hoist_rules.specs.Known.{IsDropped}
use Rattle.hoist_rules.specs.Chosen.{HasConstantsFirst}
use Rattle.mach_ir.specs.declared.mach.Mach.{Mach}
use Rattle.cse_repeat_rules.specs.Repeated.{IsRepeated}
use Rattle.sink_rules.specs.Chosen.{IsSunk}
use Rattle.sink_rules.specs.Known.{IsSpilled}
use Rattle.split_rules.specs.Split.{IsSplit}
use Rattle.stages.specs.declared.stage.Stage.{Stage}
use Rattle.stages.specs.declared.stage.Stage.TheVariants.{Select, CombAlloc, Cse, Dead, Spill, Split, Alloc, Linear, Frames, Code}

-- The passes up to the stage make the last of the function: each stage is what the one before it gives,
-- through the passes of its own.
pub data IsPassedTo (m : Mach) : Stage → Mach → Type 0 where
  selects : {q : Mach} → q ≡ m → IsPassedTo m Select q
  combines : {q : Mach} → q ≡ combined m → IsPassedTo m CombAlloc q
  commons : {start a b c q : Mach} → IsPassedTo m CombAlloc start → IsPropagated start a →
      IsRepeated a b → IsPropagated b c → IsRepeated c q → IsPassedTo m Cse q
  drops : {start q : Mach} → IsPassedTo m Cse start → IsDropped start q → IsPassedTo m Dead q
  spills : {start a b q : Mach} → IsPassedTo m Dead start → HasConstantsFirst start a → IsSunk a b →
      IsSpilled b q → IsPassedTo m Spill q
  splits : {start q : Mach} → IsPassedTo m Spill start → IsSplit start q → IsPassedTo m Split q

-- It is a stage of these.
abbrev pub IsOverMach : Stage → Type 0
IsOverMach Select = ⊤
IsOverMach CombAlloc = ⊤
IsOverMach Cse = ⊤
IsOverMach Dead = ⊤
IsOverMach Spill = ⊤
IsOverMach Split = ⊤
IsOverMach Alloc = ⊥
IsOverMach Linear = ⊥
IsOverMach Frames = ⊥
IsOverMach Code = ⊥
