-- The stages that are texts of an image.
use Rattle.std.specs.Prelude.{⊤}
use Rattle.stages.specs.declared.stage.Stage.{Stage}
use Rattle.stages.specs.declared.stage.Stage.TheVariants.{Select, CombAlloc, Cse, Dead, Spill, Split, Alloc, Linear, Frames, Code}

-- it is a text of the image, and of no function: where a section of that passes its limit there is none
abbrev pub IsOfImage : Stage → Type 0
IsOfImage Frames = ⊤
IsOfImage Code = ⊤
IsOfImage Select = ⊥
IsOfImage CombAlloc = ⊥
IsOfImage Cse = ⊥
IsOfImage Dead = ⊥
IsOfImage Spill = ⊥
IsOfImage Split = ⊥
IsOfImage Alloc = ⊥
IsOfImage Linear = ⊥
