-- When a Linear function does what another does, but that between calls what is round them may
-- differ.
use Rattle.std.specs.Prelude.{◌≡◌, map}
use Rattle.cmm_meaning.specs.Extends.{shape_of}
use Rattle.lin_ir.specs.Meaning.{State}
use Rattle.lin_ir.specs.declared.lin.Lin.{Lin}
use Rattle.lin_tidy_rules.specs.Keeps.{TidySimulation}

-- Both have pushed the same traps and allocated the same blocks, whatever these hold.
pub record SameShapes (s u : State) : Type 0 where
  pub tries : s.around.tries ≡ u.around.tries
  pub blocks : map shape_of s.around.memory.blocks ≡ map shape_of u.around.memory.blocks

-- Wherever the first is nowhere stuck, the second has the same calls in the same memories, the same
-- end, units and stack bytes, and while both are under way the same traps and blocks.
abbrev pub DoesShapes : Lin → Lin → Type 0
DoesShapes m r = TidySimulation SameShapes m r
