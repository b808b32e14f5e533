-- What the table of labels has.
use Rattle.std.specs.Prelude.{◌≡◌, ℕ, Bool, true, false, List, [], ◌∷◌}
use Rattle.mach_ir.specs.Labels as table
use Rattle.mach_ir.specs.Meaning.{after_label, from_handler}
use Rattle.mach_ir.specs.declared.mach.Mach.{Mach}
use Rattle.mach_laws.specs.Graph.{code_index}
use Rattle.liveness.specs.declared.labels.InstructionLabels.{InstructionLabels}

-- the place of a label
abbrev pub instruction_of_label : InstructionLabels → ℕ → ℕ
instruction_of_label labels l = table.place_of_label labels.places l

-- the place of a handler
abbrev pub handler_in : InstructionLabels → ℕ → ℕ
handler_in labels l = table.place_of_label labels.handlers l

-- it has the place after each label of the function, and that of each handler
pub record AreLabelsOf (m : Mach) (labels : InstructionLabels) : Type 0 where
  pub places : (l : ℕ) → instruction_of_label labels l ≡ code_index m (after_label l m.code)
  pub handlers : (l : ℕ) → handler_in labels l ≡ code_index m (from_handler l m.code)

-- where a raise leads, by the table
abbrev pub handler_places_in : InstructionLabels → Bool → List ℕ → List ℕ
handler_places_in labels false tries = []
handler_places_in labels true [] = []
handler_places_in labels true (l ∷ tries) = handler_in labels l ∷ []
