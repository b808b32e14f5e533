-- Selected code is well formed.
use Rattle.cmm_tree.specs.Tree.{FunctionTree}
use Rattle.mach_ir.specs.Formed.{WellFormed}
use Rattle.selection_rules.specs.Select.{selected}
use Rattle.selection_laws.specs.Fits.{FunctionFits}
use Rattle.selection_laws.proofs.WellFormed.{formed_by_numbers}
use Rattle.selection_places.proofs.Whole.{selected_numbers}

pub selected_well_formed : (f : FunctionTree) → FunctionFits f → WellFormed (selected f)
selected_well_formed f fits = formed_by_numbers f fits (selected_numbers f)
