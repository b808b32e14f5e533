-- Selected code is well formed, where a number identifies a register.
use Rattle.std.proofs.Common.{◌≡◌}
use Rattle.cmm_tree.specs.Tree.{FunctionTree}
use Rattle.mach_ir.specs.Formed.{WellFormed}
use Rattle.mach_ir.specs.Walks.{IsRegister}
use Rattle.mach_ir.specs.declared.mach.Mach.{Mach}
use Rattle.mach_ir.specs.declared.reg.Reg.{Reg}
use Rattle.selection_rules.specs.Select.{selected}
use Rattle.selection_laws.specs.Fits.{FunctionFits}
use Rattle.selection_laws.proofs.Proper.{selected_formed, selected_distinct, selected_returns}
use Rattle.selection_laws.proofs.Marked.{selected_params, selected_params_distinct, selected_labels_once, selected_labels_below}
use Rattle.selection_laws.proofs.Nested.{selected_labels_stand, selected_nested}
use Rattle.selection_laws.proofs.CasesAgree.{selected_cases}

abbrev pub NumbersTell : Mach → Type 0
NumbersTell m = (r q : Reg) → IsRegister m r → IsRegister m q → r.number ≡ q.number → r ≡ q

-- All that is asked of the form of a function but that a number identifies a register, which is asked for here.
pub formed_by_numbers : (f : FunctionTree) → FunctionFits f → NumbersTell (selected f) → WellFormed (selected f)
formed_by_numbers f fits numbers =
    record {
      numbers = numbers;
      params = selected_params f;
      params_distinct = selected_params_distinct f;
      instrs = selected_formed f fits;
      distinct = selected_distinct f fits;
      returns = selected_returns f fits;
      labels_once = selected_labels_once f;
      labels_below = selected_labels_below f;
      labels = selected_labels_stand f fits;
      nested = selected_nested f fits;
      cases = selected_cases f fits;
    }
