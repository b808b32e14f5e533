-- What the laws of selection ask of a function.
use Rattle.std.specs.Prelude.{◌<◌, ◌^◌}
use Rattle.cmm_tree.specs.Tree.{FunctionTree}
use Rattle.selection_rules.specs.Select.{width}
use Rattle.selection_promise.specs.Known.{FunctionFits}

pub record Selectable (f : FunctionTree) : Type 0 where
  -- its tree fits
  pub fits : FunctionFits f
  -- its body has few registers and labels
  pub narrow : width f.body < 2 ^ 60
