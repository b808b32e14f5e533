use Rattle.std.proofs.Common.{◌≡◌, drop}
use Rattle.cmm_tree.specs.View.{params_view}
use Rattle.cmm_types.specs.Types.{has_float_parameter}
use Rattle.cmm_types.proofs.seen.has_float.Given as goal

abbrev pub invariant-loop-param : goal.invariant-loop-param
invariant-loop-param l = has_float_parameter (params_view (drop l.param-index l.params)) ≡ has_float_parameter (params_view l.params)
