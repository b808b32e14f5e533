use Rattle.std.proofs.Common.{◌≡◌, map, take}
use Rattle.cmm_tree.specs.Tree.{Parameter}
use Rattle.cmm_tree.specs.View.{param_view}
use Rattle.assemble.proofs.rows.comps_of.Given as goal

abbrev pub invariant-loop-param : goal.invariant-loop-param
invariant-loop-param l = l.comps.items ≡ map (λ (p : Parameter). p.comp) (map param_view (take l.param-index l.params))
