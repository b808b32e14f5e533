use Rattle.std.proofs.Common.{◌≡◌, ◌++◌, map, drop}
use Rattle.eval_frames.specs.Around.{functions_in}
use Rattle.cmm_eval.proofs.evaluation.functions_of.Given as goal

-- the functions so far, and those of the items that are left
abbrev pub invariant-loop-item : goal.invariant-loop-item
invariant-loop-item l = map (λ f. f.now) l.functions.items ++ functions_in (drop l.item-index l.item-items) ≡ functions_in l.item-items
