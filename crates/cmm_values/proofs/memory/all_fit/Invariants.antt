use Rattle.std.proofs.Common.{◌≡◌, drop}
use Rattle.bs_words.specs.Memory.{all_fit}
use Rattle.cmm_values.proofs.memory.all_fit.Given as goal

-- the values that are left say it
abbrev pub invariant-loop-value : goal.invariant-loop-value
invariant-loop-value l = all_fit l.end l.ty l.values ≡ all_fit l.end l.ty (drop l.value-index l.values)
