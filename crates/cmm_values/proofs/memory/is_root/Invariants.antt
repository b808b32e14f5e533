use Rattle.std.proofs.Common.{◌≡◌, drop}
use Rattle.bs_words.specs.Memory.{is_root}
use Rattle.cmm_values.proofs.memory.is_root.Given as goal

-- the roots that are left say it
abbrev pub invariant-loop-root : goal.invariant-loop-root
invariant-loop-root l = is_root l.roots l.address ≡ is_root (drop l.root-index l.roots) l.address
