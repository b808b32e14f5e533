use Rattle.std.proofs.Common.{◌≡◌, drop, map}
use Rattle.bs_words.specs.Memory.{in_statics}
use Rattle.cmm_values.specs.Views.{list_view}
use Rattle.cmm_values.proofs.access.in_statics.Given as goal

-- the lists that are left say it
abbrev pub invariant-loop-number : goal.invariant-loop-number
invariant-loop-number l =
    in_statics 0 (map list_view l.lists) l.address l.bytes ≡ in_statics l.number (map list_view (drop l.number l.lists)) l.address l.bytes
