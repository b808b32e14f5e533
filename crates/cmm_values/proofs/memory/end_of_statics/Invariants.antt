use Rattle.std.proofs.Common.{◌≡◌, drop, map}
use Rattle.bs_words.specs.Fits.{data_start}
use Rattle.bs_words.specs.Memory.{end_of_statics}
use Rattle.cmm_values.specs.Views.{list_view}
use Rattle.cmm_values.proofs.memory.end_of_statics.Given as goal

abbrev pub invariant-loop-list : goal.invariant-loop-list
invariant-loop-list l = end_of_statics data_start (map list_view l.lists) ≡ end_of_statics l.end (map list_view (drop l.list-index l.lists))
