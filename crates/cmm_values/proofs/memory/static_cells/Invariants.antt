use Rattle.std.proofs.Common.{◌≡◌, map}
use Rattle.cmm_data.specs.Map.{cells_view}
use Rattle.cmm_values.specs.Views.{list_view}
use Rattle.cmm_values.proofs.memory.static_cells.Given as goal

abbrev pub invariant-loop-list : goal.invariant-loop-list
invariant-loop-list l = map list_view l.statics.items ≡ map cells_view l.yielded
