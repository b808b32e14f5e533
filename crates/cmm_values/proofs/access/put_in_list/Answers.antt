use Rattle.std.proofs.Common.{List, ap, arith, slice_set, [], ◌<◌, length}
use Rattle.bs_words.specs.Memory.{StaticList}
use Rattle.bs_words.specs.declared.values.Value.{Value}
use Rattle.cmm_values.specs.Views.{list_view}
use Rattle.cmm_values.proofs.AtPlaces.{map_changed}
use Rattle.cmm_values.proofs.access.put_in_list.Goals as goal

pub returns-then-list-len : goal.returns-then-list-len
returns-then-list-len c =
    let there : c.args.list < length c.args.lists.now.items = omega arith in
    let l = c.index_mut-statics.result.now in
    let put : StaticList → StaticList =
    λ b. record { start = b.start; size = b.size; cells = slice_set b.cells c.args.index c.args.value } in
    let cells : List Value → StaticList = λ cells. record { start = l.start; size = l.size; cells = cells } in
    map_changed list_view put c.args.lists.now.items c.args.list l
    (record { start = l.start; size = l.size; cells = c.put_in_cells.new.cells })
    (record { start = 0; size = 0; cells = [] }) there c.index_mut-statics.ensures.value (ap cells c.put_in_cells.ensures)
