use Rattle.std.proofs.Common.{List, ap, arith, slice_set, [], ◌<◌, length}
use Rattle.bs_words.specs.Memory.{HeapBlock}
use Rattle.bs_words.specs.declared.values.Value.{Value}
use Rattle.cmm_values.specs.Views.{block_view}
use Rattle.cmm_values.proofs.AtPlaces.{map_changed}
use Rattle.cmm_values.proofs.access.put_in_block.Goals as goal

pub returns-then-serial-len : goal.returns-then-serial-len
returns-then-serial-len c =
    let there : c.args.serial < length c.args.blocks.now.items = omega arith in
    let put : HeapBlock → HeapBlock = λ b. record { header = b.header; cells = slice_set b.cells c.args.index c.args.value } in
    let cells : List Value → HeapBlock = λ l. record { header = c.index_mut-block.result.now.header; cells = l } in
    map_changed block_view put c.args.blocks.now.items c.args.serial c.index_mut-block.result.now
    (record { header = c.index_mut-block.result.now.header; cells = c.put_in_cells.new.cells })
    (record { header = 0; cells = [] }) there c.index_mut-block.ensures.value (ap cells c.put_in_cells.ensures)
