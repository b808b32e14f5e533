use Rattle.std.proofs.Common.{sym}
use Rattle.walk_tables.proofs.Arena.{item-is}
use Rattle.walk_tables.proofs.items.Cells.get.Goals as goal

pub returns : goal.returns
returns c = rw (c.nth.ensures, c.as_slice.ensures.value) (sym (item-is c.args.self.now.items.items c.args.cell))
