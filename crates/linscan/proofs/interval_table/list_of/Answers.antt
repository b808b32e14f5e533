use Rattle.std.proofs.Common.{rules}
use Rattle.linscan.proofs.Listing.{rows_none}
use Rattle.linscan.proofs.interval_table.list_of.Goals as goal

pub loop-register-init : goal.loop-register-init
loop-register-init c = rows_none c.args.ranges.now c.new-list.result.items (search rules)
