-- The frame is small, since the entry is a place.
use Rattle.std.proofs.Common.{◌+◌, ◌*◌, ◌≤◌, [], arith}
use Rattle.lin_ir.specs.Descriptors.{frame_bytes}
use Rattle.lin_ir.specs.Walks.{at_entry, by_walk}
use Rattle.rv_emit.proofs.emission.emit.Goals as goal

pub emit_with-requires : goal.emit_with-requires
emit_with-requires c =
    let f : frame_bytes c.args.lin.now + 16 * 0 ≤ 1048576 = c.requires.within.frame c.args.lin.now.code [] (by_walk at_entry) in omega (arith, f)
