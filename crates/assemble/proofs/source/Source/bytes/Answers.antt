use Rattle.std.proofs.Common.{◌∙◌}
use Rattle.assemble.proofs.Made.{bytes_made}
use Rattle.assemble.proofs.source.Source.bytes.Goals as goal

pub returns : goal.returns
returns c =
    c.from_vec.ensures ∙ (c.truncate.ensures.items ∙ bytes_made c.args.self.now c.requires _ c.loop-list.list-index c.loop-list.bytes.items c.loop-list.invariant.items c.loop-list-test.false c.loop-list.invariant.bytes)
