use Rattle.std.proofs.Common.{◌∙◌}
use Rattle.assemble.proofs.Made.{roots_made}
use Rattle.assemble.proofs.source.Source.roots.Goals as goal

pub returns : goal.returns
returns c =
    c.from_vec.ensures ∙ roots_made c.args.self.now c.requires _ c.loop-address.address-index _ c.loop-address.invariant.items c.loop-address-test.false c.loop-address.invariant.roots
