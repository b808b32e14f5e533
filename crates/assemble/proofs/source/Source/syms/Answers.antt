use Rattle.std.proofs.Common.{map, ap, ◌∙◌}
use Rattle.image_form.specs.Tables.{sym}
use Rattle.assemble.proofs.Made.{syms_made}
use Rattle.assemble.proofs.source.Source.syms.Goals as goal

pub returns : goal.returns
returns c =
    ap (map sym) c.from_vec.ensures ∙ syms_made c.args.self.now c.requires _ c.loop-symbol.symbol-index _ c.loop-symbol.invariant.items c.loop-symbol-test.false c.loop-symbol.invariant.rows
