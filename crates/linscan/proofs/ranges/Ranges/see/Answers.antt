use Rattle.std.proofs.Common.{◌≡◌, Some, get_or, set, sym, subst}
use Rattle.linscan.specs.Seen.{RangeTable, Widens, IsSight}
use Rattle.linscan.proofs.Widening.{see_one}
use Rattle.linscan.proofs.ranges.Ranges.see.Goals as goal

pub returns : goal.returns
returns c =
    subst (λ (t : RangeTable). Widens c.args.self.now (set t c.args.number (Some c.widened-range.result)) (IsSight c.args.number c.args.place))
    (sym c.self.view_is)
    (see_one c.args.self.now c.args.number c.args.place c.index-was.result.now c.widened-range.result c.requires
    (subst (λ (t : RangeTable). c.index-was.result.now ≡ get_or t c.args.number c.index-was.result.now) c.self.view_is c.index-was.ensures)
    c.widened-range.ensures)
