use Rattle.std.proofs.Common.{◌≡◌, ◌++◌, false, drop}
use Rattle.lin_ir.specs.Text.{spots_text}
use Rattle.lin_ir.proofs.lines.put_more.Given as goal

abbrev pub invariant-loop-spot : goal.invariant-loop-spot
invariant-loop-spot l =
    l.initial.page.bytes.items ++ spots_text false l.spots ≡ l.page.bytes.items ++ spots_text false (drop l.spot-index l.spots)
