use Rattle.std.proofs.Common.{◌≡◌, ◌++◌, map, take}
use Rattle.image_form.specs.Image.{comp_byte}
use Rattle.external_rows.proofs.rows.put_comps.Given as goal

abbrev pub invariant-loop-comp : goal.invariant-loop-comp
invariant-loop-comp l = l.key.items ≡ l.fn.key.items ++ map comp_byte (take l.comp-index l.comps)
