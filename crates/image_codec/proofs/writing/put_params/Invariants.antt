use Rattle.std.proofs.Common.{◌≡◌, ◌∷◌, ◌++◌, length, take, map}
use Rattle.image_form.specs.Image.{comp_byte}
use Rattle.image_codec.proofs.writing.put_params.Given as goal

abbrev pub invariant-loop-comp : goal.invariant-loop-comp
invariant-loop-comp l = l.out.items ≡ l.fn.out.items ++ (length l.params ∷ map comp_byte (take l.comp-index l.params))
