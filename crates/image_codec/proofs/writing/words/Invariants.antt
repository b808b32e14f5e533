use Rattle.std.proofs.Common.{◌≡◌, take}
use Rattle.std.specs.List.{flat_map}
use Rattle.image_form.specs.Image.{le32}
use Rattle.image_codec.proofs.writing.words.Given as goal

abbrev pub invariant-loop-number : goal.invariant-loop-number
invariant-loop-number l = l.out.items ≡ flat_map le32 (take l.number-index l.numbers)
