use Rattle.std.proofs.Common.{◌≡◌, ◌++◌, length, take}
use Rattle.std.specs.List.{flat_map}
use Rattle.image_form.specs.Image.{le32}
use Rattle.image_codec.proofs.writing.root_table.Given as goal

abbrev pub invariant-loop-root : goal.invariant-loop-root
invariant-loop-root l = l.out.items ≡ le32 (length l.roots) ++ flat_map le32 (take l.root-index l.roots)
