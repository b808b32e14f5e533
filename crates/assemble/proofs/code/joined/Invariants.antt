use Rattle.std.proofs.Common.{◌≡◌, ◌++◌, map}
use Rattle.std.specs.List.{flat_map}
use Rattle.assemble.specs.declared.code.Code.{Code}
use Rattle.image_form.specs.Image.{stub}
use Rattle.image_form.specs.Tables.{desc}
use Rattle.assemble.proofs.code.joined.Given as goal

abbrev pub invariant-loop-part : goal.invariant-loop-part
invariant-loop-part l = record {
  words : l.words.items ≡ stub ++ flat_map (λ (part : Code). part.words.items) l.yielded;
  descs : map desc l.descs.items ≡ flat_map (λ (part : Code). map desc part.descs.items) l.yielded;
}
