use Rattle.std.proofs.Common.{arith}
use Rattle.image_codec.proofs.ImageLaws.{found_from, only_from, refused_from}
use Rattle.image_codec.proofs.reading.read_image.Goals as goal

pub returns : goal.returns
returns c = record {
  found = found_from c.args.bytes.now (λ i. omega (arith, c.type_inv.bytes i)) c.image_from.result c.image_from.ensures.reads;
  only = only_from c.args.bytes.now c.image_from.result c.image_from.ensures.reads;
  refused = refused_from c.args.bytes.now c.image_from.result c.image_from.ensures.reads;
  memory = c.image_from.ensures.memory;
}
