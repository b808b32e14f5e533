use Rattle.std.proofs.Common.{arith}
use Rattle.assemble.proofs.Bounds.{end_most, end_short}
use Rattle.assemble.proofs.source.Source.address_of_label.Goals as goal

pub overflow_add-entry : goal.overflow_add-entry
overflow_add-entry c = omega (arith, c.place.ensures, c.requires.low, end_most c.args.self.now c.requires.source)

pub place_address-requires : goal.place_address-requires
place_address-requires c = omega (arith, c.place.ensures, c.requires.low, end_most c.args.self.now c.requires.source)

pub overflow_cast-result : goal.overflow_cast-result
overflow_cast-result c =
    omega (arith, c.place_address.ensures, c.place.ensures, c.requires.low, end_short c.args.self.now c.requires.source c.requires.fits)
