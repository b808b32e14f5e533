use Rattle.std.proofs.Common.{get_or, ap, ◌∙◌, arith}
use Rattle.assemble.proofs.Bounds.{end_most, entry_within}
use Rattle.assemble.proofs.Made.{got}
use Rattle.assemble.proofs.source.Source.address_of_value.Goals as goal

pub place_address-requires : goal.place_address-requires
place_address-requires c =
    let s = c.args.self.now in
    let f = c.in-Function.function in
    let is = got c.deref.result.now f c.in-Some.entry.now c.in-Some.ensures.lookup.0 c.in-Some.ensures.lookup.1 ∙ ap (λ l. get_or l f 0) c.deref.ensures.value in
    omega (arith, is, entry_within s c.requires f, end_most s c.requires)
