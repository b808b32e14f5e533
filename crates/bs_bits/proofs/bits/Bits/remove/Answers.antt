use Rattle.std.proofs.Common.{arith}
use Rattle.bs_bits.proofs.Members.{within_words, removed, removed_is_bits}
use Rattle.bs_bits.proofs.bits.Bits.remove.Goals as goal

pub index-requires : goal.index-requires
index-requires c = omega (arith, c.self.inside.words.ok, within_words _ _ _ c.args.k c.self.view_is c.self.invariant c.requires)

pub index_mut-requires : goal.index_mut-requires
index_mut-requires c = omega (arith, c.self.inside.words.ok, within_words _ _ _ c.args.k c.self.view_is c.self.invariant c.requires)

pub invariant_of-self : goal.invariant_of-self
invariant_of-self c = removed_is_bits _ _ _ c.args.k _ c.self.view_is c.self.invariant c.requires c.index.ensures

pub returns : goal.returns
returns c = removed _ _ _ c.args.k _ c.self.view_is c.self.invariant c.requires c.index.ensures
