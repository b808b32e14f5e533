use Rattle.std.proofs.Common.{arith}
use Rattle.bs_bits.proofs.Members.{within_words, contained}
use Rattle.bs_bits.proofs.bits.Bits.contains.Goals as goal

pub index-requires : goal.index-requires
index-requires c = omega (arith, c.self.inside.words.ok, within_words _ _ _ c.args.k c.self.view_is c.self.invariant c.requires)

pub returns : goal.returns
returns c = contained _ _ _ c.args.k _ c.self.view_is c.self.invariant c.requires c.index.ensures
