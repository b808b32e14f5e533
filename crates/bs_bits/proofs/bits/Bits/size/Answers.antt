use Rattle.std.proofs.Common.{sym}
use Rattle.bs_bits.proofs.Members.{size_is}
use Rattle.bs_bits.proofs.bits.Bits.size.Goals as goal

pub returns : goal.returns
returns c = sym (size_is _ _ _ c.self.view_is)
