use Rattle.bs_bits.proofs.Sets.{next_none, next_some}
use Rattle.bs_bits.proofs.bits.Bits.next.Goals as goal

pub returns-in-None : goal.returns-in-None
returns-in-None c = next_none _ _ _ _ _ c.self.view_is c.self.invariant c.deref.ensures.value c.in-None.ensures

pub returns-in-Some : goal.returns-in-Some
returns-in-Some c = next_some _ _ _ _ _ _ c.self.view_is c.self.invariant c.deref.ensures.value c.in-Some.ensures
