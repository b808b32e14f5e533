use Rattle.std.proofs.Common.{refl}
use Rattle.eval_frames.proofs.operands.both_operands.Goals as goal

pub returns-in-Operator-clause-whole : goal.returns-in-Operator-clause-whole
returns-in-Operator-clause-whole c s tail h w = rw (c.in-Operator.is, c.deref.ensures, c.deref-in-Operator.ensures) refl

pub returns-in-Store-clause-whole : goal.returns-in-Store-clause-whole
returns-in-Store-clause-whole c s tail h w = rw (c.in-Store.is, c.deref-in-Store.ensures, c.deref-in-Store-2.ensures) refl

pub returns-in-Checkbound-clause-whole : goal.returns-in-Checkbound-clause-whole
returns-in-Checkbound-clause-whole c s tail h w = rw (c.in-Checkbound.is, c.deref-in-Checkbound.ensures, c.deref-in-Checkbound-2.ensures) refl
