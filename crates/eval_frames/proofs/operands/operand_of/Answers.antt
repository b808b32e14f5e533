use Rattle.std.proofs.Common.{refl}
use Rattle.eval_frames.proofs.operands.operand_of.Goals as goal

pub returns-in-Assign : goal.returns-in-Assign
returns-in-Assign c s tail h w = rw (c.in-Assign.is, c.deref.ensures) refl

pub returns-in-Load : goal.returns-in-Load
returns-in-Load c s tail h w = rw (c.in-Load.is, c.deref-in-Load.ensures) refl

pub returns-in-Raise : goal.returns-in-Raise
returns-in-Raise c s tail h w = rw (c.in-Raise.is, c.deref-in-Raise.ensures) refl

pub returns-in-If : goal.returns-in-If
returns-in-If c s tail h w = rw (c.in-If.is, c.deref-in-If.ensures) refl

pub returns-in-Switch : goal.returns-in-Switch
returns-in-Switch c s tail h w = rw (c.in-Switch.is, c.deref-in-Switch.ensures) refl
