-- What crates above use of those below, handed on: a line in crates.txt for each would cost the gate its start.
pub use Rattle.cmm_meaning.specs.Setting.{Setting}
pub use Rattle.cmm_meaning.specs.State.{Asked, Callee, Doing}
pub use Rattle.mach_ir.specs.Acts.{At, On, Target}
pub use Rattle.mach_ir.specs.Forms.{IsTested}
pub use Rattle.mach_ir.specs.Meaning.{Destroyed, Everything, Nothing, Temporaries, is_destroyed, is_temporary}
pub use Rattle.mach_ir.specs.Walks.{OneOf, other, this}
pub use Rattle.mach_ir.specs.declared.op.External.{External}
