-- What lines name.
use Rattle.std.specs.Prelude.{◌≡◌, ℕ, List, Contains}
use Rattle.mach_ir.specs.declared.op.External.{External}
use Rattle.mach_ir.specs.declared.op.Calling.TheVariants as calling
use Rattle.mach_ir.specs.declared.op.Op.TheVariants as op
use Rattle.lin_ir.specs.Formed.{NamesLabel}
use Rattle.lin_ir.specs.Walks.{StandsAsLine}
use Rattle.lin_ir.specs.declared.lin.LinOp.TheVariants as lin
use Rattle.lin_ir.specs.declared.lin.Line.{Line}
use Rattle.lin_ir.specs.declared.lin.Lin.{Lin}

pub record IsLabelOf (m : Lin) (l : ℕ) : Type 0 where
  pub line : Line
  pub next : List Line
  pub stands : StandsAsLine line next m.code
  pub named : NamesLabel l line.op

pub record IsExternalOf (m : Lin) (row : External) : Type 0 where
  pub line : Line
  pub among : Contains m.code line
  pub frame : _
  pub is : line.op ≡ lin.Op (op.Calling (calling.External row frame))
