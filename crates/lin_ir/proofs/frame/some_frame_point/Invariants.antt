use Rattle.std.proofs.Common.{◌≡◌, drop}
use Rattle.lin_ir.specs.Descriptors.{has_frame_point}
use Rattle.lin_ir.proofs.frame.some_frame_point.Given as goal

abbrev pub invariant-loop-line : goal.invariant-loop-line
invariant-loop-line l = has_frame_point (drop l.line-index l.code) ≡ has_frame_point l.code
