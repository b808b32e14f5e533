use Rattle.std.proofs.Common.{◌≡◌, ℕ, ◌++◌, length, slice_index}
use Rattle.rv_emit_rules.specs.Emitted.{parts_of_lines}
use Rattle.rv_emit.specs.Frames.{frame_layout_of}
use Rattle.rv_emit.proofs.output.Output.parts.Given as goal

abbrev pub invariant-loop-line : goal.invariant-loop-line
invariant-loop-line l =
    l.initial.self.pieces.items ++ parts_of_lines (λ (left : ℕ). slice_index l.pushed left) (frame_layout_of l.frame) l.descriptors l.code
    ≡ l.self.pieces.items ++ parts_of_lines (λ (left : ℕ). slice_index l.pushed left) (frame_layout_of l.frame) l.left l.rest

abbrev pub decreases-loop-line : goal.decreases-loop-line
decreases-loop-line l = length l.rest
