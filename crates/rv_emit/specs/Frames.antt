-- Frames as the code has them.
use Rattle.rv_emit_rules.specs.Entry.{FrameLayout}
use Rattle.rv_emit.specs.declared.form.FrameForm.{FrameForm}

abbrev pub frame_layout_of : FrameForm → FrameLayout
frame_layout_of f = record { bytes = f.bytes; saves = f.saves }
