use Rattle.std.proofs.Common.{◌≡◌, ℕ, ◌≤◌, List, ◌++◌, drop}
use Rattle.std.specs.Io.KnownBytes.{Appends}
use Rattle.rv_machine.specs.Text.{shown_text}
use Rattle.mover_runtime.proofs.text.write_shown.Given as goal

abbrev pub invariant-loop-obs : goal.invariant-loop-obs
invariant-loop-obs g l =
    ((done : List ℕ) × Appends (g.K.Sink.held l.fn.out) (g.K.Sink.held l.out) done
    × (shown_text l.shown ≡ done ++ shown_text (drop l.obs-index l.shown)))
    × (g.K.Sink.faults l.fn.out ≤ g.K.Sink.faults l.out)
