use Rattle.std.proofs.Common.{◌≡◌, drop}
use Rattle.rv_machine.specs.Frames.{slots_named}
use Rattle.alloc_service.specs.Forward.{forward, redirected_now}
use Rattle.alloc_service.proofs.moves.redirect_frame.Given as goal

abbrev pub invariant-loop-entry : goal.invariant-loop-entry
invariant-loop-entry l =
    redirected_now (forward l.table) l.memory (slots_named l.at (drop l.entry-index l.entries))
    ≡ redirected_now (forward l.table) l.initial.memory (slots_named l.at l.entries)
