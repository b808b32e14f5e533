use Rattle.std.proofs.Common.{◌≡◌, drop}
use Rattle.std.specs.List.{list_all}
use Rattle.image_form.specs.Tables.{tables}
use Rattle.rv_machine.specs.Frames.{slots_named}
use Rattle.rv_machine.specs.Memory.{memory_word}
use Rattle.alloc_service.specs.Forward.{root_by}
use Rattle.alloc_service.proofs.roots.are_slot_roots.Given as goal

abbrev pub invariant-loop-entry : goal.invariant-loop-entry
invariant-loop-entry l =
    list_all (λ a. root_by (tables l.image) l.table (memory_word l.memory a)) (slots_named l.at l.entries)
    ≡ list_all (λ a. root_by (tables l.image) l.table (memory_word l.memory a)) (slots_named l.at (drop l.entry-index l.entries))
