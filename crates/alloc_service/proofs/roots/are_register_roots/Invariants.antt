use Rattle.std.proofs.Common.{◌≡◌, drop, slice_index}
use Rattle.std.specs.List.{list_all}
use Rattle.image_form.specs.Tables.{tables}
use Rattle.rv_machine.specs.Frames.{registers_named}
use Rattle.alloc_service.specs.Forward.{root_by}
use Rattle.alloc_service.proofs.roots.are_register_roots.Given as goal

abbrev pub invariant-loop-entry : goal.invariant-loop-entry
invariant-loop-entry l =
    list_all (λ r. root_by (tables l.image) l.table (slice_index l.registers r)) (registers_named l.entries)
    ≡ list_all (λ r. root_by (tables l.image) l.table (slice_index l.registers r)) (registers_named (drop l.entry-index l.entries))
