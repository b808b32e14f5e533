use Rattle.std.proofs.Common.{◌≡◌, drop}
use Rattle.std.specs.List.{list_all}
use Rattle.rv_machine.specs.Frames.{is_stack_word, slots_named}
use Rattle.alloc_service.proofs.stack.are_stack_words.Given as goal

abbrev pub invariant-loop-entry : goal.invariant-loop-entry
invariant-loop-entry l =
    list_all (is_stack_word l.base) (slots_named l.at l.entries)
    ≡ list_all (is_stack_word l.base) (slots_named l.at (drop l.entry-index l.entries))
