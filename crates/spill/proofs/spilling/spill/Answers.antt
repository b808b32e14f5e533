use Rattle.spill_rules.proofs.Chosen.{spilled_kept}
use Rattle.spill.proofs.Choosing.{spilled_by}
use Rattle.spill.proofs.Copying.{countable, slots_fit}
use Rattle.spill.proofs.spilling.spill.Goals as goal

pub returns-clause-spilled : goal.returns-clause-spilled
returns-clause-spilled c = λ formed.
    spilled_by c.args.mach c.in_ok-tables.tables c.in_ok-tables.ensures formed c.in_ok-code.code c.in_ok-code.ensures

pub returns-clause-kept : goal.returns-clause-kept
returns-clause-kept c = λ formed placed params s. spilled_kept _ _ formed placed params s

pub tables_of-requires : goal.tables_of-requires
tables_of-requires c = record { countable = countable c.args.mach c.requires.room }

pub spill_code-requires : goal.spill_code-requires
spill_code-requires c = slots_fit c.args.mach c.in_ok-tables.tables.free c.in_ok-tables.ensures.least c.requires.room
