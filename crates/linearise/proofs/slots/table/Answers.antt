use Rattle.std.proofs.Common.{ap, ◌∙◌}
use Rattle.linearise.specs.Numbers.{running}
use Rattle.linearise.proofs.Numbering.{table_of}
use Rattle.linearise.proofs.slots.table.Goals as goal

pub returns : goal.returns
returns c =
    table_of c.args.slots.now c.in_ok-flags.flags.items c.in_ok-numbers.numbers.items c.in_ok-flags.ensures (c.in_ok-numbers.ensures ∙ ap (running 0) c.as_slice.ensures.value)
