use Rattle.std.proofs.Common.{◌<◌, ◌≤◌, length, arith, ◌∙◌}
use Rattle.frame_tables.proofs.Lists.{entries_step, entries_done}
use Rattle.frame_tables.proofs.entries.entries_of.Goals as goal

pub loop-number-preserved : goal.loop-number-preserved
loop-number-preserved c =
    let lt : c.loop-number.number < length c.args.set.now = omega (arith, c.loop-number-test.true, c.size-number-end.ensures) in
    entries_step c.args.traps c.loop-number.number c.args.set.now c.loop-number.entries.items c.push_entry.new.entries.items c.contains.result lt
    c.contains.ensures c.loop-number.invariant c.in_ok-push_entry.ensures

pub returns : goal.returns
returns c =
    let le : length c.args.set.now ≤ c.loop-number.number = omega (arith, c.loop-number-test.false, c.size-number-end.ensures) in
    c.from_vec.ensures ∙ entries_done c.args.traps c.loop-number.number c.args.set.now c.loop-number.entries.items le c.loop-number.invariant
