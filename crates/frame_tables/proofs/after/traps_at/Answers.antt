use Rattle.frame_tables.proofs.after.traps_at.Goals as goal

pub returns-then-is_chosen : goal.returns-then-is_chosen
returns-then-is_chosen c = λ n k x.
    let chosen = c.is_chosen.ensures.0 c.if-is_chosen.true in
    record { number = _; chosen = chosen; is = c.traps_of.ensures chosen.found chosen.is }
