use Rattle.std.proofs.Common.{sym, ◌∙◌}
use Rattle.par_moves.proofs.PendingRows.{taken_none, taken_some, fewer_by_one, popped}
use Rattle.par_moves.proofs.pending.Pending.take.Goals as goal

pub returns-in_default-clause-taken : goal.returns-in_default-clause-taken
returns-in_default-clause-taken c = λ moves holds.
    let t = taken_none c.args.source c.key-key.result moves c.args.self.now.readers c.remove.new.self c.key-key.ensures holds (sym c.remove.ensures.value ∙ c.in_default.is) c.in_default.ensures.unchanged in
    (t.first, t.left)

pub returns-clause-taken : goal.returns-clause-taken
returns-clause-taken c = λ moves holds.
    let p = popped c.in-Some.row c.pop-found.new.self c.pop-found.result c.pop-found.ensures.items c.pop-found.ensures.cases in
    let t = taken_some c.args.source c.key-key.result moves c.args.self.now.readers c.remove.new.self c.insert.new.self c.in-Some.row c.pop-found.new.self c.pop-found.result c.key-key.ensures holds (sym c.remove.ensures.value ∙ c.in-Some.is) p c.remove.ensures.updates c.in_ok-insert.ensures.updates in
    (t.first, t.left)

pub returns-clause-fewer : goal.returns-clause-fewer
returns-clause-fewer c =
    fewer_by_one c.key-key.result c.args.self.now.readers c.remove.new.self c.insert.new.self c.in-Some.row c.pop-found.new.self c.pop-found.result (sym c.remove.ensures.value ∙ c.in-Some.is) c.remove.ensures.entries c.remove.ensures.updates.1 c.in_ok-insert.ensures.entries c.pop-found.ensures.cases
