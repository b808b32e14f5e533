use Rattle.std.proofs.Common.{◌==◌, cond, ap, sym, ◌∙◌, arith}
use Rattle.rv_machine.specs.Marks.{Marks, mark_at}
use Rattle.rv_machine.proofs.Marks.{marked}
use Rattle.rv_machine.proofs.table.Table.mark.Goals as goal

pub returns-in-Some-clause-marked : goal.returns-in-Some-clause-marked
returns-in-Some-clause-marked c = λ other.
    marked c.self.inside.heap c.in-Some.place c.args.mark c.args.address other c.self.inside.marks.items c.self.invariant.0 c.self.invariant.1 (omega (arith, c.in-Some.ensures.within, c.self.invariant.2)) (sym c.in-Some.ensures.exact)
    ∙ ap (λ (t : Marks). cond (other == c.args.address) c.args.mark (mark_at t other)) c.self.view_is
