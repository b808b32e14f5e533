use Rattle.std.proofs.Common.{◌≡◌, ap, sym, ◌∙◌, arith}
use Rattle.std.proofs.lemmas.List.{get_or_read}
use Rattle.rv_machine.specs.Marks.{Marks, mark_at, mark_by, mark_index}
use Rattle.rv_machine.proofs.table.Table.mark_of.Goals as goal

pub returns-in-Some : goal.returns-in-Some
unfolding mark_at
returns-in-Some c =
    let e : mark_at c.args.self.now c.args.address ≡ mark_by c.self.inside.marks.items (mark_index c.self.inside.heap c.args.address) =
    ap (λ (t : Marks). mark_by t.marks (mark_index t.heap c.args.address)) (sym c.self.view_is) in
    get_or_read c.self.inside.marks.items c.in-Some.place c.index.result.now (omega (arith, c.in-Some.ensures.within, c.self.invariant.2)) c.index.ensures 0
    ∙ ap (mark_by c.self.inside.marks.items) c.in-Some.ensures.exact ∙ sym e

pub returns-in-None : goal.returns-in-None
unfolding mark_at
returns-in-None c =
    ap (mark_by c.self.inside.marks.items) c.in-None.ensures.exact
    ∙ ap (λ (t : Marks). mark_by t.marks (mark_index t.heap c.args.address)) c.self.view_is
