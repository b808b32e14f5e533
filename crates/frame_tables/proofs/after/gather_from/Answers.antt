use Rattle.std.proofs.Common.{sym, ap, ◌∙◌, ◌++◌, List, ℕ}
use Rattle.frame_tables.proofs.Pointing.{gathers_from}
use Rattle.frame_tables.proofs.after.gather_from.Goals as goal

pub returns-in_ok-extend_from_slice-in-Some : goal.returns-in_ok-extend_from_slice-in-Some
returns-in_ok-extend_from_slice-in-Some c =
    gathers_from c.args.search.now c.args.nodes.now c.args.choice c.args.aside c.args.number c.args.numbers.now.items
    c.extend_from_slice.new.self.items c.in-Some.node.now (c.is_chosen.ensures.0 c.if-is_chosen.true) (sym c.in-Some.ensures)
    (c.in_ok-extend_from_slice-in-Some.ensures.items ∙ ap (λ (xs : List ℕ). c.args.numbers.now.items ++ xs) c.edges.ensures)
