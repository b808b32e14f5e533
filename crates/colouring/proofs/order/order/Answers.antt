use Rattle.std.proofs.Common.{◌≡◌, List, sym, subst, ap, ◌∙◌}
use mathlib.Core.Path.{fun_ext}
use Rattle.mach_ir.specs.Placed.{Colouring}
use Rattle.mach_ir.specs.declared.graph.Node.{Node}
use Rattle.colouring.specs.Chosen.{fixed, IsOrder}
use Rattle.colouring.specs.Tables.{AreRanked, places_by, ranked_nodes}
use Rattle.colouring.proofs.Urgent.{is_order}
use Rattle.colouring.proofs.order.order.Goals as goal

pub returns : goal.returns
returns c =
    let same : places_by c.args.places.now ≡ fixed c.args.graph.now = fun_ext c.requires.places in
    let ranked = subst (λ (place : Colouring). AreRanked place c.args.fresh c.in_ok-ranked.ranked.items) same c.in_ok-ranked.ensures.ranked in
    subst (λ (l : List Node). IsOrder c.args.fresh c.args.graph.now l) (ap ranked_nodes (sym c.as_slice.ensures.value) ∙ sym c.in_ok-nodes.ensures)
    (is_order c.args.graph.now c.args.fresh c.in_ok-ranked.ranked.items c.sort_by_urgency.new.nodes.items c.requires.ordered
    c.in_ok-ranked.ensures.nodes ranked
    c.in_ok-sort_by_urgency.ensures.permutation c.in_ok-sort_by_urgency.ensures.sorted
    c.in_ok-sort_by_urgency.ensures.stable)
