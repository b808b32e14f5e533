use Rattle.std.proofs.Common.{sym, ap, ◌∙◌}
use Rattle.colouring.specs.Chosen.{place_for}
use Rattle.colouring.specs.Tables.{places_by}
use Rattle.colouring.proofs.Turn.{chosen_same}
use Rattle.colouring.proofs.choosing.choose.Goals as goal

pub returns-in-Some : goal.returns-in-Some
returns-in-Some c =
    ap (place_for c.args.node.now.reg) (sym c.in-Some.is ∙ c.best.ensures) ∙
    chosen_same c.args.graph.now (places_by c.args.places.now) c.args.node.now c.new-tallies.result
    c.new-tallies.ensures.near c.new-tallies.ensures.own c.new-tallies.ensures.wanted

pub returns-in-None : goal.returns-in-None
returns-in-None c =
    ap (place_for c.args.node.now.reg) (sym c.in-None.is ∙ c.best.ensures) ∙
    chosen_same c.args.graph.now (places_by c.args.places.now) c.args.node.now c.new-tallies.result
    c.new-tallies.ensures.near c.new-tallies.ensures.own c.new-tallies.ensures.wanted
