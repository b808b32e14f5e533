use Rattle.std.proofs.Common.{sym, subst, refl}
use Rattle.liveness.specs.Nodes.{AreLivenessNodes}
use Rattle.spill.specs.Graphs.{wanted_uses}
use Rattle.spill.proofs.WantedFlow.{are_wanted, wanted_formed}
use Rattle.spill.proofs.wanted.wanted.Goals as goal

pub live-requires : goal.live-requires
live-requires c =
    let m = c.args.mach.now in
    let rows = c.args.lost.now.rows.items in
    wanted_formed m rows c.requires.lost c.args.flow.now c.requires.flow c.requires.formed
    (record { places = c.from_vec.result; bound = c.args.flow.now.bound })
    (subst (AreLivenessNodes m (wanted_uses m rows) m.code) (sym c.from_vec.ensures) c.in_ok-nodes.ensures) refl

pub returns : goal.returns
returns c =
    let m = c.args.mach.now in
    let rows = c.args.lost.now.rows.items in
    are_wanted m rows c.requires.lost c.args.flow.now c.requires.flow c.requires.formed
    (record { places = c.from_vec.result; bound = c.args.flow.now.bound })
    (subst (AreLivenessNodes m (wanted_uses m rows) m.code) (sym c.from_vec.ensures) c.in_ok-nodes.ensures) refl c.in_ok-rows.rows.rows.items
    c.in_ok-rows.ensures
