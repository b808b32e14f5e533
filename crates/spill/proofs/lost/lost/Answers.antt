use Rattle.std.proofs.Common.{sym, subst, refl}
use Rattle.spill.specs.Graphs.{AreLostNodes}
use Rattle.spill.proofs.LostFlow.{are_lost, lost_formed}
use Rattle.spill.proofs.lost.lost.Goals as goal

pub reaching-requires : goal.reaching-requires
reaching-requires c =
    lost_formed c.args.mach.now c.args.live.now c.requires.live c.args.flow.now c.requires.flow c.requires.formed
    (record { places = c.from_vec.result; bound = c.args.flow.now.bound })
    (subst (AreLostNodes c.args.mach.now c.args.live.now.before.rows.items c.args.flow.now.bound c.args.mach.now.code) (sym c.from_vec.ensures)
    c.in_ok-nodes.ensures) refl

pub returns : goal.returns
returns c =
    are_lost c.args.mach.now c.args.live.now c.requires.live c.args.flow.now c.requires.flow c.requires.formed
    (record { places = c.from_vec.result; bound = c.args.flow.now.bound })
    (subst (AreLostNodes c.args.mach.now c.args.live.now.before.rows.items c.args.flow.now.bound c.args.mach.now.code) (sym c.from_vec.ensures)
    c.in_ok-nodes.ensures) refl c.in_ok-rows.rows.rows.items c.in_ok-rows.ensures
