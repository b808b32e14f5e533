use Rattle.std.proofs.Common.{sym, subst}
use Rattle.lin_laws.specs.Graph.{AreNumbered}
use Rattle.lin_tidy.specs.Sizes.{HasTidyRoom}
use Rattle.lin_pass.proofs.Promised.{lowered_numbered, linear_ok}
use Rattle.lin_pass.proofs.Room.{slots_room, tidy_room}
use Rattle.lin_pass.proofs.whole.linear.Goals as goal

pub lower-requires : goal.lower-requires
lower-requires c = slots_room c.args.mach.now c.requires.room

pub tidy-requires : goal.tidy-requires
tidy-requires c =
    let p = c.args.mach.now in
    let same = sym c.in_ok-lowered.ensures in
    record {
      numbered = subst AreNumbered same (lowered_numbered p c.requires.well_formed c.requires.placed);
      room = subst HasTidyRoom same (tidy_room p c.requires.room c.requires.well_formed c.requires.placed c.requires.seated);
    }

pub returns : goal.returns
returns c =
    linear_ok c.args.mach.now c.requires.well_formed c.requires.placed c.in_ok-lowered.lowered c.tidy.result c.requires.seated c.in_ok-lowered.ensures
    c.tidy.ensures
