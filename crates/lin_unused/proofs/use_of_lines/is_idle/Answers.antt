use Rattle.lin_unused.proofs.SelfMoves.{none_itself}
use Rattle.lin_unused.proofs.Useful.{idle_move, idle_skip, line_at, moved_small}
use Rattle.lin_unused.proofs.use_of_lines.is_idle.Goals as goal

pub returns-in-None : goal.returns-in-None
returns-in-None c =
    let m = c.args.lin.now in
    idle_skip m c.args.place c.index-as_slice-place.result
    (line_at m c.args.place c.index-as_slice-place.result c.as_slice.result.now c.requires.place c.as_slice.ensures c.index-as_slice-place.is)
    c.args.walks.now c.is_skipped.result (none_itself c.index-as_slice-place.result c.in-None.ensures.all) c.is_skipped.ensures

pub returns-in-Some : goal.returns-in-Some
returns-in-Some c =
    let m = c.args.lin.now in
    idle_move m c.args.place c.index-as_slice-place.result
    (line_at m c.args.place c.index-as_slice-place.result c.as_slice.result.now c.requires.place c.as_slice.ensures c.index-as_slice-place.is)
    c.args.walks.now c.in-Some.loc c.number_of.result c.is_live_after.result c.in-Some.ensures.yes c.number_of.ensures c.is_live_after.ensures

pub number_of-requires : goal.number_of-requires
number_of-requires c =
    let m = c.args.lin.now in
    moved_small m c.args.place c.index-as_slice-place.result c.as_slice.result.now c.requires.numbered c.requires.countable c.requires.place
    c.as_slice.ensures c.index-as_slice-place.is c.in-Some.loc c.in-Some.ensures.yes
