use Rattle.liveness.proofs.Lists.{switch_done}
use Rattle.liveness.proofs.control.places_after_mark.Goals as goal

pub returns-in_ok-places-in-Switch : goal.returns-in_ok-places-in-Switch
returns-in_ok-places-in-Switch c =
    switch_done c.args.labels.now c.args.place c.in_ok-places-in-Switch.places.items _ c.as_slice.result.now c.args.mark.now
    c.in-Switch.is c.as_slice.ensures c.in_ok-places-in-Switch.ensures
