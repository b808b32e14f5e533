use Rattle.std.proofs.Common.{◌≡◌, vec_len, length, arith}
use Rattle.sink.proofs.Popping.{turning_begun, turning_more}
use Rattle.sink.proofs.graphs.turned_places.Goals as goal

pub loop-place-init : goal.loop-place-init
loop-place-init c =
    let old = c.args.places in
    let count : vec_len old ≡ length old.items = omega (arith, old.ok.0) in
    turning_begun c.args.places.items c.pop-last.new.self.items c.in_ok-made.made c.push.new.self c.pop-last.result c.bare_place.result
    (vec_len old) count c.pop-last.ensures.items c.requires c.pop-last.ensures.variant c.bare_place.ensures c.in_ok-made.ensures c.in_ok-push.ensures

pub loop-place-preserved : goal.loop-place-preserved
loop-place-preserved c =
    turning_more c.args.places.items c.loop-place.left.items c.pop.new.self.items c.loop-place.made c.push-in-Some.new.self c.in-Some.place
    c.turned.result c.in-Some.ensures.items c.turned.ensures c.in_ok-push-2.ensures c.loop-place.invariant
