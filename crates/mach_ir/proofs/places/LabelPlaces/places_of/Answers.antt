use Rattle.std.proofs.Common.{ap, ◌∙◌, map}
use Rattle.std.proofs.lemmas.List.{take_all}
use Rattle.mach_ir.specs.Acts.{At}
use Rattle.mach_ir.specs.Labels.{place_of_label, place_to}
use Rattle.mach_ir.proofs.Labels.{switch_more}
use Rattle.mach_ir.proofs.places.LabelPlaces.places_of.Goals as goal

pub loop-label-preserved : goal.loop-label-preserved
loop-label-preserved c = λ p.
    switch_more (place_of_label c.args.self.now) p c.args.among.now c.loop-label.places.items c.push.new.self.items c.loop-label.label-index c.label-item.result
    c.place_of.result c.loop-label-test.true c.label-item.is c.place_of.ensures (c.loop-label.invariant p) c.in_ok-push.ensures.items

pub returns : goal.returns
returns c = λ p.
    c.loop-label.invariant p
    ∙ ap (λ xs. map (place_to (place_of_label c.args.self.now) p) (map At xs)) (take_all c.loop-label.label-index c.args.among.now c.loop-label-test.false)
