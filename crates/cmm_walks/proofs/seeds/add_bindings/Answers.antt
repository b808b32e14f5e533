use Rattle.cmm_walks.specs.Seeds.{binding_seeds}
use Rattle.cmm_walks.proofs.Levels.{all_after}
use Rattle.cmm_walks.proofs.seeds.add_bindings.Goals as goal

pub loop-place-preserved : goal.loop-place-preserved
loop-place-preserved c =
    all_after (binding_seeds c.args.goal c.args.labels.now.of.items c.args.nodes.now c.args.slot) c.args.places.now c.loop-place.place-index c.args.seeds.now.items c.loop-place.seeds.items c.add_binding.new.seeds.items
    c.loop-place-test.true c.loop-place.invariant c.in_ok-add_binding.ensures
