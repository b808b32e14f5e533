use Rattle.std.proofs.Common.{ℕ, ◌++◌, ◌∙◌, ap, Option}
use Rattle.std.specs.Option.{option_to_list}
use Rattle.walk_tables.specs.Table.{step_at}
use Rattle.cmm_walks.specs.Seeds.{point_seed}
use Rattle.cmm_walks.specs.declared.labels.Seed.{Seed}
use Rattle.cmm_walks.proofs.Levels.{kept_more_in}
use Rattle.cmm_walks.proofs.seeds.point_seeds.Goals as goal

pub loop-place-preserved : goal.loop-place-preserved
loop-place-preserved c =
    kept_more_in (λ (p : ℕ). point_seed c.args.goal c.args.labels.now.of.items p (step_at c.args.nodes.now p)) c.args.labels.now.queue.items c.deref-place-items.result.now c.loop-place.place-index
    c.loop-place.seeds.items c.push_some.new.seeds.items c.deref-place-items.ensures.value
    c.loop-place-test.true c.loop-place.invariant
    (c.in_ok-push_some.ensures ∙ ap (λ (o : Option Seed). c.loop-place.seeds.items ++ option_to_list o) c.point_seed.ensures)
