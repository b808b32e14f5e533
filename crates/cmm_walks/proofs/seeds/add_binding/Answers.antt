use Rattle.std.proofs.Common.{ℕ, ◌++◌, ◌∙◌, ap, get_or, Option}
use Rattle.std.specs.Option.{option_to_list}
use Rattle.walk_tables.specs.Table.{step_at, next_at}
use Rattle.cmm_walks.specs.Seeds.{binding_seed}
use Rattle.cmm_walks.specs.declared.labels.Seed.{Seed}
use Rattle.walk_tables.specs.declared.node.Step.{Step}
use Rattle.cmm_walks.proofs.Levels.{kept_after_in}
use Rattle.cmm_walks.proofs.seeds.add_binding.Goals as goal

pub loop-next-preserved : goal.loop-next-preserved
loop-next-preserved c =
    kept_after_in (λ (n : ℕ). binding_seed c.args.goal c.args.labels.now.of.items c.args.slot c.args.place (step_at c.args.nodes.now c.args.place) n)
    (next_at c.args.nodes.now c.args.place) c.next_of-next-items.result.now c.loop-next.next-index
    c.args.seeds.now.items c.loop-next.seeds.items c.push_some.new.seeds.items c.next_of-next-items.ensures
    c.loop-next-test.true c.loop-next.invariant
    (c.in_ok-push_some.ensures
    ∙ ap (λ (o : Option Seed). c.loop-next.seeds.items ++ option_to_list o)
    (c.binding_seed.ensures ∙ ap (λ (st : Step). binding_seed c.args.goal c.args.labels.now.of.items c.args.slot c.args.place st (get_or c.next_of-next-items.result.now c.loop-next.next-index 0)) c.step_of-step.ensures))
