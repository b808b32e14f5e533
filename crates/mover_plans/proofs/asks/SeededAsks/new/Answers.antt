use Rattle.mover_plans.proofs.Drawing.{generator-first}
use Rattle.mover_plans.proofs.asks.SeededAsks.new.Goals as goal

pub returns : goal.returns
returns c = generator-first c.args.seed _ c.seed_from_u64.ensures
