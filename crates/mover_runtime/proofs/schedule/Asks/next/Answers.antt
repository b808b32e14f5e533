use Rattle.std.proofs.Common.{◌∙◌}
use Rattle.mover_runtime.proofs.Asking.{among-any, asks-among, asks-drawn, drawn-on}
use Rattle.mover_runtime.proofs.schedule.Asks.next.Goals as goal

pub returns-in-Seeded-clause-asks : goal.returns-in-Seeded-clause-asks
returns-in-Seeded-clause-asks c = λ s at.
    asks-drawn s c.args.number c.args.self.now c.in-Seeded.asks c.next.result c.in-Seeded.is c.next.ensures.value at

pub returns-in-Seeded-clause-on : goal.returns-in-Seeded-clause-on
returns-in-Seeded-clause-on c = λ s at.
    drawn-on s c.args.number c.args.self.now c.in-Seeded.asks c.next.new.self c.in-Seeded.is c.next.ensures.on at

pub returns-in-Among-clause-asks : goal.returns-in-Among-clause-asks
returns-in-Among-clause-asks c = λ s at.
    asks-among s c.args.number c.args.self.now c.in-Among.numbers c.contains.result c.in-Among.is (c.contains.ensures.value ∙ among-any c.in-Among.numbers.now c.args.number) at
