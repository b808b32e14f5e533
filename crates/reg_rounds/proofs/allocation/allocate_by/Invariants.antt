use Rattle.reg_rounds_rules.specs.Rounds.{RoundsAsked}
use Rattle.reg_rounds.proofs.allocation.allocate_by.Given as goal

abbrev pub invariant-loop-rounds : goal.invariant-loop-rounds
invariant-loop-rounds l = RoundsAsked l.by l.fresh l.fn.mach l.rounds l.current
