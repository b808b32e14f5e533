use Rattle.rv_emit.proofs.output.Output.+constant_shifted.Given as goal

abbrev pub decreases-constant_shifted : goal.decreases-constant_shifted
decreases-constant_shifted l = l.steps
