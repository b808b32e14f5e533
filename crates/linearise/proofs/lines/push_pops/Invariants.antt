use Rattle.std.proofs.Common.{◌≡◌}
use Rattle.linearise_rules.specs.Lowered.{pops}
use Rattle.linearise.proofs.lines.push_pops.Given as goal

abbrev pub invariant-loop-pop : goal.invariant-loop-pop
invariant-loop-pop l = l.lines ≡ pops (λ k. k) l._pop l.initial.lines
