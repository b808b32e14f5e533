use Rattle.std.proofs.Common.{◌≢◌, All, take}
use Rattle.command_line.proofs.values.cut_at_comma.Given as goal

abbrev pub invariant-loop-at : goal.invariant-loop-at
invariant-loop-at l = All (λ b. b ≢ 44) (take l.at l.text)
