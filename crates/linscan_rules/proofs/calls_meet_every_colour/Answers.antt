use Rattle.linscan_rules.proofs.Calls.{call_meets}
use Rattle.linscan_rules.proofs.calls_meet_every_colour.Goals as goal

pub returns : goal.returns
returns c = λ m i next p n has all here read. call_meets m i next p n has all here read
