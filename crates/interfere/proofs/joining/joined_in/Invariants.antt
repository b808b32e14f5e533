use Rattle.interfere.proofs.Meetings.{HasJoined}
use Rattle.interfere.proofs.joining.joined_in.Given as goal

abbrev pub invariant-loop-place : goal.invariant-loop-place
invariant-loop-place l = HasJoined l.mach l.size l.place l.joined
