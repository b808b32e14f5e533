use Rattle.std.proofs.Common.{◌≤◌, length}
use Rattle.bs_io.proofs.Progress.{Written}
use Rattle.bs_io.proofs.whole.write_all.Given as goal

abbrev pub invariant-loop-rest : goal.invariant-loop-rest
invariant-loop-rest g l = record {
  written : Written (g.K.Sink.held l.initial.sink) (g.K.Sink.held l.sink) l.bytes l.rest;
  never_falls : g.K.Sink.faults l.initial.sink ≤ g.K.Sink.faults l.sink;
}

abbrev pub decreases-loop-rest : goal.decreases-loop-rest
decreases-loop-rest g l = length l.rest
