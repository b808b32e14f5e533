use Rattle.std.proofs.Common.{◌-◌, ◌≤◌, take, vec_len}
use Rattle.std.specs.Io.KnownBytes.{Consumes}
use Rattle.bs_io.proofs.whole.read_all.Given as goal

abbrev pub invariant-loop-filled : goal.invariant-loop-filled
invariant-loop-filled g l = record {
  filled_within : l.filled ≤ vec_len l.buffer;
  buffer_within : vec_len l.buffer ≤ l.most;
  taken : Consumes (g.S.Source.left l.initial.source) (g.S.Source.left l.source) (take l.filled l.buffer.items);
  never_falls : g.S.Source.faults l.initial.source ≤ g.S.Source.faults l.source;
}

abbrev pub decreases-loop-filled : goal.decreases-loop-filled
decreases-loop-filled g l = l.most - l.filled
