use Rattle.hoist.specs.Loops.{IsAbove, EndsFrom, AreFlags, IsCalmWide}
use Rattle.hoist.proofs.loops.in_calm_loops.Given as goal

abbrev pub invariant-loop-place : goal.invariant-loop-place
invariant-loop-place l =
    record {
      reach : IsAbove (EndsFrom l.code l.place) l.reach;
      flags : AreFlags (IsCalmWide l.code l.calls) l.place l.flags.items;
    }
