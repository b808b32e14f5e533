use Rattle.std.proofs.Common.{◌≤◌, ◌+◌, vec_len}
use Rattle.par_moves.specs.Index.{HoldsPending, moves_held}
use Rattle.par_moves.specs.Moves.{Moves}
use Rattle.par_moves.specs.Resolved.{walk_from}
use Rattle.par_moves.proofs.Turns.{Standing}
use Rattle.par_moves.proofs.walk.walk.Given as goal

abbrev pub invariant-loop-path : goal.invariant-loop-path
invariant-loop-path l = record {
  stands : (moves : Moves) → HoldsPending l.fn.pending.readers moves → Standing l.root l.path.items l.pending.readers l.made.items l.fn.made.items (walk_from l.fn.root moves);
  fewer : moves_held l.pending.readers ≤ moves_held l.fn.pending.readers;
}

-- each turn takes a pending move onto the path, or makes the path's last
abbrev pub decreases-loop-path : goal.decreases-loop-path
decreases-loop-path l = moves_held l.pending.readers + moves_held l.pending.readers + vec_len l.path
