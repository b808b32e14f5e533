use Rattle.std.proofs.Common.{◌≡◌, ◌+◌, ◌≤◌, length}
use Rattle.cmm_lex.specs.Scanning.{behind_comments}
use Rattle.cmm_lex.proofs.enclosed.behind_comment.Given as goal

-- what the rest gives from here is what all bytes give
abbrev pub invariant-loop-depth : goal.invariant-loop-depth
invariant-loop-depth l =
    record {
      same : behind_comments l.depth l.rest ≡ behind_comments 1 l.fn.bytes;
      room : l.depth + length l.rest ≤ 1 + length l.fn.bytes;
    }

abbrev pub decreases-loop-depth : goal.decreases-loop-depth
decreases-loop-depth l = length l.rest
