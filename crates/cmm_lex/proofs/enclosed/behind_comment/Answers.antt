use Rattle.std.proofs.Common.{◌∙◌, sym, arith}
use Rattle.cmm_lex.proofs.Comments.{step-to}
use Rattle.cmm_lex.proofs.enclosed.behind_comment.Goals as goal

pub loop-depth-preserved : goal.loop-depth-preserved
loop-depth-preserved c =
    let s = step-to c.loop-depth.depth c.loop-depth.rest.now c.in_ok-now.now c.in_ok-now.behind.now c.loop-depth-test.true (sym c.in_ok-now.ensures) in
    record {
      same = sym s.same ∙ c.loop-depth.invariant.same;
      room = omega (arith, s.room, c.loop-depth.invariant.room);
    }
