use Rattle.std.proofs.Common.{arith, subst, sym}
use Rattle.std.proofs.lemmas.List.{take_rest}
use Rattle.bs_io.proofs.Progress.{Written, Written-more}
use Rattle.bs_io.proofs.whole.write_all.Goals as goal

pub loop-rest-preserved : goal.loop-rest-preserved
loop-rest-preserved g c = record {
  written = subst (Written _ _ _) (sym (take_rest c.loop-rest.rest.now c.in-Ok.count))
      (Written-more _ _ _ _ c.loop-rest.rest.now c.in-Ok.count c.loop-rest.invariant.written c.in-Ok.ensures.within c.in-Ok.ensures.appended);
  never_falls = omega (arith, c.loop-rest.invariant.never_falls, c.in-Ok.ensures.never_falls);
}
