use Rattle.std.proofs.Common.{sym, ◌∙◌}
use Rattle.selection_scope.proofs.Innermost.{found-reg, passed-reg, found-mutable, passed-mutable}
use Rattle.selection_scope.proofs.scope.innermost.Goals as goal

pub returns-then-same-clause-reg : goal.returns-then-same-clause-reg
returns-then-same-clause-reg c =
    found-reg _ c.in-Some.others.now c.in-Some.last.now c.args.name.now c.same.result c.in-Some.ensures.cases.0 c.same.ensures c.if-same.true
    ∙ c.loop-last.invariant.reg

pub returns-then-same-clause-mutable : goal.returns-then-same-clause-mutable
returns-then-same-clause-mutable c =
    sym c.loop-last.invariant.mutable
    ∙ found-mutable _ c.in-Some.others.now c.in-Some.last.now c.args.name.now c.same.result c.in-Some.ensures.cases.0 c.same.ensures c.if-same.true

pub loop-last-preserved : goal.loop-last-preserved
loop-last-preserved c =
    record {
      reg =
          passed-reg _ c.in-Some.others.now c.in-Some.last.now c.args.name.now c.same.result c.in-Some.ensures.cases.0 c.same.ensures c.if-same.false
          ∙ c.loop-last.invariant.reg;
      mutable =
          passed-mutable _ c.in-Some.others.now c.in-Some.last.now c.args.name.now c.same.result c.in-Some.ensures.cases.0 c.same.ensures c.if-same.false
          ∙ c.loop-last.invariant.mutable;
    }
