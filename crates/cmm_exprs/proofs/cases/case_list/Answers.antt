use Rattle.std.proofs.Common.{refl}
use Rattle.cmm_grammar.specs.Grammar.{a_case}
use Rattle.cmm_parts.specs.Results.{trees}
use Rattle.cmm_exprs.specs.Results.{case_part, case_goes_on}
use Rattle.cmm_exprs.proofs.Repeats.{repeat-shorter, repeat-on, repeat-end}
use Rattle.cmm_exprs.proofs.Takings.{takes-case}
use Rattle.cmm_exprs.proofs.cases.case_list.Goals as goal

pub returns-then-not-goes_on : goal.returns-then-not-goes_on
returns-then-not-goes_on g c =
    repeat-end case_part case_goes_on a_case c.args.depth c.args.source.now (trees c.args.source.now c.args.tokens.now)
    c.loop-cases.cases.items c.push.new.self.items c.in_ok-case.case c.in_ok-case.goes_on c.loop-cases.rest.now c.in_ok-case.behind.now
    c.loop-cases.invariant c.in_ok-case.ensures c.if-not-goes_on.true refl c.in_ok-push.ensures.items

pub loop-cases-smaller : goal.loop-cases-smaller
loop-cases-smaller g c = repeat-shorter a_case takes-case c.args.depth c.args.source.now c.loop-cases.rest.now c.in_ok-case.behind.now _ c.in_ok-case.ensures

pub loop-cases-preserved : goal.loop-cases-preserved
loop-cases-preserved g c =
    repeat-on case_part case_goes_on a_case takes-case c.args.depth c.args.source.now (trees c.args.source.now c.args.tokens.now)
    c.loop-cases.cases.items c.push.new.self.items c.in_ok-case.case c.in_ok-case.goes_on c.loop-cases.rest.now c.in_ok-case.behind.now
    c.loop-cases.invariant c.in_ok-case.ensures c.if-not-goes_on.false refl c.in_ok-push.ensures.items
