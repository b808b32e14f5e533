use Rattle.std.proofs.Common.{refl}
use Rattle.cmm_grammar.specs.Grammar.{next_handler}
use Rattle.cmm_parts.specs.Results.{trees}
use Rattle.cmm_exprs.specs.Results.{handler_part, handler_goes_on}
use Rattle.cmm_exprs.proofs.Repeats.{repeat-shorter, repeat-on, repeat-end}
use Rattle.cmm_exprs.proofs.Takings.{takes-handler}
use Rattle.cmm_exprs.proofs.handlers.handler_list.Goals as goal

pub returns-then-not-goes_on : goal.returns-then-not-goes_on
returns-then-not-goes_on g c =
    repeat-end handler_part handler_goes_on next_handler c.args.depth c.args.source.now (trees c.args.source.now c.args.tokens.now)
    c.loop-handlers.handlers.items c.push.new.self.items c.in_ok-handler.handler c.in_ok-handler.goes_on c.loop-handlers.rest.now c.in_ok-handler.behind.now
    c.loop-handlers.invariant c.in_ok-handler.ensures c.if-not-goes_on.true refl c.in_ok-push.ensures.items

pub loop-handlers-smaller : goal.loop-handlers-smaller
loop-handlers-smaller g c = repeat-shorter next_handler takes-handler c.args.depth c.args.source.now c.loop-handlers.rest.now c.in_ok-handler.behind.now _ c.in_ok-handler.ensures

pub loop-handlers-preserved : goal.loop-handlers-preserved
loop-handlers-preserved g c =
    repeat-on handler_part handler_goes_on next_handler takes-handler c.args.depth c.args.source.now (trees c.args.source.now c.args.tokens.now)
    c.loop-handlers.handlers.items c.push.new.self.items c.in_ok-handler.handler c.in_ok-handler.goes_on c.loop-handlers.rest.now c.in_ok-handler.behind.now
    c.loop-handlers.invariant c.in_ok-handler.ensures c.if-not-goes_on.false refl c.in_ok-push.ensures.items
