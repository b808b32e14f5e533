use Rattle.std.proofs.Common.{◌≤◌, arith, rules}
use Rattle.std.proofs.lemmas.List.Elements.{All-more}
use Rattle.command_line.proofs.Numbers.{past_limit, number_of-more}
use Rattle.command_line.proofs.values.number.Goals as goal

pub returns-then-more-from : goal.returns-then-more-from
returns-then-more-from c =
    past_limit c.args.digits.now c.loop-digit.digit-index c.args.limit c.loop-digit-test.true
    (let e = c.loop-digit.invariant.0 in let f = c.from.ensures in omega arith)

pub loop-digit-preserved : goal.loop-digit-preserved
loop-digit-preserved c =
    let more = number_of-more c.args.digits.now c.loop-digit.digit-index c.loop-digit-test.true in
    let e = c.loop-digit.invariant.0 in (
      omega arith,
      All-more (λ b. (48 ≤ b) × (b ≤ 57)) c.args.digits.now c.loop-digit.digit-index 0 c.loop-digit-test.true c.loop-digit.invariant.1 (search rules),
      omega arith,
    )
