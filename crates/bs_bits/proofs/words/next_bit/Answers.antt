use Rattle.std.proofs.Common.{arith}
use Rattle.bs_bits.proofs.Loops.{next_in_first, none_in_first, next_in_word, none_in_word, none_past}
use Rattle.bs_bits.proofs.words.next_bit.Goals as goal

pub returns-then-rest-ne0 : goal.returns-then-rest-ne0
returns-then-rest-ne0 c = next_in_first _ c.args.from c.if-start-words.false c.type_inv.words c.if-rest-ne0.true

pub loop-i-init : goal.loop-i-init
loop-i-init c = none_in_first _ c.args.from c.if-rest-ne0.false

pub returns-then-word-ne0 : goal.returns-then-word-ne0
returns-then-word-ne0 c = next_in_word _ c.args.from c.loop-i.i c.loop-i.auto.i c.loop-i-test.true c.type_inv.words c.loop-i.invariant c.if-word-ne0.true

pub loop-i-preserved : goal.loop-i-preserved
loop-i-preserved c = none_in_word _ c.args.from c.loop-i.i c.loop-i.invariant c.if-word-ne0.false

pub returns : goal.returns
returns c = none_past _ c.args.from c.loop-i.i (omega arith) c.loop-i.invariant
