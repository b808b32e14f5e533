use Rattle.command_line.proofs.Cuts.{item_symbol, item_negative, item_number}
use Rattle.command_line.proofs.values.item.Goals as goal

pub returns-in-Some-clause-value : goal.returns-in-Some-clause-value
returns-in-Some-clause-value c =
    item_symbol c.args.text.now c.in-Some.symbol.now c.in_ok-name.field-0 c.requires c.in-Some.ensures c.in_ok-name.ensures.value

pub returns-in-Some-number-clause-value : goal.returns-in-Some-number-clause-value
returns-in-Some-number-clause-value c =
    item_negative c.args.text.now c.in-Some-after_sign.digits.now c.in-Some-number.n c.sub.result c.in-Some-after_sign.ensures c.in-Some-number.ensures
    c.sub.ensures

pub returns-in-Some-number-2-clause-value : goal.returns-in-Some-number-2-clause-value
returns-in-Some-number-2-clause-value c = item_number c.args.text.now c.in-Some-number-2.n c.in-Some-number-2.ensures
