use Rattle.std.proofs.Common.{length, refl, ap, ◌∙◌, arith}
use Rattle.selection.proofs.Whole.{count-params, mach-is}
use Rattle.selection.specs.declared.function.Numbers.{Numbers}
use Rattle.selection.proofs.function.select_function.Goals as goal

pub returns : goal.returns
returns c =
    let f = c.args.function.now in
    let numbers = c.numbers_of_function-numbers.result in
    let params = c.as_slice.result.now in
    let body = c.put_body.new.code in
    mach-is f numbers params c.in_ok-name.name c.params.inside.items.items c.result_of.result c.in_ok-colour_regs.field-0 body c.put_params.new.code c.into_seq.result
    c.requires.typed c.numbers_of_function-numbers.ensures c.as_slice.ensures c.in_ok-name.ensures (c.params.view_is ∙ c.in_ok-params.ensures.params) c.result_of.ensures c.in_ok-colour_regs.ensures c.in_ok-put_body.ensures c.in_ok-params.ensures.code c.into_seq.ensures

pub put_params-requires-clause-room : goal.put_params-requires-clause-room
put_params-requires-clause-room c =
    let params = c.as_slice.result.now in
    let moved = ap (λ (n : Numbers). n.moved) c.numbers_of_function-numbers.ensures in
    let count = count-params c.args.function.now params (length params) refl c.as_slice.ensures in
    omega (arith, moved, count, c.requires.room)

pub put_params-requires-clause-after : goal.put_params-requires-clause-after
put_params-requires-clause-after c =
    let moved = ap (λ (n : Numbers). n.moved) c.numbers_of_function-numbers.ensures in
    omega (arith, moved)
