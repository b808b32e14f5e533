use Rattle.std.proofs.Common.{◌+◌, length, refl, arith}
use Rattle.selection.proofs.Whole.{numbers-are}
use Rattle.selection.proofs.function.numbers_of_function.Goals as goal

pub returns : goal.returns
returns c =
    let count = length c.as_slice.result.now in
    let value = 21 + count + count in
    numbers-are c.args.function.now c.as_slice.result.now count (21 + count) value (value + 1) (value + 2) c.behind-labels.result
    c.as_slice.ensures refl refl refl refl (omega arith) c.behind-labels.ensures
