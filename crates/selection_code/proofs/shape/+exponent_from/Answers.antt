use Rattle.std.proofs.Common.{◌<◌, ◌^◌, suc, arith}
use Rattle.std.proofs.Math.Pow.{pow-lt}
use Rattle.selection_code.proofs.shape.+exponent_from.Goals as goal

pub overflow_mul-power : goal.overflow_mul-power
overflow_mul-power t c =
    let below : suc c.args.exponent < 64 = omega (arith, c.requires.below) in
    let lt : 2 ^ suc c.args.exponent < 2 ^ 64 = pow-lt below in
    omega (arith, lt, c.requires.power)
