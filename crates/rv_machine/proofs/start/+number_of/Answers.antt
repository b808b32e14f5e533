use Rattle.std.proofs.Common.{ℕ, ◌-◌, ◌^◌, ◌<◌, ◌≤◌, List, length, take, drop, arith}
use Rattle.std.proofs.Math.Nat.{pow-le-pow_right}
use Rattle.std.proofs.lemmas.List.{length-take}
use Rattle.rv_machine.proofs.start.+number_of.Goals as goal

few : (n : ℕ) (bs : List ℕ) (r : ℕ) → n ≤ 8 → r < 256 ^ length (take (n - 1) bs) → r < 256 ^ 7
few n bs r h small =
    let some : 0 < 256 = omega arith in
    let l : length (take (n - 1) bs) ≤ 7 = omega (arith, length-take (n - 1) bs) in
    let p : 256 ^ length (take (n - 1) bs) ≤ 256 ^ 7 = pow-le-pow_right some l in
    omega arith

pub overflow_mul-result : goal.overflow_mul-result
overflow_mul-result t c =
    omega (arith, few (length c.args.bytes.now) (drop 1 c.args.bytes.now) c.number_of.result c.requires c.number_of.ensures.below)

pub overflow_add-result : goal.overflow_add-result
overflow_add-result t c =
    omega (arith, c.from.ensures, c.type_inv.bytes 0, few (length c.args.bytes.now) (drop 1 c.args.bytes.now) c.number_of.result c.requires c.number_of.ensures.below)
