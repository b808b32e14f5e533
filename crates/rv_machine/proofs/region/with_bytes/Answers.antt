use Rattle.std.proofs.Common.{◌≡◌, ◌<◌, ◌+◌, ◌*◌, ◌^◌, ◌%◌, ◌∙◌, arith, subst, sym, ap}
use Rattle.std.proofs.Math.Nat.{mod-lt}
use Rattle.std.proofs.lemmas.Nat.{pow_pos}
use Rattle.rv_machine.proofs.Bytes.{spliced, spliced-below, replaced_spliced, middle}
use Rattle.rv_machine.proofs.region.with_bytes.Goals as goal
use Rattle.rv_machine.proofs.region.with_bytes.Goals.{After-bytes_below}

small : (c : After-bytes_below) → c.low_bytes.result < 2 ^ (8 * c.args.width)
small c = subst (λ n. n < 2 ^ (8 * c.args.width)) (sym c.low_bytes.ensures) (mod-lt c.args.value (pow_pos (8 * c.args.width)))

sum : (c : After-bytes_below) → c.bytes_below.result + c.low_bytes.result * 2 ^ (8 * c.args.from) % 2 ^ 64 + c.bytes_from-above.result ≡ spliced c.args.word c.args.from c.args.width c.args.value
sum c =
    let m : c.low_bytes.result * 2 ^ (8 * c.args.from) % 2 ^ 64 ≡ c.low_bytes.result * 2 ^ (8 * c.args.from) =
    middle c.args.from c.args.width c.low_bytes.result c.requires.within (small c) in
    let v : c.low_bytes.result * 2 ^ (8 * c.args.from) ≡ c.args.value % 2 ^ (8 * c.args.width) * 2 ^ (8 * c.args.from) =
    ap (λ n. n * 2 ^ (8 * c.args.from)) c.low_bytes.ensures in
    omega (arith, m, v, c.bytes_below.ensures, c.bytes_from-above.ensures)

pub overflow_add-result-2 : goal.overflow_add-result-2
overflow_add-result-2 c =
    omega (arith, sum c, spliced-below c.args.word c.args.from c.args.width c.args.value c.requires.within c.ranges.word.fits)

pub returns : goal.returns
returns c = sum c ∙ sym (replaced_spliced c.args.word c.args.from c.args.width c.args.value)

pub overflow_add-result : goal.overflow_add-result
overflow_add-result c =
    omega (arith, sum c, spliced-below c.args.word c.args.from c.args.width c.args.value c.requires.within c.ranges.word.fits)
