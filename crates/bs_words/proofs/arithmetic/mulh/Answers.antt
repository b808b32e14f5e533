use Rattle.std.proofs.Common.{◌≡◌, rules, FitsSigned, w64}
use Rattle.bs_words.specs.Word.{signed_of}
use Rattle.bs_words.proofs.Word.{mulh-returns}
use Rattle.bs_words.proofs.arithmetic.mulh.Goals as goal

pub returns : goal.returns
returns c =
    let x : c.from.result ≡ signed_of c.args.a = search rules in
    let y : c.from-2.result ≡ signed_of c.args.b = search rules in
    let fx : FitsSigned w64 c.from.result = search rules in
    let fy : FitsSigned w64 c.from-2.result = search rules in
    mulh-returns _ _ c.from.result c.from-2.result _ fx fy x y c.cast_unsigned.ensures
