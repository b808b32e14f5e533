use Rattle.std.proofs.Common.{◌≡◌, rules, FitsSigned, w64}
use Rattle.std.specs.Prelude.{pos}
use Rattle.bs_words.specs.Word.{signed_of}
use Rattle.rv_machine.proofs.LowHalf.{mulhsu-returns}
use Rattle.rv_machine.proofs.arithmetic.mulhsu.Goals as goal

pub returns : goal.returns
returns c =
    let x : c.from.result ≡ signed_of c.args.a = search rules in
    let y : c.from-2.result ≡ pos c.args.b = search rules in
    let fx : FitsSigned w64 c.from.result = search rules in
    mulhsu-returns _ _ c.from.result c.from-2.result _ c.ranges.b.fits fx x y c.cast_unsigned.ensures
