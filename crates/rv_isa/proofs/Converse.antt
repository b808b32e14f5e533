-- What a word decodes to fits its fields, and encodes to that word.
use Rattle.std.proofs.Common.{◌≡◌, ℕ, ◌<◌, ◌^◌, IfSome, arith}
use Rattle.std.proofs.lemmas.Grind.{common_steps}
use Rattle.rv_isa.specs.Encoding.{InstrFits, encoded}
use Rattle.rv_isa.specs.Decoding.{decoded}

pub InstrFits-decoded : (w : ℕ) → w < 2 ^ 32 → IfSome (decoded w) InstrFits
unfolding decoded
InstrFits-decoded w small = grind (arith, common_steps)

pub encoded-decoded : (w : ℕ) → w < 2 ^ 32 → IfSome (decoded w) (λ i. encoded i ≡ w)
unfolding decoded encoded
encoded-decoded w small = grind (arith, common_steps)
