-- What the fields of the word have for their row is what the word decodes to.
use Rattle.std.proofs.Common.{◌≡◌, ◌<◌, ◌^◌, ap, ◌∙◌, IfSome, subst, sym, arith}
use Rattle.rv_isa.specs.Encoding.{InstrFits, encoded}
use Rattle.rv_isa.specs.Decoding.{decoded, row_of_fields}
use Rattle.rv_isa.proofs.Converse.{InstrFits-decoded, encoded-decoded}
use Rattle.rv_isa.proofs.decoding.decode.Goals as goal
use Rattle.rv_isa.proofs.decoding.decode.Goals.{After-row}

result_is : (c : After-row) → c.row.result ≡ decoded c.args.word
unfolding decoded
result_is c = c.row.ensures ∙ ap row_of_fields c.split.ensures.exact

pub returns-clause-exact : goal.returns-clause-exact
returns-clause-exact c = result_is c

pub returns-clause-fits : goal.returns-clause-fits
returns-clause-fits c =
    let small : c.args.word < 2 ^ 32 = omega arith in
    subst (λ o. IfSome o InstrFits) (sym (result_is c)) (InstrFits-decoded c.args.word small)

pub returns-clause-encodes : goal.returns-clause-encodes
returns-clause-encodes c =
    let small : c.args.word < 2 ^ 32 = omega arith in
    subst (λ o. IfSome o (λ i. encoded i ≡ c.args.word)) (sym (result_is c)) (encoded-decoded c.args.word small)
