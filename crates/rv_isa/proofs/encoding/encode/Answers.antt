-- The word is that of the instruction, and this decodes to it.
use Rattle.std.proofs.Common.{◌≡◌, ap, ◌∙◌}
use Rattle.rv_isa.specs.Word.{word_of_fields}
use Rattle.rv_isa.specs.Encoding.{encoded}
use Rattle.rv_isa.specs.Decoding.{decoded}
use Rattle.rv_isa.proofs.RoundTrip.{decoded-encoded}
use Rattle.rv_isa.proofs.encoding.encode.Goals as goal
use Rattle.rv_isa.proofs.encoding.encode.Goals.{After-join}

result_is : (c : After-join) → c.join.result ≡ encoded c.args.instr
unfolding encoded
result_is c = c.join.ensures ∙ ap word_of_fields c.fields.ensures.exact

pub returns-clause-exact : goal.returns-clause-exact
returns-clause-exact c = result_is c

pub returns-clause-decodes : goal.returns-clause-decodes
returns-clause-decodes c = ap decoded (result_is c) ∙ decoded-encoded c.args.instr c.requires
