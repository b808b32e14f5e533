-- The law, as the contract says it.
use Rattle.line_stands.specs.Lines.{Nowhere}
use Rattle.line_values.proofs.Following.{plain_followed}
use Rattle.line_values.proofs.plain_lines_are_followed.Goals as goal

pub returns : goal.returns
returns c = λ s laid n m place named entry w f d i next plain.
    plain_followed s laid n m place named Nowhere entry w f d next i plain
