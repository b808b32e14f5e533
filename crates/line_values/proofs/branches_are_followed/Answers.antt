-- The law, as the contract says it.
use Rattle.line_stands.specs.Lines.{Nowhere}
use Rattle.line_values.proofs.Following.{branches_followed}
use Rattle.line_values.proofs.branches_are_followed.Goals as goal

pub returns : goal.returns
returns c = λ s laid n m place named w f d i next branch file a v stands none at.
    branches_followed Nowhere s laid n m place named w f d i next branch file a v stands none at
