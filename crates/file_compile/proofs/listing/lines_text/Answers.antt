use Rattle.std.proofs.lemmas.Result.{IfOk-weaker}
use Rattle.file_compile.proofs.listing.lines_text.Goals as goal

pub returns : goal.returns
returns c =
    IfOk-weaker c.text.result _ _
    (λ text spelled. record { made = c.in_ok-lin.lin; is = c.in_ok-lin.ensures; spelled = spelled })
    c.text.ensures
