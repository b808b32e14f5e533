use Rattle.schedule_rules.proofs.Forth.{live_forth, across_forth}
use Rattle.schedule_rules.proofs.Whole.{live_back, across_back}
use Rattle.schedule_rules.proofs.reordered_functions_have_the_same_live.Goals as goal

pub returns-clause-places : goal.returns-clause-places
returns-clause-places c = λ m r whole l type out code other tries o.
    (λ v. live_forth m r whole l type out code other tries o v, λ v. live_back m r whole l type out code other tries o v)

pub returns-clause-across : goal.returns-clause-across
returns-clause-across c = λ m r whole l type out i next after tries o.
    (λ v. across_forth m r whole l type out i next after tries o v, λ v. across_back m r whole l type out i next after tries o v)
