use Rattle.std.proofs.Common.{arith}
use Rattle.std.proofs.lemmas.Result.{IfOk-at_ok}
use Rattle.fork_join.specs.Calls.{AreGiven}
use Rattle.fork_join.proofs.Joining.{both_given}
use Rattle.fork_join.proofs.halves.+calls.Goals as goal

pub returns : goal.returns
returns g t c =
    both_given _ c.args.from _ _ _ _ c.in_ok-all.all.items c.in_ok-others.others.items _ (omega arith) (omega arith) c.in_ok-append.ensures.items
    (IfOk-at_ok (λ v. AreGiven _ _ _ v.items) c.in_ok-all.was c.join-a.ensures.first)
    (IfOk-at_ok (λ v. AreGiven _ _ _ v.items) c.in_ok-others.was c.join-a.ensures.second)
