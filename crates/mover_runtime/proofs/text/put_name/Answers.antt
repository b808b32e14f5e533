use Rattle.std.proofs.Common.{◌++◌, List, ℕ, subst}
use Rattle.mover_runtime.specs.Written.{AppendsResult}
use Rattle.mover_runtime.proofs.Writing.{writes_then}
use Rattle.mover_runtime.proofs.text.put_name.Goals as goal

pub returns-clause-text : goal.returns-clause-text
returns-clause-text g c =
    subst (λ (name : List ℕ). AppendsResult c.put-2.result (g.K.Sink.held c.args.out.now) (g.K.Sink.held c.put-2.new.out) (c.args.text.now ++ name)) c.as_bytes.ensures
    (writes_then c.put-2.result (g.K.Sink.held c.args.out.now) (g.K.Sink.held c.put.new.out) (g.K.Sink.held c.put-2.new.out)
    (c.args.text.now) c.as_bytes.result.now c.in_ok-put.ensures.text c.put-2.ensures.text)
