use Rattle.rv_machine.specs.Text.{obs_text}
use Rattle.mover_runtime.proofs.Writing.{writes_then}
use Rattle.mover_runtime.proofs.text.put_obs.Goals as goal

pub returns-clause-text : goal.returns-clause-text
returns-clause-text g c =
    writes_then c.write_obs.result (g.K.Sink.held c.args.out.now) (g.K.Sink.held c.put.new.out) (g.K.Sink.held c.write_obs.new.out)
    (c.args.text.now) (obs_text c.args.obs) c.in_ok-put.ensures.text c.write_obs.ensures.text
