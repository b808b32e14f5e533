use Rattle.std.proofs.Common.{◌∷◌, [], ◌++◌}
use Rattle.rv_machine.specs.Text.{obs_text}
use Rattle.mover_runtime.proofs.Writing.{writes_then}
use Rattle.mover_runtime.proofs.text.write_obs_line.Goals as goal

pub returns-clause-text : goal.returns-clause-text
returns-clause-text g c =
    writes_then c.put.result (g.K.Sink.held c.args.out.now) (g.K.Sink.held c.put_obs.new.out) (g.K.Sink.held c.put.new.out)
    (c.args.text.now ++ obs_text c.args.obs) (10 ∷ []) c.in_ok-put_obs.ensures.text c.put.ensures.text
