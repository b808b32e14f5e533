use Rattle.std.proofs.Common.{◌++◌}
use Rattle.rv_machine.specs.Text.{shown_text}
use Rattle.mover_runtime.proofs.Writing.{writes_first, writes_then}
use Rattle.mover_runtime.proofs.text.put_call.Goals as goal

pub returns-clause-text : goal.returns-clause-text
returns-clause-text g c =
    writes_then c.write_shown.result (g.K.Sink.held c.args.out.now) (g.K.Sink.held c.put_name.new.out) (g.K.Sink.held c.write_shown.new.out)
    (c.args.text.now ++ c.args.name.now) (shown_text c.args.shown.now) c.in_ok-put_name.ensures.text c.write_shown.ensures.text

pub returns-in_err-put_name-clause-text : goal.returns-in_err-put_name-clause-text
returns-in_err-put_name-clause-text g c =
    writes_first c.from_residual.result (g.K.Sink.held c.args.out.now) (g.K.Sink.held c.put_name.new.out) (c.args.text.now ++ c.args.name.now) (shown_text c.args.shown.now) c.from_residual.ensures.0 c.in_err-put_name.ensures.text
