use Rattle.std.proofs.Common.{◌∷◌, [], ◌++◌}
use Rattle.rv_machine.specs.Text.{shown_text}
use Rattle.mover_runtime.proofs.Writing.{writes_first, writes_then}
use Rattle.mover_runtime.proofs.text.write_call_line.Goals as goal

pub returns-clause-text : goal.returns-clause-text
returns-clause-text g c =
    writes_then c.put.result (g.K.Sink.held c.args.out.now) (g.K.Sink.held c.put_call.new.out) (g.K.Sink.held c.put.new.out)
    ((c.args.text.now ++ c.args.name.now) ++ shown_text c.args.shown.now) (10 ∷ []) c.in_ok-put_call.ensures.text c.put.ensures.text

pub returns-in_err-put_call-clause-text : goal.returns-in_err-put_call-clause-text
returns-in_err-put_call-clause-text g c =
    writes_first c.from_residual.result (g.K.Sink.held c.args.out.now) (g.K.Sink.held c.put_call.new.out) ((c.args.text.now ++ c.args.name.now) ++ shown_text c.args.shown.now) (10 ∷ []) c.from_residual.ensures.0 c.in_err-put_call.ensures.text
