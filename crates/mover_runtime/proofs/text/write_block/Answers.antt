use Rattle.std.specs.Prelude.{codes}
use Rattle.std.specs.Fmt.{decimal}
use Rattle.mover_runtime.proofs.Writing.{writes_then, writes_first}
use Rattle.mover_runtime.proofs.text.write_block.Goals as goal

pub returns-clause-text : goal.returns-clause-text
returns-clause-text g c =
    writes_then c.write_number.result (g.K.Sink.held c.args.out.now) (g.K.Sink.held c.put.new.out) (g.K.Sink.held c.write_number.new.out)
    (codes "block ") (decimal c.args.serial) c.in_ok-put.ensures.text c.write_number.ensures.text

pub returns-in_err-put-clause-text : goal.returns-in_err-put-clause-text
returns-in_err-put-clause-text g c =
    writes_first c.from_residual.result (g.K.Sink.held c.args.out.now) (g.K.Sink.held c.put.new.out) (codes "block ") (decimal c.args.serial) c.from_residual.ensures.0 c.in_err-put.ensures.text
