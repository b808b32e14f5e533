use Rattle.cmm_reader.proofs.Telling.{result_said}
use Rattle.cmm_reader.proofs.Measured.{result_measured}
use Rattle.cmm_reader.proofs.reader.read_file.Goals as goal

pub returns-clause-read : goal.returns-clause-read
returns-clause-read c = result_said c.args.text.now c.read_text.result c.read_text.ensures

pub returns-clause-measured : goal.returns-clause-measured
returns-clause-measured c =
    result_measured c.args.text.now c.read_text.result (result_said c.args.text.now c.read_text.result c.read_text.ensures)
