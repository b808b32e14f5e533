use Rattle.cmm_tree.specs.View.{file_view}
use Rattle.bs_fault.proofs.Reported.{noted-is-reported}
use Rattle.cmm_reader.specs.Text.{read_file_faults}
use Rattle.cmm_reader.proofs.reader.file_fault.Goals as goal

pub returns : goal.returns
returns c =
    rw (c.noted_optional.ensures, c.data_fault.ensures, c.noted_optional-found.ensures, c.limit_fault.ensures.found)
    (noted-is-reported (read_file_faults c.args.range (file_view c.args.file.now)))
