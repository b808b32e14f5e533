use Rattle.std.proofs.lemmas.Result.{err_from_is_err_and}
use Rattle.command_line.specs.View.{run_view}
use Rattle.bs_words.specs.Contents.{contents}
use Rattle.commands.proofs.Ending.{Keeps-same}
use Rattle.commands.proofs.Refused.{not_read, not_image, refused_so}
use Rattle.commands.proofs.run.run_source.Goals as goal

pub returns-in_err-bytes-clause-refused : goal.returns-in_err-bytes-clause-refused
returns-in_err-bytes-clause-refused g c =
    let p = err_from_is_err_and c.from_residual.result c.from_residual.ensures.1 in
    rw (p.1, p.2) (not_read (run_view c.args.run) _ _ (Keeps-same _) _ c.in_err-bytes.ensures.refused)

pub returns-in_err-image-clause-refused : goal.returns-in_err-image-clause-refused
returns-in_err-image-clause-refused g c =
    let p = err_from_is_err_and c.from_residual-in_err-image.result c.from_residual-in_err-image.ensures.1 in
    rw (p.1, p.2)
    (not_image (run_view c.args.run) _ _ (contents c.in_ok-bytes.bytes) _ (Keeps-same _) c.in_ok-bytes.ensures.read c.as_slice.ensures _ c.in_err-image.ensures.refused)

pub returns-clause-refused : goal.returns-clause-refused
returns-clause-refused g c =
    refused_so {T = Unit {0}} (run_view c.args.run) _ _ _ _ _ c.in_ok-bytes.ensures.read c.as_slice.ensures c.in_ok-image.ensures.found.0
    c.in_ok-image.ensures.found.1 c.run_on.result c.run_on.ensures.refused

-- the words keep to what a machine may have
pub run_on-requires-clause-stack : goal.run_on-requires-clause-stack
run_on-requires-clause-stack g c = record { aligned = c.requires.stack_aligned; most = c.requires.stack }

pub run_on-requires-clause-heap : goal.run_on-requires-clause-heap
run_on-requires-clause-heap g c = record { aligned = c.requires.heap_aligned; most = c.requires.heap }
