use Rattle.std.proofs.lemmas.Result.{err_from_is_err_and}
use Rattle.bs_words.specs.Contents.{contents}
use Rattle.command_line.specs.View.{check_view}
use Rattle.commands.proofs.Checking.{failure_read, failure_unread}
use Rattle.commands.proofs.check.check_source.Goals as goal

pub returns-in_err-text-clause-failed : goal.returns-in_err-text-clause-failed
returns-in_err-text-clause-failed g c =
    let p = err_from_is_err_and c.from_residual.result c.from_residual.ensures.1 in
    rw (p.1, p.2) (failure_unread (check_view c.args.words.now) _ c.in_err-text.field-0.0 c.in_err-text.ensures.unread)

pub returns-in_err-check_bytes-clause-failed : goal.returns-in_err-check_bytes-clause-failed
returns-in_err-check_bytes-clause-failed g c =
    let p = err_from_is_err_and c.from_residual-in_err-check_bytes.result c.from_residual-in_err-check_bytes.ensures.1 in
    rw (p.1, p.2)
    (failure_read (check_view c.args.words.now) _ (contents c.in_ok-text.text) c.in_err-check_bytes.field-0.0
    (rw c.as_slice.ensures at c.check_bytes.ensures.are_bytes) c.in_ok-text.ensures.read
    (rw c.as_slice.ensures at c.in_err-check_bytes.ensures.refused))

pub returns-clause-told : goal.returns-clause-told
returns-clause-told g c = record {
  text = contents c.in_ok-text.text;
  are_bytes = rw c.as_slice.ensures at c.check_bytes.ensures.are_bytes;
  read = c.in_ok-text.ensures.read;
  holds = rw c.as_slice.ensures at c.in_ok-check_bytes.ensures.told;
}
