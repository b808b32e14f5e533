use Rattle.std.proofs.lemmas.Result.{err_from_is_err_and}
use Rattle.bs_words.specs.Contents.{contents}
use Rattle.commands.proofs.Ending.{refusal_read, refusal_unread}
use Rattle.commands.proofs.compile.compile_source.Goals as goal

pub returns-in_err-text-clause-refused : goal.returns-in_err-text-clause-refused
returns-in_err-text-clause-refused g c =
    let p = err_from_is_err_and c.from_residual.result c.from_residual.ensures.1 in
    rw (p.1, p.2) (refusal_unread c.args.choices _ c.in_err-text.field-0.0 c.in_err-text.ensures.unread)

pub returns-in_err-compile_bytes-clause-refused : goal.returns-in_err-compile_bytes-clause-refused
returns-in_err-compile_bytes-clause-refused g c =
    let p = err_from_is_err_and c.from_residual-in_err-compile_bytes.result c.from_residual-in_err-compile_bytes.ensures.1 in
    rw (p.1, p.2)
    (refusal_read c.args.choices _ (contents c.in_ok-text.text) c.in_err-compile_bytes.field-0.0 (rw c.as_slice.ensures at c.compile_bytes.ensures.are_bytes) c.in_ok-text.ensures.read
    (rw c.as_slice.ensures at c.in_err-compile_bytes.ensures.refused))

pub returns-clause-image : goal.returns-clause-image
returns-clause-image g c = record {
  text = contents c.in_ok-text.text;
  are_bytes = rw c.as_slice.ensures at c.compile_bytes.ensures.are_bytes;
  read = c.in_ok-text.ensures.read;
  holds = rw c.as_slice.ensures at c.in_ok-compile_bytes.ensures.image;
}
