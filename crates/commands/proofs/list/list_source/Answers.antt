use Rattle.std.proofs.lemmas.Result.{err_from_is_err_and}
use Rattle.bs_words.specs.Contents.{contents}
use Rattle.commands.proofs.Listing.{list_refusal_read, list_refusal_unread}
use Rattle.commands.proofs.list.list_source.Goals as goal

pub returns-in_err-text-clause-refused : goal.returns-in_err-text-clause-refused
returns-in_err-text-clause-refused g c =
    let p = err_from_is_err_and c.from_residual.result c.from_residual.ensures.1 in
    rw (p.1, p.2) (list_refusal_unread c.args.choices c.args.stage _ c.in_err-text.field-0.0 c.in_err-text.ensures.unread)

pub returns-in_err-list_bytes-clause-refused : goal.returns-in_err-list_bytes-clause-refused
returns-in_err-list_bytes-clause-refused g c =
    let p = err_from_is_err_and c.from_residual-in_err-list_bytes.result c.from_residual-in_err-list_bytes.ensures.1 in
    rw (p.1, p.2)
    (list_refusal_read c.args.choices c.args.stage _ (contents c.in_ok-text.text) c.in_err-list_bytes.field-0.0 (rw c.as_slice.ensures at c.list_bytes.ensures.are_bytes) c.in_ok-text.ensures.read
    (rw c.as_slice.ensures at c.in_err-list_bytes.ensures.refused))

pub returns-clause-listed : goal.returns-clause-listed
returns-clause-listed g c = record {
  text = contents c.in_ok-text.text;
  are_bytes = rw c.as_slice.ensures at c.list_bytes.ensures.are_bytes;
  read = c.in_ok-text.ensures.read;
  holds = rw c.as_slice.ensures at c.in_ok-list_bytes.ensures.listed;
}
