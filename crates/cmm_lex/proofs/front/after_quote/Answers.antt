use Rattle.std.proofs.Common.{sym, arith}
use Rattle.cmm_lex.proofs.Fronts.{unclosed-string, string-cut, string-shorter, bad-string, bad-within, string-token}
use Rattle.cmm_lex.proofs.Scans.{AreBytes-from}
use Rattle.cmm_lex.proofs.front.after_quote.Goals as goal

pub returns-in_default : goal.returns-in_default
returns-in_default c = λ at. unclosed-string c.args.bytes.now at (sym c.in_default.ensures)

pub overflow_sub-bytes : goal.overflow_sub-bytes
overflow_sub-bytes c = string-shorter c.args.bytes.now c.in-Some.behind.now (sym c.in-Some.ensures)

pub overflow_add-result : goal.overflow_add-result
overflow_add-result c =
    let within = bad-within c.in-Some-bad_escape.offset _ c.in-Some-bad_escape.ensures in
    let front = c.split_at.ensures.front_len in
    let short = c.requires in
    omega arith

pub returns-in-Some-bad_escape : goal.returns-in-Some-bad_escape
returns-in-Some-bad_escape c =
    let cut = string-cut c.args.bytes.now c.in-Some.behind.now _ _ (sym c.in-Some.ensures) c.split_at.ensures.by_index.0 c.split_at.ensures.front_len in
    λ at. bad-string c.args.bytes.now _ _ c.in-Some-bad_escape.offset at c.split_at.ensures.by_index.0 cut.0 c.in-Some-bad_escape.ensures

pub returns-in-None : goal.returns-in-None
returns-in-None c =
    let cut = string-cut c.args.bytes.now c.in-Some.behind.now _ _ (sym c.in-Some.ensures) c.split_at.ensures.by_index.0 c.split_at.ensures.front_len in
    string-token c.args.bytes.now _ _ (omega arith, AreBytes-from _ (λ i. omega (arith, c.type_inv.bytes i))) c.split_at.ensures.by_index.0 cut.0 c.in-None.ensures
