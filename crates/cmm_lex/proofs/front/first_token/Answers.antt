use Rattle.std.proofs.Common.{◌≡◌, ◌++◌, length, ap, sym, ◌∙◌, arith, length-append}
use Rattle.cmm_lex.proofs.Fronts.{first-none, first-kind, first-some}
use Rattle.cmm_lex.proofs.Scans.{AreBytes-from, scan-token}
use Rattle.cmm_lex.proofs.front.first_token.Goals as goal

pub returns-in_err-shape : goal.returns-in_err-shape
returns-in_err-shape c =
    rw c.from_residual.ensures
    (first-none c.args.bytes.now (AreBytes-from _ (λ i. omega (arith, c.type_inv.bytes i))) (sym c.longest_token.ensures ∙ c.in_err-shape.was))

pub split_at-requires : goal.split_at-requires
split_at-requires c =
    let bytes = c.args.bytes.now in
    let t = scan-token bytes c.in_ok-shape.shape c.in_ok-shape.len (sym c.in_ok-shape.ensures) in
    let len : length bytes ≡ length (t.text ++ t.rest) = ap length t.whole in
    omega (arith, length-append t.text t.rest, len, t.len)

pub returns-in_err-kind_of : goal.returns-in_err-kind_of
returns-in_err-kind_of c =
    let bytes = c.args.bytes.now in
    let t = scan-token bytes c.in_ok-shape.shape c.in_ok-shape.len (sym c.in_ok-shape.ensures) in
    absurd
    (first-kind bytes c.in_ok-shape.shape c.in_ok-shape.len _ _ (AreBytes-from _ (λ i. omega (arith, c.type_inv.bytes i))) t c.split_at.ensures.by_index.0 c.split_at.ensures.front_len (sym c.kind_of.ensures ∙ c.in_err-kind_of.was))

pub returns : goal.returns
returns c =
    let bytes = c.args.bytes.now in
    let t = scan-token bytes c.in_ok-shape.shape c.in_ok-shape.len (sym c.in_ok-shape.ensures) in
    first-some bytes c.in_ok-shape.shape c.in_ok-shape.len _ _ c.in_ok-kind_of.field-0 (AreBytes-from _ (λ i. omega (arith, c.type_inv.bytes i))) t c.split_at.ensures.by_index.0 c.split_at.ensures.front_len (sym c.in_ok-kind_of.ensures)
