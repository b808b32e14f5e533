use Rattle.std.proofs.Common.{sym, ◌∙◌}
use Rattle.cmm_lex.proofs.Fronts.{separator-gap, brace-behind, comment-behind, brace-gap, comment-gap, unclosed-brace, unclosed-comment, other-bad, other-no_quote}
use Rattle.cmm_lex.proofs.front.read_front.Goals as goal

pub returns-in-Separator : goal.returns-in-Separator
returns-in-Separator c = separator-gap c.args.bytes.now _ (sym c.read_opening.ensures ∙ c.in-Separator.is) c.split_at.ensures.back

pub returns-in-Some : goal.returns-in-Some
returns-in-Some c =
    brace-gap c.args.bytes.now _ c.in-Some.rest.now (brace-behind c.args.bytes.now _ (sym c.read_opening.ensures ∙ c.in-Brace.is) c.split_at-in-Brace.ensures.back) (sym c.in-Some.ensures)

pub returns-in-None : goal.returns-in-None
returns-in-None c =
    λ at. unclosed-brace c.args.bytes.now _ at (brace-behind c.args.bytes.now _ (sym c.read_opening.ensures ∙ c.in-Brace.is) c.split_at-in-Brace.ensures.back) (sym c.in-None.ensures)

pub returns-in-Some-behind_comment : goal.returns-in-Some-behind_comment
returns-in-Some-behind_comment c =
    comment-gap c.args.bytes.now _ c.in-Some-behind_comment.rest.now (comment-behind c.args.bytes.now _ (sym c.read_opening.ensures ∙ c.in-Comment.is) c.split_at-in-Comment.ensures.back) (sym c.in-Some-behind_comment.ensures)

pub returns-in-None-behind_comment : goal.returns-in-None-behind_comment
returns-in-None-behind_comment c =
    λ at. unclosed-comment c.args.bytes.now _ at (comment-behind c.args.bytes.now _ (sym c.read_opening.ensures ∙ c.in-Comment.is) c.split_at-in-Comment.ensures.back) (sym c.in-None-behind_comment.ensures)

pub returns-in-None-first_token : goal.returns-in-None-first_token
returns-in-None-first_token c =
    let other = sym c.read_opening.ensures ∙ c.in-Other.is in
    λ at. other-bad c.args.bytes.now at c.requires.some other (c.in-None-first_token.ensures (other-no_quote c.args.bytes.now other))
