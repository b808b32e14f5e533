use Rattle.std.proofs.Common.{sym, ◌∙◌, subst}
use Rattle.std.proofs.lemmas.Bool.{true≢false}
use Rattle.std.specs.Prelude.{IfSome}
use Rattle.lin_unused.specs.Forms.{IsOnePlace}
use Rattle.lin_unused.proofs.SelfMoves.{self_copies, self_place, moves_itself}
use Rattle.lin_unused.proofs.forms.self_move.Goals as goal

pub returns-then-not-is_copy-clause-all : goal.returns-then-not-is_copy-clause-all
returns-then-not-is_copy-clause-all c = λ from to m.
    absurd (true≢false (sym (self_copies m) ∙ sym c.is_copy.ensures ∙ c.if-not-is_copy.true))

pub returns-clause-yes : goal.returns-clause-yes
returns-clause-yes c =
    moves_itself c.args.line.now c.one_place.result (sym c.is_copy.ensures ∙ c.if-not-is_copy.false)
    (subst (λ xs. IfSome c.one_place.result (λ l. IsOnePlace xs c.args.line.now.results l)) c.as_slice.ensures
    (subst (λ ys. IfSome c.one_place.result (λ l. IsOnePlace c.as_slice.result.now ys l)) c.as_slice-2.ensures c.one_place.ensures.yes))

pub returns-clause-all : goal.returns-clause-all
returns-clause-all c = λ from to m.
    c.one_place.ensures.all to.loc
    (subst (λ xs. IsOnePlace xs c.as_slice-2.result.now to.loc) (sym c.as_slice.ensures)
    (subst (λ ys. IsOnePlace c.args.line.now.args ys to.loc) (sym c.as_slice-2.ensures) (self_place m)))
