use Rattle.std.proofs.Common.{[], ◌∷◌, ◌++◌, ◌∙◌, sym, ap, append_assoc}
use Rattle.std.proofs.lemmas.List.{append-nil}
use Rattle.lin_unused.specs.Flags.{unflagged_lines}
use Rattle.lin_unused.proofs.Flagged.{kept_none}
use Rattle.lin_unused.proofs.leaving.unset_lines.Goals as goal

pub loop-line-init : goal.loop-line-init
loop-line-init c = (
  λ rest. ap (λ xs. xs ++ unflagged_lines c.args.flags.now rest) c.in_ok-left.ensures.items,
  c.in_ok-left.ensures.items ∙ sym (kept_none c.args.flags.now),
)

pub loop-line-preserved : goal.loop-line-preserved
loop-line-preserved c =
    let i = c.in-Some.line in
    let new = c.push_next.new.left.items in (
      λ rest.
          c.in_ok-others.ensures rest ∙ c.loop-line.invariant.0 (i ∷ rest)
          ∙ ap (unflagged_lines c.args.flags.now) (sym (append_assoc c.loop-line.yielded (i ∷ []) rest)),
      sym (append-nil new) ∙ ap (λ xs. new ++ xs) (sym (kept_none c.in_ok-others.others.now))
          ∙ c.in_ok-others.ensures [] ∙ c.loop-line.invariant.0 (i ∷ []),
    )
