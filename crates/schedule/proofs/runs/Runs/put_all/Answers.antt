use Rattle.std.proofs.Common.{[], ◌∷◌, ◌∙◌, sym, ap, append_assoc}
use Rattle.schedule.specs.Runs.{code_with}
use Rattle.schedule.proofs.runs.Runs.put_all.Goals as goal

pub loop-line-preserved : goal.loop-line-preserved
loop-line-preserved c = (
  λ rest.
      c.in_ok-put.ensures rest ∙ c.loop-line.invariant.0 (c.in-Some.line ∷ rest)
      ∙ ap (code_with c.args.self.now) (sym (append_assoc c.loop-line.yielded (c.in-Some.line ∷ []) rest)),
  c.in_ok-put.ensures [] ∙ c.loop-line.invariant.0 (c.in-Some.line ∷ []),
)
