use Rattle.std.proofs.Common.{[], ◌∷◌, ◌∙◌, sym, ap, append_assoc}
use Rattle.comballoc.specs.Finished.{finished_scan}
use Rattle.comballoc.proofs.combining.Scan.take_all.Goals as goal

pub loop-instr-preserved : goal.loop-instr-preserved
loop-instr-preserved c = (
  λ rest.
      c.in_ok-take.ensures rest ∙ c.loop-instr.invariant.0 (c.in-Some.instr ∷ rest)
      ∙ ap (finished_scan c.args.self.now) (sym (append_assoc c.loop-instr.yielded (c.in-Some.instr ∷ []) rest)),
  c.in_ok-take.ensures [] ∙ c.loop-instr.invariant.0 (c.in-Some.instr ∷ []),
)
