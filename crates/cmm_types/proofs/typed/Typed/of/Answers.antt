use Rattle.cmm_types.proofs.typed.Typed.of.Goals as goal

pub invariant_of-result : goal.invariant_of-result
invariant_of-result c = record { annotated = c.requires.typed; in_order = c.requires.symbols }
