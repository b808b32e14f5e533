use Rattle.std.proofs.Common.{sym, ap, ◌∙◌}
use Rattle.walk_tables.proofs.Names.{immutable-found, immutable_of}
use Rattle.walk_tables.proofs.items.Cells.is_immutable.Goals as goal

pub returns-in-None : goal.returns-in-None
returns-in-None c = λ s sound scope. sym (immutable-found s c.args.name.now ∙ ap immutable_of (sym (c.find.ensures s sound scope) ∙ c.in-None.is))

pub returns-in-Some : goal.returns-in-Some
returns-in-Some c = λ s sound scope. sym (immutable-found s c.args.name.now ∙ ap immutable_of (sym (c.find.ensures s sound scope) ∙ c.in-Some.is))
