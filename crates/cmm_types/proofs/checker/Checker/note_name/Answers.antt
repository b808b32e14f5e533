use Rattle.cmm_types.proofs.Meanings.{unbound_type, bound_type}
use Rattle.cmm_types.proofs.checker.Checker.note_name.Goals as goal

pub returns-in-None-clause-ty : goal.returns-in-None-clause-ty
returns-in-None-clause-ty c = unbound_type c.args.self.now.names c.args.name.now c.in-None.ensures

pub returns-in-Some-clause-ty : goal.returns-in-Some-clause-ty
returns-in-Some-clause-ty c = bound_type c.args.self.now.names c.args.name.now c.in-Some.meaning c.in-Some.ensures
