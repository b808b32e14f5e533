use Rattle.std.proofs.Common.{sym, ◌∙◌}
use Rattle.std.proofs.lemmas.Result.{IfOk-weaker}
use Rattle.walk_tables.specs.Cells.{cells}
use Rattle.walk_tables.proofs.Pushed.{adds-as, adds-none}
use Rattle.walk_tables.proofs.Operations.{bound-none, bound-some}
use Rattle.walk_tables.proofs.items.Cells.assigned.Goals as goal

pub returns-in-None : goal.returns-in-None
returns-in-None c = λ s r scope. adds-as (bound-none s c.args.at c.args.name.now (sym (c.find.ensures s r.sound scope) ∙ c.in-None.is)) (adds-none (cells c.args.self.now) c.args.rest r)

pub returns-in-Some : goal.returns-in-Some
returns-in-Some c =
    IfOk-weaker c.does.result _ _
    (λ cell h. λ s r scope. adds-as (bound-some s c.args.at c.args.name.now c.in-Some.found c.is_address-address.result (sym (c.find.ensures s r.sound scope) ∙ c.in-Some.is) c.is_address-address.ensures) (h r))
    c.does.ensures.adds
