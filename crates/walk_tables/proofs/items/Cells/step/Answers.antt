use Rattle.std.proofs.Common.{refl}
use Rattle.std.proofs.lemmas.Result.{IfOk-weaker}
use Rattle.walk_tables.specs.Cells.{cells, tasks_at, scope_at, event_of}
use Rattle.walk_tables.proofs.Nodes.{goes-none, goes-does, goes-catches, goes-handles, item-as}
use Rattle.walk_tables.proofs.Pushed.{extends-none}
use Rattle.walk_tables.proofs.items.Cells.step.Goals as goal

pub returns-in-Empty : goal.returns-in-Empty
returns-in-Empty c =
    let v = cells c.args.self.now in
    item-as v v c.last.result c.args.item _ c.in-Empty.is (λ b h. record { extends = extends-none v; sound = c.requires.sound; goes = goes-none v c.last.result c.last.ensures })

pub returns-in-Named : goal.returns-in-Named
returns-in-Named c =
    let v = cells c.args.self.now in
    item-as v v c.last-in-Named.result c.args.item _ c.in-Named.is (λ b h. record { extends = extends-none v; sound = c.requires.sound; goes = goes-none v c.last-in-Named.result c.last-in-Named.ensures })

pub returns-in-Does : goal.returns-in-Does
returns-in-Does c =
    let v = cells c.args.self.now in
    item-as v v c.telling.result c.args.item _ c.in-Does.is (λ b h. record { extends = extends-none v; sound = c.requires.sound; goes = goes-does v (event_of c.in-Does.action) (tasks_at v c.in-Does.rest) c.telling.result c.in-Does.rest c.telling.ensures b refl })

pub returns-in-Evaluates : goal.returns-in-Evaluates
returns-in-Evaluates c =
    let v = cells c.args.self.now in
    IfOk-weaker c.evaluate.result _ _
    (λ node k. item-as v (cells c.evaluate.new.self) node c.args.item _ c.in-Evaluates.is (λ b h. k (scope_at v c.in-Evaluates.scope) (record { sound = c.requires.sound; within = b.1 }) (record { within = b.0; is = refl }) h))
    c.evaluate.ensures

pub returns-in-Enters : goal.returns-in-Enters
returns-in-Enters c =
    let v = cells c.args.self.now in
    IfOk-weaker c.enter.result _ _
    (λ node k. item-as v (cells c.enter.new.self) node c.args.item _ c.in-Enters.is (λ b h. k (scope_at v c.in-Enters.scope) (record { sound = c.requires.sound; within = b.1 }) (record { within = b.0; is = refl }) h.0 h.1))
    c.enter.ensures

pub returns-in-Either : goal.returns-in-Either
returns-in-Either c =
    let v = cells c.args.self.now in
    IfOk-weaker c.either.result _ _
    (λ node k. item-as v (cells c.either.new.self) node c.args.item _ c.in-Either.is (λ b h. k (scope_at v c.in-Either.scope) (record { sound = c.requires.sound; within = b.1 }) (record { within = b.0; is = refl }) h.0 h.1))
    c.either.ensures

pub returns-in-OneOf : goal.returns-in-OneOf
returns-in-OneOf c =
    let v = cells c.args.self.now in
    IfOk-weaker c.one_of.result _ _
    (λ node k. item-as v (cells c.one_of.new.self) node c.args.item _ c.in-OneOf.is (λ b h. k (scope_at v c.in-OneOf.scope) (record { sound = c.requires.sound; within = b.1 }) (record { within = b.0; is = refl }) h))
    c.one_of.ensures

pub returns-in-MayRaise : goal.returns-in-MayRaise
returns-in-MayRaise c =
    let v = cells c.args.self.now in
    IfOk-weaker c.go_on_or_raise.result _ _
    (λ node k. item-as v (cells c.go_on_or_raise.new.self) node c.args.item _ c.in-MayRaise.is (λ b h. k (record { sound = c.requires.sound; within = b })))
    c.go_on_or_raise.ensures

pub returns-in-Raises : goal.returns-in-Raises
returns-in-Raises c =
    let v = cells c.args.self.now in
    item-as v v c.leave_by_raise.result c.args.item _ c.in-Raises.is (λ b h. c.leave_by_raise.ensures c.requires.sound)

pub returns-in-Exits : goal.returns-in-Exits
returns-in-Exits c =
    let v = cells c.args.self.now in
    item-as v v c.leave_by_exit.result c.args.item _ c.in-Exits.is (λ b h. c.leave_by_exit.ensures)

pub returns-in-Catches : goal.returns-in-Catches
returns-in-Catches c =
    let v = cells c.args.self.now in
    item-as v v c.quiet.result c.args.item _ c.in-Catches.is (λ b h. record { extends = extends-none v; sound = c.requires.sound; goes = goes-catches v _ _ _ _ (tasks_at v c.in-Catches.rest) c.quiet.result c.in-Catches.rest c.quiet.ensures b.1 refl })

pub returns-in-Handler : goal.returns-in-Handler
returns-in-Handler c =
    let v = cells c.args.self.now in
    IfOk-weaker c.handle.result _ _
    (λ node k. item-as v (cells c.handle.new.self) node c.args.item _ c.in-Handler.is (λ b h. k (scope_at v c.in-Handler.scope) (record { sound = c.requires.sound; within = b.1 }) (record { within = b.0; is = refl }) h.0 h.1 h.2))
    c.handle.ensures

pub returns-in-Handles : goal.returns-in-Handles
returns-in-Handles c =
    let v = cells c.args.self.now in
    item-as v v c.quiet-in-Handles.result c.args.item _ c.in-Handles.is (λ b h. record { extends = extends-none v; sound = c.requires.sound; goes = goes-handles v _ _ _ _ _ (tasks_at v c.in-Handles.rest) c.quiet-in-Handles.result c.in-Handles.rest c.quiet-in-Handles.ensures b.1 refl })
