use Rattle.std.proofs.Common.{◌∙◌, sym, ap}
use Rattle.split.proofs.Joining.{joining_begun, joining_done, found_within, step_passed, step_first, step_joined}
use Rattle.split.proofs.joins.join_at.Goals as goal
use Rattle.split.proofs.joins.join_at.Goals.{then-contains+in-None, then-contains+in-Some, else-contains}

pub loop-index-init : goal.loop-index-init
loop-index-init c = joining_begun c.args.members.now c.args.rows.now.rows.items c.args.place c.args.labels.now.items

pub join-requires-clause-one : goal.join-requires-clause-one
join-requires-clause-one c =
    found_within c.args.labels.now.items c.loop-index.labels.items c.args.members.now c.args.rows.now.rows.items c.args.place
    c.loop-index.index-index c.loop-index.first c.loop-index.invariant c.in-Some.one c.in-Some.is c.requires

pub loop-index-preserved : goal.loop-index-preserved
loop-index-preserved c =
    elim c.if-contains.branch [
      | then-contains+in-None w ↦
          step_first c.args.labels.now.items c.loop-index.labels.items c.args.members.now c.args.rows.now.rows.items c.args.place
          c.loop-index.index-index c.loop-index.first c.loop-index.invariant c.loop-index-test.true _ c.if-contains.labels.items
          c.if-contains.first (sym w.if-contains.ensures) w.in-None.is (ap (λ v. v.items) w.labels-is) w.first-is
      | then-contains+in-Some w ↦
          step_joined c.args.labels.now.items c.loop-index.labels.items c.args.members.now c.args.rows.now.rows.items c.args.place
          c.loop-index.index-index c.loop-index.first c.loop-index.invariant c.loop-index-test.true _ c.if-contains.labels.items
          c.if-contains.first (sym w.if-contains.ensures) w.in-Some.one w.in-Some.is c.requires
          (ap (λ v. v.items) w.labels-is ∙ w.join.ensures) (w.first-is ∙ sym w.in-Some.is)
      | else-contains w ↦
          step_passed c.args.labels.now.items c.loop-index.labels.items c.args.members.now c.args.rows.now.rows.items c.args.place
          c.loop-index.index-index c.loop-index.first c.loop-index.invariant c.loop-index-test.true _ c.if-contains.labels.items
          c.if-contains.first (sym w.if-contains.ensures) (ap (λ v. v.items) w.labels-is) w.first-is
    ]

pub returns : goal.returns
returns c =
    joining_done c.args.members.now c.args.rows.now.rows.items c.args.place c.args.labels.now.items c.loop-index.labels.items
    c.loop-index.index-index c.loop-index.first c.loop-index-test.false c.loop-index.invariant
