use Rattle.std.proofs.Common.{◌+◌, ◌<◌, length, get_or, subst, sym, arith, ap, take}
use Rattle.cmm_walks.specs.Groups.{members}
use Rattle.cmm_walks.specs.declared.labels.NodeLabels.{NodeLabels}
use Rattle.cmm_walks.proofs.Spreads.{Passing, passing_none, passing_all, tried_skip, tried_within, tried_more}
use Rattle.cmm_walks.proofs.labels.NodeLabels.lower_before.Goals.{then-not-binds+in_ok-lower, else-not-binds}
use Rattle.cmm_walks.proofs.labels.NodeLabels.lower_before.Goals as goal

pub loop-q-init : goal.loop-q-init
loop-q-init c = passing_none c.args.nodes.now c.args.slot c.args.place c.args.self.now (members c.args.before.now c.args.place) c.requires.spreading

pub lower-requires : goal.lower-requires
lower-requires c =
    let w : get_or c.members-q-items.result.now c.loop-q.q-index 0 < length c.args.nodes.now =
    tried_within c.args.nodes.now c.args.before.now c.args.place c.members-q-items.result.now c.loop-q.q-index c.requires.before c.members-q-items.ensures c.loop-q-test.true in
    omega (arith, w, c.loop-q.invariant.spreading.len)

pub loop-q-preserved : goal.loop-q-preserved
loop-q-preserved c =
    let P : NodeLabels → Type 0 = λ x. Passing c.args.nodes.now c.args.slot c.args.place c.args.self.now x (take (c.loop-q.q-index + 1) (members c.args.before.now c.args.place)) in
    elim c.if-not-binds.branch [
      | then-not-binds+in_ok-lower w ↦
          subst P (sym w.self-is)
          (tried_more c.args.nodes.now c.args.before.now c.args.slot c.args.place c.at-label.result c.args.self.now c.loop-q.self w.lower.new.self c.members-q-items.result.now c.loop-q.q-index c.step_of.result c.binds.result
          c.requires.before c.members-q-items.ensures c.loop-q-test.true c.binds.ensures c.step_of.ensures w.if-not-binds.true c.at-label.ensures w.in_ok-lower.ensures c.loop-q.invariant)
      | else-not-binds w ↦
          subst P (sym w.self-is)
          (tried_skip c.args.nodes.now c.args.before.now c.args.slot c.args.place c.args.self.now c.loop-q.self c.members-q-items.result.now c.loop-q.q-index c.step_of.result c.binds.result
          c.members-q-items.ensures c.loop-q-test.true c.binds.ensures c.step_of.ensures w.if-not-binds.false c.loop-q.invariant)
    ]

pub returns : goal.returns
returns c =
    let e = ap length c.members-q-items.ensures in
    passing_all c.args.nodes.now c.args.before.now c.args.slot c.args.place c.args.self.now c.loop-q.self c.loop-q.q-index c.requires.before
    (omega (arith, e, c.loop-q-test.false)) c.loop-q.invariant
