use Rattle.std.proofs.Common.{◌<◌, length, sym, ◌∙◌, arith}
use Rattle.frame_tables.proofs.Pointing.{points_begun, points_skip, pointed_more, no_frame_at, no_point_at}
use Rattle.lin_flow.specs.Search.{all_positions}
use Rattle.frame_tables.proofs.after.add_points.Goals as goal
use Rattle.frame_tables.proofs.after.add_points.Goals.{then-passes_frame+in_ok-node+in_ok-push+in_ok-push-2, else-passes_frame}

pub loop-place-init : goal.loop-place-init
loop-place-init c =
    points_begun c.args.lin.now (all_positions c.args.search.now) c.args.nodes.now.items c.new-points.result.items c.new-points.ensures.items
    c.requires.searched.len c.requires.searched.are

pub loop-place-preserved : goal.loop-place-preserved
loop-place-preserved c =
    let lt : c.loop-place.place < length c.as_slice-code.result.now = omega arith in
    elim c.if-passes_frame.branch [
      | then-passes_frame+in_ok-node+in_ok-push+in_ok-push-2 w ↦
          rw (w.nodes-is, w.points-is)
          (pointed_more c.args.lin.now c.args.search.now c.args.reached c.args.nodes.now.items c.requires.searched c.loop-place.place
          c.index-code-place.result c.as_slice-code.result.now c.as_slice-code.ensures lt c.index-code-place.is
          (sym c.passes_frame.ensures ∙ w.if-passes_frame.true) w.choice_at-choice.result w.choice_at-choice.ensures w.traps_at-traps.result
          w.traps_at-traps.ensures c.loop-place.nodes.items w.deref.result.now w.push.new.self.items c.loop-place.points.items
          w.push-then-passes_frame.new.self.items w.in_ok-node.node w.deref.ensures.value w.in_ok-node.ensures c.loop-place.invariant
          w.in_ok-push.ensures.items w.in_ok-push-2.ensures.items)
      | else-passes_frame w ↦
          rw (w.nodes-is, w.points-is)
          (points_skip c.args.lin.now (all_positions c.args.search.now) c.loop-place.nodes.items c.loop-place.points.items c.loop-place.place
          c.loop-place.invariant
          (no_frame_at c.args.lin.now c.loop-place.place c.index-code-place.result c.as_slice-code.result.now c.as_slice-code.ensures lt
          c.index-code-place.is (sym c.passes_frame.ensures ∙ w.if-passes_frame.false))
          (no_point_at c.args.lin.now c.loop-place.place c.index-code-place.result c.as_slice-code.result.now c.as_slice-code.ensures lt
          c.index-code-place.is (sym c.passes_frame.ensures ∙ w.if-passes_frame.false)))
    ]
