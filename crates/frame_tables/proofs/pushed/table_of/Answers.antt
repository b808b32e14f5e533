use Rattle.std.proofs.Common.{◌≡◌, ◌+◌, ◌-◌, ◌<◌, Some, length, sym, ap, ◌∙◌, subst, arith}
use Rattle.std.specs.Prelude.{slice_get}
use Rattle.std.proofs.lemmas.Option.{slice_get-get_or}
use Rattle.frame_tables.specs.Pushed.{AreTabled}
use Rattle.frame_tables.proofs.Bounds.{traps_small}
use Rattle.frame_tables.proofs.Pushing.{tabled_none, tabled_past, tabled_more}
use Rattle.frame_tables.proofs.pushed.table_of.Goals as goal
use Rattle.frame_tables.proofs.pushed.table_of.Goals.{then-place-lines, else-place-lines}

pub loop-position-init : goal.loop-position-init
loop-position-init c =
    tabled_none c.args.lin.now c.args.positions.now c.len-lines.result c.in_ok-traps.traps.items
    (c.in_ok-traps.ensures.items_if_clones_equal (λ y e. e)) c.len-lines.ensures

pub overflow_cast-count : goal.overflow_cast-count
overflow_cast-count c =
    let at : slice_get c.args.positions.now c.loop-position.position-index ≡ Some c.position-item.result =
    slice_get-get_or c.args.positions.now c.loop-position.position-index c.position-item.result c.loop-position-test.true
    ∙ ap Some (sym c.position-item.is) in
    let small = traps_small c.args.lin.now c.args.positions.now c.requires.within c.requires.walked c.loop-position.position-index
    c.position-item.result at in
    omega (arith, small, c.len-count.ensures)

pub loop-position-preserved : goal.loop-position-preserved
loop-position-preserved c =
    let lt : c.loop-position.position-index < length c.args.positions.now = c.loop-position-test.true in
    let at : slice_get c.args.positions.now c.loop-position.position-index ≡ Some c.position-item.result =
    slice_get-get_or c.args.positions.now c.loop-position.position-index c.position-item.result lt ∙ ap Some (sym c.position-item.is) in
    let lines : c.len-lines.result ≡ length c.args.lin.now.code = c.len-lines.ensures in
    elim c.if-place-lines.branch [
      | then-place-lines w ↦
          (let within : c.position-item.result.place < length c.args.lin.now.code = omega (arith, w.if-place-lines.true, lines) in
          tabled_more c.args.lin.now c.args.positions.now c.requires.depth c.requires.walked c.loop-position.position-index c.position-item.result
          c.loop-position.traps.items c.if-place-lines.traps.items (c.len-lines.result - 1 - c.position-item.result.place) c.len-count.result at
          within (omega (arith, lines)) c.len-count.ensures (ap (λ v. v.items) w.traps-is) c.loop-position.invariant)
      | else-place-lines w ↦
          (subst (λ v. AreTabled c.args.lin.now c.args.positions.now (c.loop-position.position-index + 1) v.items) (sym w.traps-is)
          (tabled_past c.args.lin.now c.args.positions.now c.loop-position.position-index c.position-item.result c.loop-position.traps.items at
          (λ within. let out = w.if-place-lines.false in omega (arith, out, lines, within)) c.loop-position.invariant))
    ]
