use Rattle.std.proofs.Common.{◌++◌, cond, [], ◌∷◌, vec_len, ap, arith, ◌∙◌}
use Rattle.alloc_service.specs.Forward.{forward}
use Rattle.alloc_service.proofs.Gathered.{one_cell, pushed, pushed_len}
use Rattle.alloc_service.proofs.moves.gather_cells.Goals as goal

pub loop-left-preserved : goal.loop-left-preserved
loop-left-preserved c =
    let inv = c.loop-left.invariant in
    let whole = pushed _ c.loop-left.words.items c.push.new.self.items c.cell-word.result c.push.ensures.items (c.push.ensures.succeeds (omega (arith, inv.room))) in
    let count = pushed_len _ (vec_len c.push.new.self) (vec_len c.loop-left.words) c.push.ensures.len (c.push.ensures.succeeds (omega (arith, inv.room))) in
    record {
      gathered = one_cell c.args.scanned (forward c.args.table.now) c.args.memory.now c.loop-left.at c.loop-left.left c.loop-left.words.items c.push.new.self.items c.loop-left-test.true
          (whole ∙ ap (λ w. c.loop-left.words.items ++ w ∷ []) (c.cell-word.ensures ∙ ap (λ w. cond c.args.scanned (forward c.args.table.now w) w) c.word.ensures))
          ∙ inv.gathered;
      len = omega (arith, inv.len, count);
      room = omega (arith, inv.room, c.push.ensures.upper_bound, c.push.ensures.capacity);
      kept = omega (arith, inv.kept, c.push.ensures.capacity);
      low = omega (arith, inv.low);
    }
