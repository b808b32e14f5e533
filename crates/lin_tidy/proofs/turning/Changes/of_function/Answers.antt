use Rattle.std.proofs.Common.{◌≡◌, ◌+◌, ◌-◌, ◌<◌, drop, length, subst, arith}
use Rattle.std.specs.Option.{option_map}
use Rattle.lin_tidy.specs.Loops.{turn_view, AreChanges}
use Rattle.lin_tidy.proofs.Loops.{changes_more}
use Rattle.lin_tidy.proofs.turning.Changes.of_function.Goals as goal

pub loop-place-preserved : goal.loop-place-preserved
loop-place-preserved c =
    let m = c.args.lin.now in
    let k = c.loop-place.place in
    let some = c.loop-place-test.true in
    let inv = c.loop-place.invariant in
    let within = inv.within in
    let lt : k - 1 < length m.code = omega (arith, some, within) in
    let next : k ≡ k - 1 + 1 = omega (arith, some) in
    record {
      within = omega (arith, within);
      so_far = changes_more m c.args.free (k - 1) c.loop-place.changes c.put.new.self (option_map turn_view c.in_ok-line_turn.field-0) lt
          c.in_ok-line_turn.ensures c.in_ok-put.ensures.turns c.in_ok-put.ensures.opened
          (subst (λ k. AreChanges m c.args.free (drop k m.code) c.loop-place.changes) next inv.so_far);
    }
