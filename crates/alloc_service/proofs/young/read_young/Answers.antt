use Rattle.std.proofs.Common.{◌≡◌, ◌+◌, ◌-◌, ◌*◌, ◌/◌, ◌++◌, ◌&&◌, nat_le, true, List, [], ◌∷◌, option_map, ap, arith, ◌∙◌, sym}
use Rattle.std.proofs.lemmas.Bool.{and_from, le-leb}
use Rattle.rv_machine.specs.Hart.{Placed}
use Rattle.rv_machine.specs.Observation.{blocks_from}
use Rattle.rv_machine.proofs.Young.{one_block}
use Rattle.machine_laws.proofs.Chain.{one_more}
use Rattle.alloc_service.proofs.Gathered.{pushed}
use Rattle.alloc_service.proofs.young.read_young.Goals as goal

pub loop-most-preserved : goal.loop-most-preserved
loop-most-preserved c =
    let inv = c.loop-most.invariant in
    let m = c.args.memory.now in
    let cells = c.in-Some.header / 1024 in
    let b : Placed = record { start = c.loop-most.at + 8; words = cells } in
    let whole : (nat_le 1 cells && nat_le cells 256) ≡ true = and_from _ _ (le-leb 1 cells (omega arith)) (le-leb cells 256 (omega arith)) in
    let room = c.push.ensures.succeeds (omega (arith, inv.count, inv.room)) in
    let added : c.push.new.self.items ≡ c.loop-most.young.items ++ b ∷ [] =
    pushed _ c.loop-most.young.items c.push.new.self.items c.new.result c.push.ensures.items room ∙ ap (λ x. c.loop-most.young.items ++ x ∷ []) c.new.ensures in
    record {
      rest = inv.rest
          ∙ ap (option_map (λ (bs : List Placed). c.loop-most.young.items ++ bs)) (one_block c.loop-most.most m c.loop-most.at c.in-Some.header c.loop-most-test.true c.if-at-eq-YOUNG_TOP.false (sym c.in-Some.ensures.exact) whole)
          ∙ one_more c.loop-most.young.items b (blocks_from (c.loop-most.most - 1) m (c.loop-most.at + 8 + 8 * cells))
          ∙ ap (λ (x : List Placed). option_map (λ (bs : List Placed). x ++ bs) (blocks_from (c.loop-most.most - 1) m (c.loop-most.at + 8 + 8 * cells))) (sym added);
      near = omega (arith, inv.near);
      few = omega (arith, inv.few);
      count = omega (arith, inv.count, c.push.ensures.upper_bound);
      room = omega (arith, inv.room, c.push.ensures.capacity);
    }
