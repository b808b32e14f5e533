use Rattle.std.proofs.Common.{◌≡◌, ℕ, ◌+◌, ◌*◌, ◌-◌, ◌/◌, ◌≤◌, ap, sym, ◌∙◌, Option, arith, subst}
use Rattle.std.specs.Prelude.{IfSome}
use Rattle.rv_machine.specs.Observation.{young_blocks, blocks_from, cells_of_header}
use Rattle.rv_machine.proofs.Young.{found_in, found_all, one_more, at_top, no_header, not_whole, one_block, whole_bounds, passed_below}
use Rattle.rv_machine.proofs.observe.young_serial.Goals as goal

pub returns-then-at-eq-YOUNG_TOP-clause-exact : goal.returns-then-at-eq-YOUNG_TOP-clause-exact
returns-then-at-eq-YOUNG_TOP-clause-exact c =
    sym (sym (found_all c.args.address (young_blocks c.args.memory.now c.args.from)) ∙ c.loop-most.invariant.rest
    ∙ ap (found_in c.args.address c.loop-most.found) (at_top c.loop-most.most c.args.memory.now c.loop-most.at c.loop-most-test.true c.if-at-eq-YOUNG_TOP.true))

pub returns-in_err-words-clause-exact : goal.returns-in_err-words-clause-exact
returns-in_err-words-clause-exact c =
    c.from_residual.ensures
    ∙ sym (sym (found_all c.args.address (young_blocks c.args.memory.now c.args.from)) ∙ c.loop-most.invariant.rest
    ∙ ap (found_in c.args.address c.loop-most.found) (no_header c.loop-most.most c.args.memory.now c.loop-most.at c.loop-most-test.true c.if-at-eq-YOUNG_TOP.false (sym c.in_err-words.ensures.exact)))

pub returns-then-not-is_whole-clause-exact : goal.returns-then-not-is_whole-clause-exact
returns-then-not-is_whole-clause-exact c =
    sym (sym (found_all c.args.address (young_blocks c.args.memory.now c.args.from)) ∙ c.loop-most.invariant.rest
    ∙ ap (found_in c.args.address c.loop-most.found) (not_whole c.loop-most.most c.args.memory.now c.loop-most.at c.in_ok-words.field-0 c.loop-most-test.true c.if-at-eq-YOUNG_TOP.false (sym c.in_ok-words.ensures.exact) (sym c.if-not-is_whole.ensures)))

pub loop-most-preserved : goal.loop-most-preserved
loop-most-preserved c =
    let bounds = whole_bounds (c.in_ok-words.field-0 / 1024) (sym c.if-not-is_whole.ensures) in
    let upper : c.in_ok-words.field-0 / 1024 ≤ 256 = bounds.1 in
    record {
      rest = c.loop-most.invariant.rest
          ∙ ap (found_in c.args.address c.loop-most.found) (one_block c.loop-most.most c.args.memory.now c.loop-most.at c.in_ok-words.field-0 c.loop-most-test.true c.if-at-eq-YOUNG_TOP.false (sym c.in_ok-words.ensures.exact) (sym c.if-not-is_whole.ensures))
          ∙ one_more c.args.address c.loop-most.found _ (blocks_from (c.loop-most.most - 1) c.args.memory.now (c.loop-most.at + 8 + 8 * cells_of_header c.in_ok-words.field-0))
          ∙ ap (λ (o : Option ℕ). found_in c.args.address o (blocks_from (c.loop-most.most - 1) c.args.memory.now (c.loop-most.at + 8 + 8 * cells_of_header c.in_ok-words.field-0))) (sym c.passed-found.ensures);
      near = omega (arith, c.loop-most.invariant.near);
      few = omega (arith, c.loop-most.invariant.few);
      below = subst (λ (o : Option ℕ). IfSome o (λ serial. serial + (c.loop-most.most - 1) ≤ 4097)) (sym c.passed-found.ensures)
          (passed_below c.args.address c.loop-most.found (c.loop-most.at + 8) c.loop-most.most c.loop-most-test.true c.loop-most.invariant.few c.loop-most.invariant.below);
    }

pub returns-clause-exact : goal.returns-clause-exact
returns-clause-exact c =
    let over : c.loop-most.most ≡ 0 = omega arith in
    sym (sym (found_all c.args.address (young_blocks c.args.memory.now c.args.from)) ∙ c.loop-most.invariant.rest
    ∙ ap (λ (m : ℕ). found_in c.args.address c.loop-most.found (blocks_from m c.args.memory.now c.loop-most.at)) over)
