use Rattle.std.specs.List.{list_all}
use Rattle.std.proofs.Common.{◌≡◌, ℕ, ◌-◌, true, drop, get_or, refl, ap, arith, ◌∙◌, sym, subst}
use Rattle.std.proofs.lemmas.Bool.{and_from}
use Rattle.rv_machine.specs.Hart.{Placed}
use Rattle.rv_machine.specs.Placement.{are_apart, is_apart, is_in_heap, placed_at}
use Rattle.alloc_service.specs.Forward.{covers}
use Rattle.alloc_service.proofs.Apart.{IsClaimed, next, next_is, next_inside, done, done_inside, failed_apart, failed_within, free_apart, claimed_more, claimed_within}
use Rattle.alloc_service.proofs.claims.claim.Goals as goal

pub claim_block-requires-clause-inside : goal.claim_block-requires-clause-inside
claim_block-requires-clause-inside c =
    ap (λ w. is_in_heap c.loop-left.table.heap (record { start = get_or c.args.starts.now (c.loop-left.left - 1) 0; words = w })) c.words.ensures
    ∙ ap (λ heap. is_in_heap heap (record { start = get_or c.args.starts.now (c.loop-left.left - 1) 0; words = c.index-blocks-left.result.words })) c.loop-left.invariant.same_heap
    ∙ next_inside c.args.blocks.now c.args.starts.now c.loop-left.left c.index-blocks-left.result c.loop-left-test.true c.loop-left.invariant.within c.requires.lengths c.index-blocks-left.is c.args.heap c.requires.inside

pub returns-then-not-claim_block-clause-exact : goal.returns-then-not-claim_block-clause-exact
returns-then-not-claim_block-clause-exact c =
    let at : ℕ → Placed = λ w. record { start = get_or c.args.starts.now (c.loop-left.left - 1) 0; words = w } in
    let t = c.if-not-claim_block.ensures.taken refl in
    sym (failed_apart c.args.blocks.now c.args.starts.now c.loop-left.left c.index-blocks-left.result c.loop-left-test.true c.loop-left.invariant.within c.requires.lengths c.index-blocks-left.is c.loop-left.table t.0 c.loop-left.invariant.claimed t.1 (sym (ap (λ w. covers t.0 (at w)) c.words.ensures) ∙ t.2) t.3)

pub returns-then-not-claim_block-clause-within : goal.returns-then-not-claim_block-clause-within
returns-then-not-claim_block-clause-within c =
    let at : ℕ → Placed = λ w. record { start = get_or c.args.starts.now (c.loop-left.left - 1) 0; words = w } in
    failed_within c.args.blocks.now c.args.starts.now c.loop-left.left c.index-blocks-left.result c.loop-left-test.true c.loop-left.invariant.within c.requires.lengths c.index-blocks-left.is c.loop-left.table c.claim_block.new.table c.loop-left.invariant.claimed
    (λ a h. c.if-not-claim_block.ensures.outside a (ap (λ w. covers a (at w)) c.words.ensures ∙ h))

pub loop-left-preserved : goal.loop-left-preserved
loop-left-preserved c =
    let at : ℕ → Placed = λ w. record { start = get_or c.args.starts.now (c.loop-left.left - 1) 0; words = w } in
    let is = next_is c.args.blocks.now c.args.starts.now c.loop-left.left c.index-blocks-left.result c.loop-left-test.true c.loop-left.invariant.within c.requires.lengths c.index-blocks-left.is in
    let block = next c.args.blocks.now c.args.starts.now c.loop-left.left c.index-blocks-left.result c.loop-left-test.true c.loop-left.invariant.within c.requires.lengths c.index-blocks-left.is in
    let before = done c.args.blocks.now c.args.starts.now c.loop-left.left c.index-blocks-left.result c.loop-left-test.true c.loop-left.invariant.within c.requires.lengths c.index-blocks-left.is in
    let apart : list_all (is_apart block) before ≡ true =
    free_apart c.args.heap c.loop-left.table block before (next_inside c.args.blocks.now c.args.starts.now c.loop-left.left c.index-blocks-left.result c.loop-left-test.true c.loop-left.invariant.within c.requires.lengths c.index-blocks-left.is c.args.heap c.requires.inside) (done_inside c.args.blocks.now c.args.starts.now c.loop-left.left c.index-blocks-left.result c.loop-left-test.true c.loop-left.invariant.within c.requires.lengths c.index-blocks-left.is c.args.heap c.requires.inside) c.loop-left.invariant.claimed
    (λ a h. c.if-not-claim_block.ensures.free refl a (ap (λ w. covers a (at w)) c.words.ensures ∙ h)) in
    record {
      apart = ap are_apart is ∙ and_from (list_all (is_apart block) before) (are_apart before) apart c.loop-left.invariant.apart;
      claimed = subst (IsClaimed c.claim_block.new.table) (sym is)
          (claimed_more c.loop-left.table c.claim_block.new.table block before c.loop-left.invariant.claimed
          (λ a e h. c.if-not-claim_block.ensures.inside refl a e (ap (λ w. covers a (at w)) c.words.ensures ∙ h))
          (λ a h. c.if-not-claim_block.ensures.outside a (ap (λ w. covers a (at w)) c.words.ensures ∙ h)));
      within = omega (arith, c.loop-left.invariant.within);
      same_heap = c.claim_block.ensures.same_heap ∙ c.loop-left.invariant.same_heap;
    }

pub returns-clause-within : goal.returns-clause-within
returns-clause-within c =
    let zero_left : c.loop-left.left ≡ 0 = omega arith in
    record {
      each = λ a none. claimed_within c.loop-left.table _ a (subst (λ k. IsClaimed c.loop-left.table (placed_at (drop k c.args.blocks.now) (drop k c.args.starts.now))) zero_left c.loop-left.invariant.claimed) none;
    }
