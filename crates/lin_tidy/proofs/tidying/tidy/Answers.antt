use Rattle.std.proofs.Common.{◌≡◌, false, length, sym, ap, ◌∙◌, subst, arith}
use Rattle.std.proofs.lemmas.Bool.{true≢false}
use Rattle.std.specs.List.{All}
use Rattle.lin_tidy.proofs.Rounds.{first_numbered, first_round, next_numbered, next_countable, next_reached, next_read, no_move_by, next_round, last_round, fewer_left, left_by}
use Rattle.lin_tidy.proofs.Sizes.{labels_then, turned_countable}
use Rattle.lin_tidy.proofs.tidying.tidy.Goals as goal

pub redirect_jumps-requires : goal.redirect_jumps-requires
redirect_jumps-requires c = let labels = c.requires.room.labels in omega (arith, labels)

pub turn_loops-requires : goal.turn_loops-requires
turn_loops-requires c = labels_then c.args.lin c.in_ok-redirected.redirected c.in_ok-redirected.ensures c.requires.room.labels

pub useless_lines-requires : goal.useless_lines-requires
useless_lines-requires c =
    record {
      countable = turned_countable c.args.lin c.in_ok-redirected.redirected c.in_ok-now.now c.in_ok-redirected.ensures c.in_ok-now.ensures c.requires.room;
      numbered = first_numbered c.args.lin c.in_ok-redirected.redirected c.in_ok-now.now c.in_ok-redirected.ensures c.in_ok-now.ensures
          c.requires.numbered;
    }

pub loop-alloc-init : goal.loop-alloc-init
loop-alloc-init c =
    first_round c.args.lin c.in_ok-redirected.redirected c.in_ok-now.now c.in_ok-flags.flags.items c.in_ok-redirected.ensures c.in_ok-now.ensures
    c.requires.numbered c.requires.room c.in_ok-flags.ensures

pub useless_lines_left-requires-clause-numbered : goal.useless_lines_left-requires-clause-numbered
useless_lines_left-requires-clause-numbered c =
    next_numbered c.args.lin c.loop-alloc.now c.in_ok-now-2.now c.loop-alloc.flags.items c.loop-alloc.invariant
    (left_by c.loop-alloc.now c.in_ok-now-2.now c.as_slice-in-loop-alloc-3.result.now c.loop-alloc.flags.items c.as_slice-in-loop-alloc-3.ensures.value
    c.in_ok-now-2.ensures)

pub useless_lines_left-requires-clause-countable : goal.useless_lines_left-requires-clause-countable
useless_lines_left-requires-clause-countable c =
    next_countable c.args.lin c.loop-alloc.now c.in_ok-now-2.now c.loop-alloc.flags.items c.loop-alloc.invariant
    (left_by c.loop-alloc.now c.in_ok-now-2.now c.as_slice-in-loop-alloc-3.result.now c.loop-alloc.flags.items c.as_slice-in-loop-alloc-3.ensures.value
    c.in_ok-now-2.ensures)

pub useless_lines_left-requires-clause-reached : goal.useless_lines_left-requires-clause-reached
useless_lines_left-requires-clause-reached c =
    next_reached c.args.lin c.loop-alloc.now c.in_ok-now-2.now c.loop-alloc.flags.items c.loop-alloc.invariant
    (left_by c.loop-alloc.now c.in_ok-now-2.now c.as_slice-in-loop-alloc-3.result.now c.loop-alloc.flags.items c.as_slice-in-loop-alloc-3.ensures.value
    c.in_ok-now-2.ensures)

pub useless_lines_left-requires-clause-read : goal.useless_lines_left-requires-clause-read
useless_lines_left-requires-clause-read c = λ t.
    next_read c.args.lin c.loop-alloc.now c.in_ok-now-2.now c.loop-alloc.flags.items c.loop-alloc.invariant
    (left_by c.loop-alloc.now c.in_ok-now-2.now c.as_slice-in-loop-alloc-3.result.now c.loop-alloc.flags.items c.as_slice-in-loop-alloc-3.ensures.value
    c.in_ok-now-2.ensures)
    (no_move_by c.loop-alloc.now.code c.as_slice-in-loop-alloc.result.now c.as_slice-in-loop-alloc-2.result.now c.loop-alloc.flags.items
    c.as_slice-in-loop-alloc.ensures c.as_slice-in-loop-alloc-2.ensures.value (c.no_move_goes-moves_stay.ensures t))

pub no_move_goes-moves_stay-requires : goal.no_move_goes-moves_stay-requires
no_move_goes-moves_stay-requires c =
    ap length c.as_slice-in-loop-alloc-2.ensures.value ∙ c.loop-alloc.invariant.told.len ∙ sym (ap length c.as_slice-in-loop-alloc.ensures)

pub loop-alloc-smaller : goal.loop-alloc-smaller
loop-alloc-smaller c =
    fewer_left c.loop-alloc.now c.in_ok-now-2.now c.loop-alloc.flags.items c.loop-alloc.invariant.told.len
    (λ none. true≢false
    (sym (c.none_set.ensures.1 (subst (All (λ b. b ≡ false)) (sym c.as_slice.ensures.value) none)) ∙ c.loop-alloc-test.true))
    (left_by c.loop-alloc.now c.in_ok-now-2.now c.as_slice-in-loop-alloc-3.result.now c.loop-alloc.flags.items c.as_slice-in-loop-alloc-3.ensures.value
    c.in_ok-now-2.ensures)

pub loop-alloc-preserved : goal.loop-alloc-preserved
loop-alloc-preserved c =
    next_round c.args.lin c.loop-alloc.now c.in_ok-now-2.now c.loop-alloc.flags.items c.in_ok-flags-2.flags.items c.loop-alloc.invariant
    (left_by c.loop-alloc.now c.in_ok-now-2.now c.as_slice-in-loop-alloc-3.result.now c.loop-alloc.flags.items c.as_slice-in-loop-alloc-3.ensures.value
    c.in_ok-now-2.ensures) c.in_ok-flags-2.ensures

pub returns : goal.returns
returns c =
    last_round c.args.lin c.loop-alloc.now c.loop-alloc.flags.items c.loop-alloc.invariant
    (subst (All (λ b. b ≡ false)) c.as_slice.ensures.value (c.none_set.ensures.0 c.loop-alloc-test.false))
