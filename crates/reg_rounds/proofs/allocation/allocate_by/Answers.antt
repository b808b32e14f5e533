use Rattle.std.proofs.Common.{◌*◌, true, sym, ap, ◌∙◌, subst}
use Rattle.reg_rounds_rules.specs.Rounds.{none_yet, most_rounds, IsAllocatedIn}
use Rattle.reg_rounds_rules.proofs.Kept.{still_formed, still_placed, still_room}
use Rattle.colouring_rules.specs.Places.{rest_in_slots}
use Rattle.reload_rules.proofs.Room.{room_counts}
use Rattle.reg_rounds.proofs.Turns.{next_asked, no_other, given_up}
use Rattle.reg_rounds.proofs.allocation.allocate_by.Goals as goal

pub first_free-fresh-requires : goal.first_free-fresh-requires
first_free-fresh-requires c =
    let room = c.requires.room in
    record {
      countable = room_counts (most_rounds * (room.size).operands) (record { size = room.size; within = room.within; small = room.small });
    }

pub loop-rounds-init : goal.loop-rounds-init
loop-rounds-init c = none_yet

pub round-requires-clause-formed : goal.round-requires-clause-formed
round-requires-clause-formed c = still_formed c.requires.formed c.requires.placed c.requires.low c.loop-rounds.invariant

pub round-requires-clause-placed : goal.round-requires-clause-placed
round-requires-clause-placed c = still_placed c.requires.formed c.requires.placed c.requires.low c.loop-rounds.invariant

pub round-requires-clause-room : goal.round-requires-clause-room
round-requires-clause-room c =
    still_room c.requires.formed c.requires.placed c.requires.low c.loop-rounds.invariant c.loop-rounds-test.true c.requires.room

pub loop-rounds-preserved : goal.loop-rounds-preserved
loop-rounds-preserved c =
    next_asked c.loop-rounds.rounds c.loop-rounds.invariant c.in_ok-made.ensures c.if-not-asks.false

pub returns-then-not-asks : goal.returns-then-not-asks
returns-then-not-asks c =
    no_other c.loop-rounds.rounds (record { above = c.first_free-fresh.ensures.above; least = c.first_free-fresh.ensures.least })
    c.loop-rounds.invariant c.loop-rounds-test.true c.in_ok-made.ensures c.if-not-asks.true

pub returns : goal.returns
returns c =
    subst (λ q. IsAllocatedIn c.args.by c.args.mach q 50 true) (sym (c.in_ok-rest_in_slots.ensures ∙ ap rest_in_slots c.in_ok-first.ensures))
    (given_up c.loop-rounds.rounds (record { above = c.first_free-fresh.ensures.above; least = c.first_free-fresh.ensures.least })
    c.loop-rounds.invariant c.loop-rounds.auto.rounds-end c.loop-rounds-test.false)
