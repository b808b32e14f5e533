use Rattle.std.proofs.Common.{◌∙◌, ap}
use Rattle.mach_ir.specs.Graph.{coloured_location}
use Rattle.pass_rules.specs.Measures.{other_operands}
use Rattle.reload_rules.proofs.Room.{room_counts}
use Rattle.reload_rules.specs.Reloaded.{any_needs}
use Rattle.reload.proofs.Answered.{answers_coloured, answers_reloaded}
use Rattle.reload.proofs.Numbers.{first_fits}
use Rattle.reload.proofs.reloading.reload.Goals as goal

pub first_free-free-requires : goal.first_free-free-requires
first_free-free-requires c = record { countable = room_counts (other_operands c.args.mach.code) c.requires.room }

pub reloaded_code-requires : goal.reloaded_code-requires
reloaded_code-requires c =
    record {
      room =
          first_fits c.args.mach c.in_ok-slotted.slotted (coloured_location c.args.colours.now) c.first_free-free.result c.in_ok-slotted.ensures
          c.requires.room c.first_free-free.ensures.least;
    }

pub returns-in_ok-code : goal.returns-in_ok-code
returns-in_ok-code c =
    answers_reloaded c.args.mach c.in_ok-slotted.slotted (coloured_location c.args.colours.now) c.any_needs.result c.first_free-free.result c.in_ok-code.code
    c.in_ok-slotted.ensures (c.any_needs.ensures ∙ ap any_needs c.as_slice.ensures) c.if-any_needs.true c.first_free-free.ensures.above c.first_free-free.ensures.least
    c.in_ok-code.ensures

pub returns-in_ok-coloured : goal.returns-in_ok-coloured
returns-in_ok-coloured c =
    answers_coloured c.args.mach c.in_ok-slotted.slotted c.in_ok-coloured.coloured (coloured_location c.args.colours.now) c.any_needs.result
    c.in_ok-slotted.ensures (c.any_needs.ensures ∙ ap any_needs c.as_slice.ensures) c.if-any_needs.false c.in_ok-coloured.ensures
