use Rattle.std.proofs.Common.{◌≡◌, ◌∙◌, List, ap, subst, get_or}
use Rattle.std.proofs.lemmas.List.{take_all}
use Rattle.clap.specs.Simple.{app_of, new_app}
use Rattle.command_line.specs.declared.form.Slot.{Slot}
use Rattle.command_line.specs.declared.form.Slot.TheVariants.{Plain}
use Rattle.clap.specs.Walk.{rule_of}
use Rattle.command_line.specs.Program.{slot_rule}
use Rattle.command_line.proofs.Built.{slots_app, more_slots, slot_at, get_or-same, still_local}
use Rattle.command_line.proofs.parser.subcommand.Goals as goal

pub loop-slot-init : goal.loop-slot-init
loop-slot-init c = (c.new-parser.ensures.app ∙ ap new_app c.word-name.ensures, c.new-parser.ensures.local)

pub loop-slot-preserved : goal.loop-slot-preserved
loop-slot-preserved c =
    let slots = c.slots-slots.result.now in
    let i = c.loop-slot.slot-index in
    let slot = get_or slots i Plain in
    let rule : rule_of c.argument.result ≡ slot_rule slot = c.argument.ensures.rule ∙ ap slot_rule (get_or-same slots i _ Plain c.loop-slot-test.true) in (
      more_slots c.args.command slots i slot c.loop-slot.parser c.in_ok-parser.parser c.argument.result
          c.loop-slot-test.true (slot_at slots i Plain c.loop-slot-test.true) c.loop-slot.invariant.0 c.argument.ensures.local rule c.in_ok-parser.ensures,
      still_local c.loop-slot.parser c.in_ok-parser.parser c.argument.result c.loop-slot.invariant.1 c.argument.ensures.local c.in_ok-parser.ensures,
    )

pub returns-clause-app : goal.returns-clause-app
returns-clause-app c =
    let P : List Slot → Type 0 = λ slots. app_of c.loop-slot.parser ≡ slots_app c.args.command slots in
    let all = subst P (take_all c.loop-slot.slot-index c.slots-slots.result.now c.loop-slot-test.false) c.loop-slot.invariant.0 in
    all ∙ ap (slots_app c.args.command) c.slots-slots.ensures

pub returns-clause-local : goal.returns-clause-local
returns-clause-local c = c.loop-slot.invariant.1
