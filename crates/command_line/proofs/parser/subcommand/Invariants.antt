use Rattle.std.proofs.Common.{◌≡◌, false, take}
use Rattle.clap.specs.Words.{app_of}
use Rattle.clap.specs.declared.builder.command.Command.TheViews.{out-Command}
use Rattle.command_line.proofs.Built.{slots_app}
use Rattle.command_line.proofs.parser.subcommand.Given as goal

abbrev pub invariant-loop-slot : goal.invariant-loop-slot
invariant-loop-slot l =
    (app_of l.parser ≡ slots_app l.fn.command (take l.slot-index l.slots)) × ((out-Command l.parser).has_globals ≡ false)
