use Rattle.std.proofs.Common.{◌≡◌, ◌∙◌, codes, true, ap, rules}
use Rattle.clap.specs.Simple.{App, Shape, app_of, app_of_fields, new_app, on_top}
use Rattle.clap.specs.declared.builder.command.Command.{Command}
use Rattle.clap.specs.declared.builder.command.Command.TheOpen.{Command-F}
use Rattle.command_line.proofs.parser.no_commands.Goals as goal

abbrev told : App → App
told = on_top (λ (s : Shape). record s { no_binary_name = true; disable_help_flag = true; disable_help_subcommand = true })

pub returns : goal.returns
returns c =
    let name : app_of c.new.result ≡ new_app (codes "cmmc") = c.new.ensures.app ∙ ap new_app (search rules) in
    ap app_of_fields (c.disable_help_subcommand.ensures
    ∙ ap (λ (f : Command-F Command). record f { disable_help_subcommand = true }) (c.disable_help_flag.ensures
    ∙ ap (λ (f : Command-F Command). record f { disable_help_flag = true }) c.no_binary_name.ensures))
    ∙ ap told name
