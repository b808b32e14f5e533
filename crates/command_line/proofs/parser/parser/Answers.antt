use Rattle.std.proofs.Common.{◌∙◌, ap}
use Rattle.std.proofs.lemmas.Result.{IfOk-weaker}
use Rattle.clap.specs.Simple.{App, with_subcommand}
use Rattle.command_line.specs.declared.form.CommandWord.TheVariants as word
use Rattle.command_line.specs.Program.{command_shape}
use Rattle.command_line.proofs.parser.parser.Goals as goal

pub returns : goal.returns
returns c =
    let one = c.in_ok-one.ensures ∙ ap (λ (a : App). with_subcommand a (command_shape word.Compile)) c.no_commands-none.ensures in
    let two = c.in_ok-two.ensures ∙ ap (λ (a : App). with_subcommand a (command_shape word.Run)) one in
    let three = c.in_ok-three.ensures ∙ ap (λ (a : App). with_subcommand a (command_shape word.Check)) two in
    let four = c.in_ok-four.ensures ∙ ap (λ (a : App). with_subcommand a (command_shape word.List)) three in
    IfOk-weaker c.with_command-5.result _ _ (λ all e. e ∙ ap (λ (a : App). with_subcommand a (command_shape word.Soak)) four) c.with_command-5.ensures
