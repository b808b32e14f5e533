use Rattle.std.proofs.Common.{◌∙◌, ap}
use Rattle.std.proofs.lemmas.Result.{IfOk-weaker}
use Rattle.clap.specs.Simple.{App, app_of, with_subcommand}
use Rattle.command_line.proofs.parser.with_command.Goals as goal

pub returns : goal.returns
returns c =
    IfOk-weaker c.subcommand-2.result _ _
    (λ more adds. adds.shape c.in_ok-added.ensures.local ∙ ap (λ (a : App). with_subcommand (app_of c.args.parser) a.top) c.in_ok-added.ensures.app)
    c.subcommand-2.ensures
