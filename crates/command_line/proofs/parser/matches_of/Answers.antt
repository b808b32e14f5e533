use Rattle.std.proofs.Common.{◌≡◌, ◌∙◌, true, ap, rules}
use Rattle.clap.specs.Values.{kind_of}
use Rattle.clap.specs.Takes.{takes}
use Rattle.clap.specs.declared.error.kind.ErrorKind.TheVariants.{OutOfMemory}
use Rattle.command_line.specs.Program.{program}
use Rattle.command_line.specs.View.{texts}
use Rattle.command_line.proofs.Matched.{are_taken}
use Rattle.command_line.proofs.parser.matches_of.Goals as goal

pub unreachable-requires : goal.unreachable-requires
unreachable-requires c =
    let taken : takes program (texts c.args.words.now) ≡ true = ap (takes program) c.requires.begins ∙ (are_taken c.requires.command c.requires.others c.requires.form).taken in
    let out : kind_of c.in-Err.error ≡ OutOfMemory = c.in-Err.ensures.passes (ap (λ a. takes a (texts c.args.words.now)) c.in_ok-parser.ensures ∙ taken) in
    search rules
