use Rattle.std.proofs.Common.{◌≡◌, None, subst}
use Rattle.command_line.specs.Command.{RunTree}
use Rattle.image_form.specs.Tables.{tables}
use Rattle.rv_machine.specs.Loading.{func_named}
use Rattle.commands.specs.Run.{IsUnfit}
use Rattle.commands.proofs.Soaking.{no_unknown_row, no_unfit_row}
use Rattle.commands.proofs.soak.outcome_under.Goals as goal

-- the image has the function, and the words suit it

pub unreachable-requires : goal.unreachable-requires
unreachable-requires c =
    let image = tables c.args.image.now in
    let why = rw c.in-Err-UnknownEntry.field-0-is at c.in-Err-UnknownEntry.ensures.refused in
    no_unknown_row c.args.seed c.args.functions c.requires.some c.requires.few image c.requires.trial.0 c.requires.trial.1
    (subst (λ (r : RunTree). func_named r.entry image.funcs ≡ None) c.in_ok-run.ensures why.1)

pub unreachable-requires-in-Err-ArgumentUnfit : goal.unreachable-requires-in-Err-ArgumentUnfit
unreachable-requires-in-Err-ArgumentUnfit c =
    let image = tables c.args.image.now in
    let why = rw c.in-Err-ArgumentUnfit.field-0-is at c.in-Err-ArgumentUnfit.ensures.refused in
    no_unfit_row c.args.seed c.args.functions c.requires.some c.requires.few image c.requires.trial.0 c.requires.trial.1 c.args.moves
    (subst (λ (r : RunTree). IsUnfit r image) c.in_ok-run.ensures why.1)
