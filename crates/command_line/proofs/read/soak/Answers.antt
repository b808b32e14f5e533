use Rattle.std.proofs.Common.{lit<, refl}
use Rattle.std.proofs.lemmas.Result.{err_from_is_err_and}
use Rattle.command_line.specs.declared.form.Slot.TheVariants.{Seed, Functions}
use Rattle.command_line.specs.View.{texts}
use Rattle.command_line.specs.Command.{soak}
use Rattle.command_line.proofs.Unique.{no_seed, no_functions}
use Rattle.command_line.proofs.read.soak.Goals as goal

pub returns-in_err-seed-clause-bad : goal.returns-in_err-seed-clause-bad
returns-in_err-seed-clause-bad c =
    let p = err_from_is_err_and c.from_residual.result c.from_residual.ensures.1 in rw p.1 (no_seed (texts c.args.others.now) c.in_err-seed.ensures.bad)

pub returns-in_err-functions-clause-bad : goal.returns-in_err-functions-clause-bad
returns-in_err-functions-clause-bad c =
    let p = err_from_is_err_and c.from_residual-in_err-functions.result c.from_residual-in_err-functions.ensures.1 in
    rw p.1 (no_functions (texts c.args.others.now) c.in_err-functions.ensures.bad)

pub returns-clause-value : goal.returns-clause-value
returns-clause-value c = soak c.in_ok-seed.field-0 c.in_ok-functions.field-0 c.in_ok-seed.ensures.value c.in_ok-functions.ensures.value

pub seed-requires : goal.seed-requires
seed-requires c = record { once = c.requires.form.once 0 Seed (lit< tt); stands = c.requires.stands Seed (0, lit< tt, refl) }

pub functions-requires : goal.functions-requires
functions-requires c = record { once = c.requires.form.once 1 Functions (lit< tt); stands = c.requires.stands Functions (1, lit< tt, refl) }
