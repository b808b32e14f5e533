use Rattle.std.proofs.Common.{Err, IsErrOf, ℕ, rules, lit<, refl}
use Rattle.bs_words.specs.declared.list.List.{List}
use Rattle.rv_machine.specs.declared.setup.Arg.{Arg}
use Rattle.command_line.specs.declared.command.WordsError.TheVariants.{ValueText}
use Rattle.command_line.specs.declared.form.Slot.TheVariants.{Plain, Args, Answers, Fuel, Alloc, Schedule}
use Rattle.command_line.proofs.Defaults.{args_left_out, answers_left_out, fuel_left_out}
use Rattle.command_line.proofs.read.check.Goals as goal

pub returns-in_err-items-clause-bad : goal.returns-in_err-items-clause-bad
returns-in_err-items-clause-bad c = λ e check is.
    let same : IsErrOf {T = List Arg} (Err c.in_err-items.field-0.0) ValueText = search rules in c.in_err-items.ensures.bad same check.args is.args

pub returns-in_err-items-2-clause-bad : goal.returns-in_err-items-2-clause-bad
returns-in_err-items-2-clause-bad c = λ e check is.
    let same : IsErrOf {T = List Arg} (Err c.in_err-items-2.field-0.0) ValueText = search rules in c.in_err-items-2.ensures.bad same check.answers is.answers

pub returns-in_err-steps-clause-bad : goal.returns-in_err-steps-clause-bad
returns-in_err-steps-clause-bad c = λ e check is. c.in_err-steps.ensures.bad check.fuel is.fuel

pub returns-in_err-choices-clause-bad : goal.returns-in_err-choices-clause-bad
returns-in_err-choices-clause-bad c = λ e check is. c.in_err-choices.ensures.bad check.choices is.choices

pub choices-requires : goal.choices-requires
choices-requires c = record {
  alloc_once = c.requires.form.once 4 Alloc (lit< tt);
  alloc_stands = c.requires.stands Alloc (4, lit< tt, refl);
  order_once = c.requires.form.once 5 Schedule (lit< tt);
  order_stands = c.requires.stands Schedule (5, lit< tt, refl);
}

pub entry-requires : goal.entry-requires
entry-requires c = record { once = c.requires.form.once 0 Plain (lit< tt); stands = c.requires.stands Plain (0, lit< tt, refl) }

pub items-requires : goal.items-requires
items-requires c = record { once = c.requires.form.once 1 Args (lit< tt); stands = c.requires.stands Args (1, lit< tt, refl); left_out = args_left_out }

pub items-requires-2 : goal.items-requires-2
items-requires-2 c = record { once = c.requires.form.once 2 Answers (lit< tt); stands = c.requires.stands Answers (2, lit< tt, refl); left_out = answers_left_out }

pub steps-requires : goal.steps-requires
steps-requires c = record { once = c.requires.form.once 3 Fuel (lit< tt); stands = c.requires.stands Fuel (3, lit< tt, refl); left_out = fuel_left_out }

pub returns-in_err-entry-clause-memory : goal.returns-in_err-entry-clause-memory
returns-in_err-entry-clause-memory c = λ e. record {
  fuel = (c.in_ok-steps.field-0, c.in_ok-steps.ensures.value);
  choices = (c.in_ok-choices.field-0, c.in_ok-choices.ensures.value);
}

pub returns-in_err-items-clause-memory : goal.returns-in_err-items-clause-memory
returns-in_err-items-clause-memory c = λ e. record {
  fuel = (c.in_ok-steps.field-0, c.in_ok-steps.ensures.value);
  choices = (c.in_ok-choices.field-0, c.in_ok-choices.ensures.value);
}

pub returns-in_err-items-2-clause-memory : goal.returns-in_err-items-2-clause-memory
returns-in_err-items-2-clause-memory c = λ e. record {
  fuel = (c.in_ok-steps.field-0, c.in_ok-steps.ensures.value);
  choices = (c.in_ok-choices.field-0, c.in_ok-choices.ensures.value);
}
