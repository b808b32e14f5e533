use Rattle.std.proofs.Common.{Err, IsErrOf, ℕ, rules, lit<, refl}
use Rattle.bs_words.specs.declared.list.List.{List}
use Rattle.rv_machine.specs.declared.setup.Arg.{Arg}
use Rattle.command_line.specs.declared.command.WordsError.TheVariants.{ValueText}
use Rattle.command_line.specs.declared.form.Slot.TheVariants.{Plain, Args, Answers, Steps, Stack, Heap}
use Rattle.command_line.specs.declared.form.Slot.TheVariants as slot
use Rattle.command_line.specs.declared.command.Moves.{Moves}
use Rattle.command_line.proofs.Defaults.{args_left_out, answers_left_out, steps_left_out, stack_left_out, heap_left_out}
use Rattle.command_line.proofs.read.run.Goals as goal

pub returns-in_err-items-clause-bad : goal.returns-in_err-items-clause-bad
returns-in_err-items-clause-bad c = λ e run is.
    let same : IsErrOf {T = List Arg} (Err c.in_err-items.field-0.0) ValueText = search rules in c.in_err-items.ensures.bad same run.args is.args

pub returns-in_err-items-2-clause-bad : goal.returns-in_err-items-2-clause-bad
returns-in_err-items-2-clause-bad c = λ e run is.
    let same : IsErrOf {T = List Arg} (Err c.in_err-items-2.field-0.0) ValueText = search rules in c.in_err-items-2.ensures.bad same run.answers is.answers

pub returns-in_err-steps-clause-bad : goal.returns-in_err-steps-clause-bad
returns-in_err-steps-clause-bad c = λ e run is. c.in_err-steps.ensures.bad run.steps is.steps

pub returns-in_err-size-clause-bad : goal.returns-in_err-size-clause-bad
returns-in_err-size-clause-bad c = λ e run is. c.in_err-size.ensures.bad run.stack is.stack

pub returns-in_err-size-2-clause-bad : goal.returns-in_err-size-2-clause-bad
returns-in_err-size-2-clause-bad c = λ e run is. c.in_err-size-2.ensures.bad run.heap is.heap

pub returns-in_err-moves-clause-bad : goal.returns-in_err-moves-clause-bad
returns-in_err-moves-clause-bad c = λ e run is. c.in_err-moves.ensures.bad run.moves is.moves

pub entry-requires : goal.entry-requires
entry-requires c = record { once = c.requires.form.once 0 Plain (lit< tt); stands = c.requires.stands Plain (0, lit< tt, refl) }

pub items-requires : goal.items-requires
items-requires c = record { once = c.requires.form.once 1 Args (lit< tt); stands = c.requires.stands Args (1, lit< tt, refl); left_out = args_left_out }

pub items-requires-2 : goal.items-requires-2
items-requires-2 c = record { once = c.requires.form.once 2 Answers (lit< tt); stands = c.requires.stands Answers (2, lit< tt, refl); left_out = answers_left_out }

pub steps-requires : goal.steps-requires
steps-requires c = record { once = c.requires.form.once 3 Steps (lit< tt); stands = c.requires.stands Steps (3, lit< tt, refl); left_out = steps_left_out }

pub size-requires : goal.size-requires
size-requires c = record { once = c.requires.form.once 4 Stack (lit< tt); stands = c.requires.stands Stack (4, lit< tt, refl); left_out = stack_left_out }

pub size-requires-2 : goal.size-requires-2
size-requires-2 c = record { once = c.requires.form.once 5 Heap (lit< tt); stands = c.requires.stands Heap (5, lit< tt, refl); left_out = heap_left_out }

pub moves-requires : goal.moves-requires
moves-requires c = record { once = c.requires.form.once 6 slot.Moves (lit< tt); stands = c.requires.stands slot.Moves (6, lit< tt, refl) }

pub returns-in_err-entry-clause-memory : goal.returns-in_err-entry-clause-memory
returns-in_err-entry-clause-memory c = λ e. record {
  steps = (c.in_ok-steps.field-0, c.in_ok-steps.ensures.value);
  stack = (c.in_ok-size.field-0, c.in_ok-size.ensures.value);
  heap = (c.in_ok-size-2.field-0, c.in_ok-size-2.ensures.value);
  moves = (c.in_ok-moves.field-0, c.in_ok-moves.ensures.value);
}

pub returns-in_err-items-clause-memory : goal.returns-in_err-items-clause-memory
returns-in_err-items-clause-memory c = λ e. record {
  steps = (c.in_ok-steps.field-0, c.in_ok-steps.ensures.value);
  stack = (c.in_ok-size.field-0, c.in_ok-size.ensures.value);
  heap = (c.in_ok-size-2.field-0, c.in_ok-size-2.ensures.value);
  moves = (c.in_ok-moves.field-0, c.in_ok-moves.ensures.value);
}

pub returns-in_err-items-2-clause-memory : goal.returns-in_err-items-2-clause-memory
returns-in_err-items-2-clause-memory c = λ e. record {
  steps = (c.in_ok-steps.field-0, c.in_ok-steps.ensures.value);
  stack = (c.in_ok-size.field-0, c.in_ok-size.ensures.value);
  heap = (c.in_ok-size-2.field-0, c.in_ok-size-2.ensures.value);
  moves = (c.in_ok-moves.field-0, c.in_ok-moves.ensures.value);
}
