use Rattle.std.proofs.Common.{List, Err, IsErrOf, ℕ, rules, lit<, refl}
use Rattle.command_line.specs.declared.command.RunWords.{RunWords}
use Rattle.command_line.specs.declared.command.CheckWords.{CheckWords}
use Rattle.stages.specs.declared.stage.Stage.{Stage}
use Rattle.command_line.specs.declared.command.WordsError.TheVariants.{OutOfMemory, ValueText}
use Rattle.command_line.specs.declared.form.CommandWord.TheVariants as word
use Rattle.command_line.specs.declared.form.Slot.TheVariants.{Plain, Jobs, Alloc, Schedule}
use Rattle.command_line.specs.View.{texts, run_view, check_view}
use Rattle.command_line.specs.Command.{compile, run, check, list}
use Rattle.command_line.proofs.Unique.{means_at, memory_at, nothing_at, form_at, stands_at, no_compile, no_compile_choices, no_run, no_check, no_list, no_list_choices}
use Rattle.clap.specs.Matches.{found_of, first_value}
use Rattle.clap.specs.declared.parser.matches.Found.{Found}
use Rattle.command_line.specs.Program.{HasText, id_of}
use Rattle.command_line.specs.declared.form.Slot.{Slot}
use Rattle.command_line.proofs.read.meant.Goals as goal

abbrev Has : List (List ℕ) → Found → Slot → Type 0
Has others found slot = HasText others slot (first_value found (id_of slot))

pub jobs-requires : goal.jobs-requires
jobs-requires c = record {
  once = (form_at (texts c.args.others.now) c.args.command word.Compile c.in-Compile.is c.requires.form).once 0 Jobs (lit< tt);
  stands = stands_at (Has (texts c.args.others.now) (found_of c.args.given.now)) c.args.command word.Compile c.in-Compile.is c.requires.stands Jobs (0, lit< tt, refl);
}

pub choices-requires : goal.choices-requires
choices-requires c = record {
  alloc_once = (form_at (texts c.args.others.now) c.args.command word.Compile c.in-Compile.is c.requires.form).once 1 Alloc (lit< tt);
  alloc_stands = stands_at (Has (texts c.args.others.now) (found_of c.args.given.now)) c.args.command word.Compile c.in-Compile.is c.requires.stands Alloc (1, lit< tt, refl);
  order_once = (form_at (texts c.args.others.now) c.args.command word.Compile c.in-Compile.is c.requires.form).once 2 Schedule (lit< tt);
  order_stands = stands_at (Has (texts c.args.others.now) (found_of c.args.given.now)) c.args.command word.Compile c.in-Compile.is c.requires.stands Schedule (2, lit< tt, refl);
}

pub choices-requires-in-List : goal.choices-requires-in-List
choices-requires-in-List c = record {
  alloc_once = (form_at (texts c.args.others.now) c.args.command word.List c.in-List.is c.requires.form).once 1 Alloc (lit< tt);
  alloc_stands = stands_at (Has (texts c.args.others.now) (found_of c.args.given.now)) c.args.command word.List c.in-List.is c.requires.stands Alloc (1, lit< tt, refl);
  order_once = (form_at (texts c.args.others.now) c.args.command word.List c.in-List.is c.requires.form).once 2 Schedule (lit< tt);
  order_stands = stands_at (Has (texts c.args.others.now) (found_of c.args.given.now)) c.args.command word.List c.in-List.is c.requires.stands Schedule (2, lit< tt, refl);
}

pub stage-requires : goal.stage-requires
stage-requires c = record {
  once = (form_at (texts c.args.others.now) c.args.command word.List c.in-List.is c.requires.form).once 0 Plain (lit< tt);
  stands = stands_at (Has (texts c.args.others.now) (found_of c.args.given.now)) c.args.command word.List c.in-List.is c.requires.stands Plain (0, lit< tt, refl);
}

pub run-requires : goal.run-requires
run-requires c = record {
  form = form_at (texts c.args.others.now) c.args.command word.Run c.in-Run.is c.requires.form;
  stands = stands_at (Has (texts c.args.others.now) (found_of c.args.given.now)) c.args.command word.Run c.in-Run.is c.requires.stands;
}

pub check-requires : goal.check-requires
check-requires c = record {
  form = form_at (texts c.args.others.now) c.args.command word.Check c.in-Check.is c.requires.form;
  stands = stands_at (Has (texts c.args.others.now) (found_of c.args.given.now)) c.args.command word.Check c.in-Check.is c.requires.stands;
}

pub soak-requires : goal.soak-requires
soak-requires c = record {
  form = form_at (texts c.args.others.now) c.args.command word.Soak c.in-Soak.is c.requires.form;
  stands = stands_at (Has (texts c.args.others.now) (found_of c.args.given.now)) c.args.command word.Soak c.in-Soak.is c.requires.stands;
}

pub returns-in_err-choices-in-Compile-clause-bad : goal.returns-in_err-choices-in-Compile-clause-bad
returns-in_err-choices-in-Compile-clause-bad c = λ e.
    nothing_at (texts c.args.others.now) c.args.command word.Compile c.in-Compile.is
    (no_compile_choices (texts c.args.others.now) c.in_err-choices-in-Compile.ensures.bad)

pub returns-in_err-jobs-in-Compile-clause-bad : goal.returns-in_err-jobs-in-Compile-clause-bad
returns-in_err-jobs-in-Compile-clause-bad c = λ e.
    nothing_at (texts c.args.others.now) c.args.command word.Compile c.in-Compile.is (no_compile (texts c.args.others.now) c.in_err-jobs-in-Compile.ensures.bad)

pub returns-in_ok-jobs-in-Compile-clause-value : goal.returns-in_ok-jobs-in-Compile-clause-value
returns-in_ok-jobs-in-Compile-clause-value c =
    means_at (texts c.args.others.now) c.args.command word.Compile _ c.in-Compile.is
    (compile c.in_ok-choices-in-Compile.field-0 c.in_ok-jobs-in-Compile.field-0 c.in_ok-choices-in-Compile.ensures.value c.in_ok-jobs-in-Compile.ensures.value)

pub returns-in_err-run-in-Run-clause-bad : goal.returns-in_err-run-in-Run-clause-bad
returns-in_err-run-in-Run-clause-bad c = λ e.
    let same : IsErrOf {T = RunWords} (Err c.in_err-run-in-Run.field-0.0) ValueText = search rules in
    nothing_at (texts c.args.others.now) c.args.command word.Run c.in-Run.is (no_run (texts c.args.others.now) (c.in_err-run-in-Run.ensures.bad same))

pub returns-in_ok-run-in-Run-clause-value : goal.returns-in_ok-run-in-Run-clause-value
returns-in_ok-run-in-Run-clause-value c =
    means_at (texts c.args.others.now) c.args.command word.Run _ c.in-Run.is (run (run_view c.in_ok-run-in-Run.field-0) c.in_ok-run-in-Run.ensures.value)

pub returns-in_err-check-in-Check-clause-bad : goal.returns-in_err-check-in-Check-clause-bad
returns-in_err-check-in-Check-clause-bad c = λ e.
    let same : IsErrOf {T = CheckWords} (Err c.in_err-check-in-Check.field-0.0) ValueText = search rules in
    nothing_at (texts c.args.others.now) c.args.command word.Check c.in-Check.is (no_check (texts c.args.others.now) (c.in_err-check-in-Check.ensures.bad same))

pub returns-in_ok-check-in-Check-clause-value : goal.returns-in_ok-check-in-Check-clause-value
returns-in_ok-check-in-Check-clause-value c =
    means_at (texts c.args.others.now) c.args.command word.Check _ c.in-Check.is (check (check_view c.in_ok-check-in-Check.field-0) c.in_ok-check-in-Check.ensures.value)

pub returns-in_err-choices-in-List-clause-bad : goal.returns-in_err-choices-in-List-clause-bad
returns-in_err-choices-in-List-clause-bad c = λ e.
    nothing_at (texts c.args.others.now) c.args.command word.List c.in-List.is
    (no_list_choices (texts c.args.others.now) c.in_err-choices-in-List.ensures.bad)

pub returns-in_err-stage-in-List-clause-bad : goal.returns-in_err-stage-in-List-clause-bad
returns-in_err-stage-in-List-clause-bad c = λ e.
    nothing_at (texts c.args.others.now) c.args.command word.List c.in-List.is (no_list (texts c.args.others.now) c.in_err-stage-in-List.ensures.bad)

pub returns-in_ok-stage-in-List-clause-value : goal.returns-in_ok-stage-in-List-clause-value
returns-in_ok-stage-in-List-clause-value c =
    means_at (texts c.args.others.now) c.args.command word.List _ c.in-List.is
    (list c.in_ok-choices-in-List.field-0 c.in_ok-stage-in-List.field-0 c.in_ok-choices-in-List.ensures.value c.in_ok-stage-in-List.ensures.value)

pub returns-in_err-run-in-Run-clause-memory : goal.returns-in_err-run-in-Run-clause-memory
returns-in_err-run-in-Run-clause-memory c = λ e.
    let same : IsErrOf {T = RunWords} (Err c.in_err-run-in-Run.field-0.0) OutOfMemory = search rules in
    memory_at (texts c.args.others.now) c.args.command word.Run c.in-Run.is (c.in_err-run-in-Run.ensures.memory same)

pub returns-in_err-check-in-Check-clause-memory : goal.returns-in_err-check-in-Check-clause-memory
returns-in_err-check-in-Check-clause-memory c = λ e.
    let same : IsErrOf {T = CheckWords} (Err c.in_err-check-in-Check.field-0.0) OutOfMemory = search rules in
    memory_at (texts c.args.others.now) c.args.command word.Check c.in-Check.is (c.in_err-check-in-Check.ensures.memory same)

pub returns-in_err-soak-in-Soak-clause-bad : goal.returns-in_err-soak-in-Soak-clause-bad
returns-in_err-soak-in-Soak-clause-bad c = λ e.
    nothing_at (texts c.args.others.now) c.args.command word.Soak c.in-Soak.is c.in_err-soak-in-Soak.ensures.bad

pub returns-in_ok-soak-in-Soak-clause-value : goal.returns-in_ok-soak-in-Soak-clause-value
returns-in_ok-soak-in-Soak-clause-value c =
    means_at (texts c.args.others.now) c.args.command word.Soak _ c.in-Soak.is c.in_ok-soak-in-Soak.ensures.value
