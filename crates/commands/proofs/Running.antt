-- What a loaded machine, or none, says of the image and the words.
use Rattle.std.proofs.Common.{◌≡◌, ℕ, List, Option, Some, None, Ok, Err, refl, sym, ap, ◌∙◌, inl, inr}
use Rattle.bs_words.specs.Contents.{contents}
use Rattle.command_line.specs.Command.{RunTree}
use Rattle.image_form.specs.Image.{AreTables}
use Rattle.image_form.specs.Tables.{Tables, Func}
use Rattle.mover_runtime.proofs.Loaded.{loaded_run}
use Rattle.mover_runtime.specs.Outcome.{run_of}
use Rattle.mover_runtime.specs.Schedules as runtime
use Rattle.mover_runtime.specs.declared.schedule.Schedule.{Schedule}
use Rattle.rv_machine.specs.Hart.{Hart}
use Rattle.rv_machine.specs.Loading.{func_named, words_of_args, begins_with, begins_at, beginning}
use Rattle.rv_machine.specs.Run.{machine_run}
use Rattle.rv_machine.specs.Run as runs
use Rattle.rv_machine.specs.Start.{start}
use Rattle.rv_machine.specs.Text.{outcome_text}
use Rattle.rv_machine.specs.declared.setup.LoadError.{LoadError}
use Rattle.rv_machine.specs.declared.setup.LoadError.TheVariants.{UnknownEntry, ArgumentUnfit, OutOfMemory}
use Rattle.rv_machine.specs.declared.setup.Setup.{Setup}
use Rattle.commands.specs.Refusal.{IsLoadRefusal, refusal_of_load}
use Rattle.commands.specs.Run.{IsLoaded, IsRunText, IsUnfit, words_of_answers, schedule_of_moves}

-- A machine is where the run of a setup begins.
pub record Begun (image : Tables) (setup : Setup) (h : Hart) : Type 0 where
  pub entry : Func
  pub args : List ℕ
  pub named : func_named setup.entry image.funcs ≡ Some entry
  pub suit : words_of_args image entry.params (contents setup.args) ≡ Some args
  pub is_start : h ≡ start image entry args setup.stack setup.heap

module _ (image : Tables) (setup : Setup) where
  begun_with : (h : Hart) (entry : Func) (o : Option (List ℕ)) → func_named setup.entry image.funcs ≡ Some entry
      → words_of_args image entry.params (contents setup.args) ≡ o → begins_with image setup entry o ≡ Ok h → Begun image setup h
  begun_with h entry None named suit is = absurd (cc)
  begun_with h entry (Some args) named suit is =
      record { entry = entry; args = args; named = named; suit = suit; is_start = (let same : h ≡ start image entry args setup.stack setup.heap = cc in same) }

  begun_at : (h : Hart) (o : Option Func) → func_named setup.entry image.funcs ≡ o → begins_at image setup o ≡ Ok h → Begun image setup h
  begun_at h None named is = absurd (cc)
  begun_at h (Some entry) named is = begun_with h entry (words_of_args image entry.params (contents setup.args)) named refl is

  unknown_with : (entry : Func) (o : Option (List ℕ)) → begins_with image setup entry o ≡ Err UnknownEntry → ⊥
  unknown_with entry None is = cc
  unknown_with entry (Some args) is = cc

  unknown_at : (o : Option Func) → begins_at image setup o ≡ Err UnknownEntry → o ≡ None
  unknown_at None is = refl
  unknown_at (Some entry) is = absurd (unknown_with entry (words_of_args image entry.params (contents setup.args)) is)

  unfit_with : (entry : Func) (o : Option (List ℕ)) → begins_with image setup entry o ≡ Err ArgumentUnfit → o ≡ None
  unfit_with entry None is = refl
  unfit_with entry (Some args) is = absurd (cc)

  unfit_at : (run : RunTree) (o : Option Func) → run.entry ≡ setup.entry → run.args ≡ contents setup.args
      → func_named setup.entry image.funcs ≡ o → begins_at image setup o ≡ Err ArgumentUnfit → IsUnfit run image
  unfit_at run None entry_is args_are named is = absurd (cc)
  unfit_at run (Some entry) entry_is args_are named is = record {
    entry = entry;
    named = ap (λ n. func_named n image.funcs) entry_is ∙ named;
    unfit = inl (ap (words_of_args image entry.params) args_are ∙ unfit_with entry (words_of_args image entry.params (contents setup.args)) is);
  }

  pub begun : (h : Hart) → beginning image setup ≡ Ok h → Begun image setup h
  begun h is = begun_at h (func_named setup.entry image.funcs) refl is

  pub unknown : beginning image setup ≡ Err UnknownEntry → func_named setup.entry image.funcs ≡ None
  unknown is = unknown_at (func_named setup.entry image.funcs) is

  pub unfit : (run : RunTree) → run.entry ≡ setup.entry → run.args ≡ contents setup.args → beginning image setup ≡ Err ArgumentUnfit → IsUnfit run image
  unfit run entry_is args_are is = unfit_at run (func_named setup.entry image.funcs) entry_is args_are refl is

-- why a machine is not loaded is why the run is refused
pub load-refused : (image : Tables) (setup : Setup) (run : RunTree) (why : LoadError) → run.entry ≡ setup.entry → run.args ≡ contents setup.args
    → ((why ≡ UnknownEntry) → beginning image setup ≡ Err UnknownEntry) → ((why ≡ ArgumentUnfit) → beginning image setup ≡ Err ArgumentUnfit)
    → IsLoadRefusal run image (refusal_of_load why)
load-refused image setup run UnknownEntry entry_is args_are unknown_is unfit_is =
    ap (λ n. func_named n image.funcs) entry_is ∙ unknown image setup (unknown_is refl)
load-refused image setup run ArgumentUnfit entry_is args_are unknown_is unfit_is = unfit image setup run entry_is args_are (unfit_is refl)
load-refused image setup run OutOfMemory entry_is args_are unknown_is unfit_is = tt

-- answers of which one has no word
pub unfit-answers : (image : Tables) (setup : Setup) (h : Hart) (run : RunTree) → run.entry ≡ setup.entry → beginning image setup ≡ Ok h
    → words_of_answers image run.answers ≡ None → IsUnfit run image
unfit-answers image setup h run entry_is begins none =
    let b = begun image setup h begins in
    record { entry = b.entry; named = ap (λ n. func_named n image.funcs) entry_is ∙ b.named; unfit = inr none }

-- a machine that was loaded, where each answer has its word
pub loaded : (image : Tables) (setup : Setup) (h : Hart) (run : RunTree) (answers : List ℕ)
    → run.entry ≡ setup.entry → run.args ≡ contents setup.args → run.stack ≡ setup.stack → run.heap ≡ setup.heap
    → beginning image setup ≡ Ok h → words_of_answers image run.answers ≡ Some answers → IsLoaded run image h answers
loaded image setup h run answers entry_is args_are stack_is heap_is begins answered =
    let b = begun image setup h begins in
    record {
      entry = b.entry;
      args = b.args;
      named = ap (λ n. func_named n image.funcs) entry_is ∙ b.named;
      suit = ap (words_of_args image b.entry.params) args_are ∙ b.suit;
      answered = answered;
      is_start = b.is_start ∙ ap (λ (s : ℕ). start image b.entry b.args s setup.heap) (sym stack_is) ∙ ap (λ (p : ℕ). start image b.entry b.args run.stack p) (sym heap_is);
    }

-- the text that a loaded machine's run writes
pub text-of : (image : Tables) (h : Hart) (run : RunTree) (schedule : Schedule) (answers : List ℕ) → AreTables image → IsLoaded run image h answers
    → runtime.schedule_of schedule ≡ schedule_of_moves run.moves → IsRunText run image (outcome_text (run_of h answers schedule run.steps))
text-of image h run schedule answers tables l moves_are = record {
  entry = l.entry;
  args = l.args;
  answers = answers;
  named = l.named;
  suit = l.suit;
  answered = l.answered;
  told = ap outcome_text
      (ap (λ (m : Hart). run_of m answers schedule run.steps) l.is_start
      ∙ loaded_run image run.entry l.entry l.args answers run.stack run.heap schedule run.steps tables l.named
      ∙ ap (λ (s : runs.Schedule). machine_run image l.entry l.args answers run.stack run.heap s run.steps) moves_are);
}
