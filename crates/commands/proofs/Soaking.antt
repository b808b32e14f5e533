-- How a call of `soak` ends, and what its parts cannot answer.
use Rattle.std.proofs.Common.{◌≡◌, ℕ, ◌≤◌, List, ◌++◌, ◌∷◌, [], None, codes, refl, sym, subst, ◌∙◌, arith, append_assoc}
use Rattle.bs_fault.specs.declared.fault.Fault.{Fault}
use Rattle.bs_fault.specs.declared.large.Large.{Large}
use Rattle.cmm_front.proofs.OneFile.{file_or_fault}
use Rattle.cmm_front.specs.FileOf.{HasFault}
use Rattle.cmm_gen.proofs.ProperText.{proper_text}
use Rattle.cmm_meaning.specs.Run.{cmm_run}
use Rattle.cmm_tree.specs.Tree.{functions}
use Rattle.command_line.specs.Command.{IsCommand, SoakCommand, RunTree, CheckTree}
use Rattle.command_line.specs.declared.command.Moves.{Moves}
use Rattle.correctness.specs.Setting.{layout_of, AreRowsOf}
use Rattle.image_form.specs.Tables.{Tables}
use Rattle.rv_machine.specs.Loading.{func_named, IsRoom}
use Rattle.rv_machine.specs.Run.{machine_run}
use Rattle.rv_machine.specs.Text as machine
use Rattle.text_commands.specs.Check.{HasNoEntry, IsUnfitFor, IsTooLargeToCheck}
use Rattle.text_commands.specs.Compile.{IsTooLarge}
use Rattle.text_commands.specs.Lines.{run_outcome_text}
use Rattle.text_commands.specs.Trial.{IsTrial}
use Rattle.commands.specs.Effects.{Effects, IsUntouched, Got, GotPart}
use Rattle.commands.specs.Ends.{soaked, unsoaked, no_memory, CommandEnds, written, out_fault}
use Rattle.commands.specs.Refusal.{IsSoakRefusal, ReportsSoakRefusal}
use Rattle.commands.specs.Run.{IsRunText, IsUnfit, schedule_of_moves}
use Rattle.commands.specs.Soak.{soak_text, soak_entry, soak_check, soak_run, IsSoakOf}
use Rattle.commands.specs.declared.soak.SoakRefusal.{SoakRefusal}
use Rattle.commands.specs.declared.soak.SoakRefusal.TheVariants.{TooLarge, OutOfMemory}
use Rattle.commands.proofs.Drawn.{drawn_bytes, entry_named, entry_suited, row_named, row_suited}
use Rattle.commands.proofs.Ending.{Ends-told, Ends-told-or}

module _ (words : List (List ℕ)) (e : Effects) (seed functions : ℕ) (is : IsCommand words (SoakCommand seed functions)) (unread : IsUntouched e.source) where
  pub Ends-soaked : (lines : List ℕ) → IsSoakOf seed functions lines → Got e.out lines → IsUntouched e.err → CommandEnds words e 0
  Ends-soaked lines told got kept = written lines (soaked seed functions lines is told unread) got kept

  pub Ends-soaked-cut : (lines : List ℕ) → IsSoakOf seed functions lines → GotPart e.out lines → IsUntouched e.err → CommandEnds words e 6
  Ends-soaked-cut lines told part kept = out_fault lines (soaked seed functions lines is told unread) part kept

  pub Ends-unsoaked : (r : SoakRefusal) (result : ℕ) → IsSoakRefusal seed functions r → IsUntouched e.out → ReportsSoakRefusal e.err r result → CommandEnds words e result
  Ends-unsoaked (TooLarge large) result why kept tells = Ends-told-or words e 8 result _ (unsoaked seed functions large is why unread) kept tells
  Ends-unsoaked OutOfMemory result why kept tells = Ends-told words e 9 result _ no_memory kept tells

-- ---- outcomes end with a line feed

pub trial_fed : (check : CheckTree) (text : List ℕ) (image : Tables) (outcome : List ℕ) → IsTrial check text image outcome → (words : List ℕ) × (outcome ≡ words ++ 10 ∷ [])
trial_fed check text image outcome t =
    let run = cmm_run t.is_image.file (layout_of image) t.entry t.args t.answers check.fuel in
    (machine.calls_text run.calls ++ run_outcome_text run.outcome, t.told ∙ sym (append_assoc (machine.calls_text run.calls) (run_outcome_text run.outcome) (codes "\n")))

pub run_fed : (run : RunTree) (image : Tables) (text : List ℕ) → IsRunText run image text → (words : List ℕ) × (text ≡ words ++ 10 ∷ [])
run_fed run image text t =
    let seen = machine_run image t.entry t.args t.answers run.stack run.heap (schedule_of_moves run.moves) run.steps in
    (machine.calls_text seen.calls ++ machine.end_text seen.end, t.told)

-- ---- what is drawn has no fault, and its last function takes the words

room_none : IsRoom 0
room_none = record { aligned = refl; most = omega arith }

module _ (seed count : ℕ) (some : 1 ≤ count) (few : count ≤ 1000) where
  pub no_fault : (told : Fault) → HasFault (soak_text seed count) told → ⊥
  no_fault told has =
      let p = proper_text seed count (omega (arith, few)) in
      file_or_fault (soak_text seed count) p.file told (drawn_bytes seed count few) p.of_text has

  pub no_unknown : HasNoEntry (soak_check count) (soak_text seed count) → ⊥
  no_unknown h = entry_named seed count few some h.file h.is_file h.none

  pub no_unfit : IsUnfitFor (soak_check count) (soak_text seed count) → ⊥
  no_unfit h = entry_suited seed count few some h.file h.is_file h.unfit

  module _ (image : Tables) (meant : List ℕ) (t : IsTrial (soak_check count) (soak_text seed count) image meant) where
    rows : AreRowsOf (functions t.is_image.file) image.funcs
    rows = (t.is_image.correct 0 0 room_none room_none).rows

    pub no_unknown_row : func_named (soak_entry count) image.funcs ≡ None → ⊥
    no_unknown_row none = row_named seed count few some t.is_image.file t.is_image.is_file image rows none

    pub no_unfit_row : (moves : Moves) → IsUnfit (soak_run count moves) image → ⊥
    no_unfit_row moves u = row_suited seed count few some t.is_image.file t.is_image.is_file image rows moves u

-- what holds of the words and of the text that were handed over holds of these
pub for_soak : (P : CheckTree → List ℕ → Type 0) (a b : CheckTree) (s t u : List ℕ) → a ≡ b → s ≡ t → t ≡ u → P a s → P b u
for_soak P a b s t u same read drawn p = subst (λ text. P b text) (read ∙ drawn) (subst (λ check. P check s) same p)

-- a section of the image of the text that is drawn passes its limit
pub passing : (check : CheckTree) (text : List ℕ) (large : Large) → IsTooLargeToCheck check text large → IsTooLarge check.choices text large
passing check text large h = record { file = h.file; is_file = h.is_file; image = h.image; made = h.made; passes = h.passes; not_roomy = h.not_roomy }
