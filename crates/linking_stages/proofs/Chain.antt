-- What selection promises and what each later stage keeps gives that the Linear functions do what the text does.
use Rattle.std.proofs.Common.{ℕ, ◌≤◌, List, [], refl, arith}
use Rattle.bs_words.specs.Memory.{Memory, heap_need}
use Rattle.cmm_tree.specs.Tree.{FileTree}
use Rattle.cmm_meaning.specs.Evaluation.{Evaluation}
use Rattle.cmm_meaning.specs.Extends.{Extends}
use Rattle.cmm_meaning.specs.Layout.{Layout}
use Rattle.cmm_meaning.specs.State.{Doing, Asked}
use Rattle.bs_words.specs.declared.values.Value.{Value}
use Rattle.mach_ir.specs.Acts.{Around}
use Rattle.mach_ir.specs.Keeps.{Trails, RunsAlike, both_running, both_asking, both_ended}
use Rattle.mach_ir.specs.Runs.{Tally, RunProgress}
use Rattle.mach_ir.specs.Runs as run
use Rattle.mach_ir.specs.Meaning as mach
use Rattle.mach_ir.specs.declared.mach.Mach.{Mach}
use Rattle.lin_ir.specs.Keeps.{SuitRound}
use Rattle.lin_ir.specs.Meaning.{NamedAt}
use Rattle.lin_ir.specs.Meaning as lin
use Rattle.lin_ir.specs.declared.lin.Lin.{Lin}
use Rattle.meaning_laws.proofs.Extends.{extends_need}
use Rattle.linking.specs.Keeps.{ProgramEndsAs, gives, raises, out_of_units, asks, Same, ProgramKeeps}
use Rattle.linking_stages.specs.Stages.{mach_program, linear_program}
use Rattle.linking_stages.specs.Chain.{SelectsFile, AreLowered}

-- one that has allocated no more has no greater need
trails_need : (x y : Around) → Trails x y → heap_need y.memory ≤ heap_need x.memory
trails_need x y t =
    let bare : Memory → Memory = λ m. record m { statics = []; roots = [] } in
    let e : Extends (bare y.memory) (bare x.memory) = record { further = t.more; blocks = t.blocks; statics = refl; roots = refl } in
    extends_need e

module _ (machs : ℕ → Mach) (lins : ℕ → Lin) (named : ℕ → NamedAt) where
  abbrev Ends : Evaluation → RunProgress lin.State → Type 0
  Ends e r = ProgramEndsAs lin.State (linear_program lins named) e r

  same_run : {most n : ℕ} {e : Evaluation} {r : RunProgress mach.State} {q : RunProgress lin.State} → RunsAlike (SuitRound Trails) r q →
      Same mach.State (mach_program machs) most n e r → Same lin.State (linear_program lins named) most n e q
  same_run (both_running {s = s} {u = u} suit) same =
      record { calls = same.calls; no_more = same.no_more; enough = same.enough; stack = same.stack; end = by same.end }
    where
      by : {e : Evaluation} {t : Tally} → ProgramEndsAs mach.State (mach_program machs) e (run.Running s t) → Ends e (run.Running u t)
      by (out_of_units le) = let less = trails_need s.around u.around suit in out_of_units (omega (arith, le, less))
  same_run both_asking same =
      record { calls = same.calls; no_more = same.no_more; enough = same.enough; stack = same.stack; end = by same.end }
    where
      by : {e : Evaluation} {call : Asked} {t : Tally} → ProgramEndsAs mach.State (mach_program machs) e (run.Asking call t) → Ends e (run.Asking call t)
      by (asks q) = asks q
  same_run both_ended same =
      record { calls = same.calls; no_more = same.no_more; enough = same.enough; stack = same.stack; end = by same.end }
    where
      by : {e : Evaluation} {d : Doing} {t : Tally} → ProgramEndsAs mach.State (mach_program machs) e (run.Ended d t) → Ends e (run.Ended d t)
      by (gives q) = gives q
      by (raises q) = raises q

  -- The Linear functions do what the functions of the text do.
  pub lowered_keep : (file : FileTree) (layout : Layout) (most : ℕ) (IsGiven : List Value → Memory → Type 0) (IsDone : Doing → Type 0) →
      SelectsFile file layout machs most IsGiven IsDone → AreLowered file machs lins named →
      ProgramKeeps lin.State (linear_program lins named) file layout most IsGiven IsDone
  lowered_keep file layout most IsGiven IsDone selects lowered =
      record {
        runs = λ f tree is arguments fit below memory doings n given done proper handed.
            let r = selects.runs f tree is arguments fit below memory doings n given done proper handed in
            let k = lowered.keeps f tree is in
            let b = k.does _ arguments memory doings r.run.begun r.run.begins in
            let g = (b.follows r.run.steps r.proper).no_more in
            record { begun = b.state; begins = b.begins; steps = g.steps; same = same_run g.alike r.run.same };
      }
