-- What a run of selected code is asked for, gives and raises are words, and so is what the function's own evaluation does.
use Rattle.std.proofs.Common.{◌≡◌, ℕ, zero, suc, ◌<◌, ◌^◌, true, List, [], ◌∷◌, ◌++◌, Option, Some, None, subst}
use Rattle.bs_words.specs.Fits.{fits}
use Rattle.bs_words.specs.Memory.{Memory}
use Rattle.bs_words.specs.declared.types.Ty.TheVariants as ty
use Rattle.bs_words.specs.declared.values.Value.{Value}
use Rattle.cmm_tree.specs.Tree.{FunctionTree, comps_of}
use Rattle.cmm_meaning.specs.State.{Doing, Asked}
use Rattle.cmm_meaning.specs.Alone.{alone}
use Rattle.cmm_meaning.specs.Evaluation.{Evaluation, fit_parameters, bound_error}
use Rattle.mach_ir.specs.Runs.{ActivationSetting, Step, Continues, Pays, Deepens, Waits, FinishesBy, Finishes, FinishesRaising, IsStuck, Tally, RunProgress, Running, Asking, Ended, Wrong, came_back, kept_of, handed, run_onward, first_tally, entry_around}
use Rattle.mach_ir.specs.Meaning.{State, File}
use Rattle.mach_ir.specs.Meaning as meaning
use Rattle.mach_ir.specs.declared.mach.Mach.{Mach}
use Rattle.selection_rules.specs.Bounded.{AllBounded, BoundedMemory, BoundedCode, BoundedState, BoundedDoing, BoundedDoings, BoundedAsked, BoundedStep, BoundedSymbols, AllAsked, BoundedEvaluation}
use Rattle.selection_rules.specs.Kept.{run_of_selected}
use Rattle.selection_rules.specs.Kept as kept
use Rattle.selection_rules.specs.Select.{selected, width}
use Rattle.selection_rules.proofs.Bounds.{PutBounded, no_file, a_file, nothing_held, put_all_bounded, stays_bounded}
use Rattle.selection_rules.proofs.Plays.{StaysBounded, kept_bounded}
use Rattle.selection_rules.specs.Selected.{MeetsEvaluation, returned, threw, running, asking, improper, left_by_exit}
use Rattle.selection_rules.proofs.Selection.{selection_keeps}

record BoundedTally (t : Tally) : Type 0 where
  asked : AllAsked t.asked
  doings : BoundedDoings t.doings

-- where a run is
abbrev BoundedRun : RunProgress State → Type 0
BoundedRun (Running s t) = BoundedTally t
BoundedRun (Asking call t) = BoundedAsked call × BoundedTally t
BoundedRun (Ended d t) = BoundedDoing d × BoundedTally t
BoundedRun Wrong = Unit {0}

all_asked : (calls : List Asked) (call : Asked) → AllAsked calls → BoundedAsked call → AllAsked (calls ++ call ∷ [])
all_asked [] call p q = (q, tt)
all_asked (c ∷ calls) call p q = (p.0, all_asked calls call p.1 q)

came_bounded : (call : Asked) (ds : List Doing) (t : Tally) → BoundedAsked call → BoundedDoings ds → BoundedTally t → BoundedTally (came_back call ds t)
came_bounded call ds t q z b = record { asked = all_asked t.asked call b.asked q; doings = z }

onward_bounded : (go : State → Tally → RunProgress State) → ((s : State) (t : Tally) → BoundedState s → BoundedTally t → BoundedRun (go s t)) → (x : Step State) (t : Tally) → BoundedStep x → BoundedTally t → BoundedRun (run_onward go x t)
onward_bounded go on (Continues s) t p b = on s t p b
onward_bounded go on (Pays s) t p b = on s _ p (record { asked = b.asked; doings = b.doings })
onward_bounded go on (Deepens bytes s) t p b = on s _ p (record { asked = b.asked; doings = b.doings })
onward_bounded go on (Waits call next) t p b = by t.doings b.doings (λ d t p b. onward_bounded go on (next d) t p b)
  where
    by : (ds : List Doing) → BoundedDoings ds → ((d : Doing) (t : Tally) → BoundedStep (next d) → BoundedTally t → BoundedRun (run_onward go (next d) t)) → BoundedRun (handed (λ d t. run_onward go (next d) t) call ds t)
    by [] z on = (p.0, b)
    by (d ∷ ds) z on = on d (came_back call ds t) (p.1 d z.0) (came_bounded call ds t p.0 z.1 b)
onward_bounded go on (FinishesBy call result) t p b = by t.doings b.doings
  where
    by : (ds : List Doing) → BoundedDoings ds → BoundedRun (handed (λ d t. Ended (kept_of result d) t) call ds t)
    by [] z = (p, b)
    by (d ∷ ds) z = (kept_bounded result d z.0, came_bounded call ds t p z.1 b)
onward_bounded go on (Finishes d) t p b = (p, b)
onward_bounded go on (FinishesRaising d) t p b = (p, record { asked = b.asked; doings = b.doings })
onward_bounded go on IsStuck t p b = tt

run_bounded : (c : ActivationSetting) (m : Mach) → StaysBounded c m → (n : ℕ) (s : State) (t : Tally) → BoundedState s → BoundedTally t → BoundedRun (run_of_selected c m n s t)
run_bounded c m stays zero s t p b = b
run_bounded c m stays (suc n) s t p b = onward_bounded (run_of_selected c m n) (λ s t p b. run_bounded c m stays n s t p b) (kept.lossless_step c m s) t (stays.step s p) b

meets_bounded : {u : ℕ} {e : Evaluation} {r : RunProgress State} → MeetsEvaluation u e r → BoundedRun r → BoundedEvaluation e
meets_bounded (returned a q) b = (b.0.0, (b.0.1, subst AllAsked a.asked b.1.asked))
meets_bounded (threw a q) b = (b.0.0, (b.0.1, subst AllAsked a.asked b.1.asked))
meets_bounded (running a q same) b = subst AllAsked a.asked b.asked
meets_bounded (asking a q) b = (b.0, subst AllAsked a.asked b.1.asked)
meets_bounded improper b = tt
meets_bounded left_by_exit b = tt

begun_bounded : (m : Mach) (memory : Memory) {o : Option File} (s : State) → BoundedCode m.code → BoundedMemory memory → PutBounded o → meaning.begin_mach m memory o ≡ Some s → BoundedState s
begun_bounded m memory s constants cells no_file e = absurd (let no' : None ≡ Some s = e in cc)
begun_bounded m memory s constants cells (a_file {f = f} z) e =
    let same : record { rest = m.code; file = f; around = entry_around memory } ≡ s = cc in
    subst (λ (s : State). BoundedState s) same (record { rest = constants; file = z; around = record { memory = cells; raised = tt } })

-- What a function does alone is of words where what is handed in is: so the premises of `selection_keeps` pass from a function to its callees.
pub alone_bounded : (c : ActivationSetting) (f : FunctionTree) → fits c.setting.end ty.Val bound_error ≡ true → width f.body < 2 ^ 60 → BoundedSymbols c.setting → BoundedCode (selected f).code →
    (arguments : List Value) (memory : Memory) (doings : List Doing) (n : ℕ) → AllBounded arguments → BoundedMemory memory → BoundedDoings doings →
    fit_parameters c.setting.end (comps_of f) arguments ≡ true →
    BoundedEvaluation (alone c.setting.end c.setting.symbol c.setting.parameters c.frame f arguments c.below memory doings n)
alone_bounded c f still fine symbols constants arguments memory doings n words cells handed' fitting =
    let k = selection_keeps c f still fine symbols constants arguments memory doings n words cells handed' fitting in
    meets_bounded k.meets
    (run_bounded c (selected f) (stays_bounded c (selected f) symbols constants) k.steps k.begun (first_tally c doings)
    (begun_bounded (selected f) memory k.begun constants cells (put_all_bounded c.setting.end (selected f).params arguments words nothing_held) k.begins) (record { asked = tt; doings = handed' }))
