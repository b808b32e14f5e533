-- Selection keeps the meaning of a function: the theorem.
use Rattle.std.proofs.Common.{◌≡◌, ℕ, suc, ◌+◌, ◌*◌, ◌^◌, ◌<◌, ◌≤◌, true, List, [], Some, refl, ap, subst, arith, le_refl, None}
use Rattle.bs_words.specs.Fits.{fits}
use Rattle.bs_words.specs.Memory.{Memory}
use Rattle.bs_words.specs.declared.types.Ty.TheVariants as ty
use Rattle.bs_words.specs.declared.values.Value.{Value}
use Rattle.cmm_tree.specs.Tree.{FunctionTree, comps_of}
use Rattle.cmm_meaning.specs.State.{Doing, World, deepened}
use Rattle.cmm_meaning.specs.Evaluation.{Evaluation, fit_parameters, bound_error}
use Rattle.cmm_meaning.specs.Alone.{lone_world, alone}
use Rattle.cmm_tree.specs.Measures.{nodes_in}
use Rattle.meaning_laws.specs.Does.{Does}
use Rattle.meaning_laws.specs.Interaction.{function_does}
use Rattle.meaning_laws.specs.Links.{lonely}
use Rattle.meaning_laws.specs.Pace.{beats, pending_calls}
use Rattle.meaning_laws.specs.Units.{world_of}
use Rattle.meaning_laws.proofs.AgreementRuns.{alone_plays}
use Rattle.meaning_laws.proofs.Beats.{alone_beats, alone_paid}
use Rattle.mach_ir.specs.Runs.{ActivationSetting, Tally, RunProgress, first_tally}
use Rattle.mach_ir.specs.Meaning.{State, mach_start}
use Rattle.mach_ir.specs.Meaning as meaning
use Rattle.mach_ir.specs.declared.mach.Mach.{Mach}
use Rattle.selection_rules.specs.Kept.{run_of_selected}
use Rattle.selection_rules.specs.Select.{first_after_colours, selected, width}
use Rattle.selection_rules.specs.Selected.{MeetsEvaluation, SelectedRun}
use Rattle.selection_rules.specs.Follow.{text_setting}
use Rattle.selection_rules.proofs.Parts.{at}
use Rattle.selection_rules.specs.Bounded.{AllBounded, BoundedMemory, BoundedCode, BoundedDoings, BoundedSymbols}
use Rattle.selection_rules.proofs.Bounds.{stays_bounded, bounded_begun}
use Rattle.selection_rules.proofs.Plays.{same_units, plays}
use Rattle.selection_rules.proofs.Selects.{all_fit, entry, put_arguments, function_follows}

-- For every list that is handed in, every memory and arguments that fit, all of words, and every number of units: some
-- run of the selected code has the same calls, need and end, and as many units as the function has beats; these are
-- bounded by the units of the tree both ways. Nothing is said where the tree is improper.
pub selection_keeps : (c : ActivationSetting) (f : FunctionTree) → fits c.setting.end ty.Val bound_error ≡ true → width f.body < 2 ^ 60 → BoundedSymbols c.setting → BoundedCode (selected f).code →
    (arguments : List Value) (memory : Memory) (doings : List Doing) (n : ℕ) → AllBounded arguments → BoundedMemory memory → BoundedDoings doings →
    fit_parameters c.setting.end (comps_of f) arguments ≡ true → SelectedRun run_of_selected c (selected f) f arguments memory doings n
selection_keeps c f still fine symbols constants arguments memory doings n words cells handed fitting =
    let m = selected f in
    let all = all_fit f.params arguments fitting in
    let put = put_arguments c f n all 0 first_after_colours (entry c f) (λ n. None) in
    let g = put.0 in
    let d : Does = function_does (text_setting c) n c.frame f arguments c.below memory in
    let w : World = deepened (c.below + c.frame) (lone_world memory doings n) in
    let begun = bounded_begun c m m.params arguments memory constants words cells put.1 in
    let run' = plays c m (stays_bounded c m symbols constants) (function_follows c f n still fine arguments memory g all put.2) begun w (first_tally c doings) (record { asked = refl; doings = refl; need = omega arith }) handed in
    let is = alone_plays c.setting.end c.setting.symbol c.setting.parameters n c.frame f arguments c.below memory doings n (le_refl n) in
    let u : ℕ = beats (lonely c.setting.end c.setting.symbol c.setting.parameters) d (lone_world memory doings n) in
    record {
      begun = at c m n [] m.code g memory;
      begins = ap (meaning.begin_mach m memory) put.1;
      steps = run'.steps;
      units = u;
      meets = subst (λ (e : Evaluation). MeetsEvaluation u e (run_of_selected c m run'.steps (at c m n [] m.code g memory) (first_tally c doings))) is (same_units (omega arith) run'.meets);
      no_more = alone_paid c.setting.end c.setting.symbol c.setting.parameters n c.frame f arguments c.below memory doings n (le_refl n);
      enough = alone_beats (nodes_in f.body) c.setting.end c.setting.symbol c.setting.parameters n c.frame f arguments c.below memory doings n (le_refl (nodes_in f.body)) (le_refl n);
    }
