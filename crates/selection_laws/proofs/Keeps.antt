-- Selection keeps the meaning on the machine itself, where no addr is live after a frame point.
use Rattle.std.proofs.Common.{◌≡◌, ℕ, ◌^◌, ◌<◌, true, List, [], refl, sym, ap, ◌∙◌}
use Rattle.bs_words.specs.Fits.{fits}
use Rattle.bs_words.specs.Memory.{Memory}
use Rattle.bs_words.specs.declared.types.Ty.TheVariants as ty
use Rattle.bs_words.specs.declared.values.Value.{Value}
use Rattle.cmm_tree.specs.Tree.{FunctionTree, comps_of}
use Rattle.cmm_meaning.specs.State.{Doing}
use Rattle.cmm_meaning.specs.Evaluation.{Evaluation, fit_parameters, bound_error}
use Rattle.mach_ir.specs.Acts.{Around}
use Rattle.mach_ir.specs.Runs.{ActivationSetting, RunProgress}
use Rattle.mach_ir.specs.Meaning.{State, run_of_mach}
use Rattle.mach_ir.specs.Walks.{NoAddrLive}
use Rattle.mach_ir.specs.declared.mach.Instr.{Instr}
use Rattle.mach_ir.specs.declared.mach.Mach.{Mach}
use Rattle.selection_rules.specs.Select.{selected, width}
use Rattle.selection_rules.specs.Selected.{MeetsEvaluation, returned, threw, running, asking, improper, left_by_exit, SelectedRun}
use Rattle.selection_rules.proofs.Selection.{selection_keeps}
use Rattle.selection_rules.specs.Bounded.{AllBounded, BoundedMemory, BoundedDoings, BoundedSymbols}
use Rattle.selection_laws.specs.Fits.{FunctionFits}
use Rattle.selection_laws.proofs.Proper.{selected_bounded}
use Rattle.selection_laws.proofs.Losing.{IsBare, Steady, Twin, both_running, both_asking, both_ended, losing}
use Rattle.selection_laws.proofs.Made.{Made, a_move, a_constant, a_symbol, an_operator, a_load, a_store, an_alloc, a_call, a_tail_call, an_external, a_checkbound, a_raise, a_return, a_branch, a_choice, a_handler, an_exit, an_else, a_case, a_catch, a_with, a_try, a_leave, an_end, made_of, selected_made}

-- what jumps or pushes writes nothing
pub bare_results : {i : Instr} → Made i → IsBare i.op → i.results ≡ []
bare_results an_exit z = refl
bare_results a_try z = refl
bare_results a_move z = elim z [ ]
bare_results a_constant z = elim z [ ]
bare_results a_symbol z = elim z [ ]
bare_results an_operator z = elim z [ ]
bare_results a_load z = elim z [ ]
bare_results a_store z = elim z [ ]
bare_results an_alloc z = elim z [ ]
bare_results a_call z = elim z [ ]
bare_results a_tail_call z = elim z [ ]
bare_results an_external z = elim z [ ]
bare_results (a_checkbound y) z = elim z [ ]
bare_results a_raise z = elim z [ ]
bare_results a_return z = elim z [ ]
bare_results a_branch z = refl
bare_results a_choice z = refl
bare_results a_handler z = elim z [ ]
bare_results an_else z = refl
bare_results a_case z = refl
bare_results a_catch z = refl
bare_results a_with z = refl
bare_results a_leave z = refl
bare_results an_end z = refl

pub selected_steady : (c : ActivationSetting) (f : FunctionTree) → NoAddrLive (selected f) → Steady c (selected f)
selected_steady c f live = record { no_addr = live; bare = λ i next s z. bare_results (made_of (selected_made f) s) z }

-- the run that loses no addr, and then the run itself
pub meets_twin : {c : ActivationSetting} {m : Mach} {u : ℕ} {e : Evaluation} {r q : RunProgress State} → Twin c m r q → MeetsEvaluation u e r → MeetsEvaluation u e q
meets_twin both_ended (returned a b) = returned a b
meets_twin both_ended (threw a b) = threw a b
meets_twin (both_running g) (running a b same) = running a b (ap (λ (a : Around). a.memory) (sym g) ∙ same)
meets_twin both_asking (asking a b) = asking a b
meets_twin w improper = improper
meets_twin w left_by_exit = left_by_exit

-- For every list that is handed in, every memory and arguments that fit, all of words, and every number of units: some
-- run of the selected code has the same calls, need and end, and as many units as the function has beats; these are
-- bounded by the units of the tree both ways.
pub selection_keeps_losing : (c : ActivationSetting) (f : FunctionTree) → fits c.setting.end ty.Val bound_error ≡ true → width f.body < 2 ^ 60 → FunctionFits f → NoAddrLive (selected f) → BoundedSymbols c.setting →
    (arguments : List Value) (memory : Memory) (doings : List Doing) (n : ℕ) → AllBounded arguments → BoundedMemory memory → BoundedDoings doings →
    fit_parameters c.setting.end (comps_of f) arguments ≡ true → SelectedRun run_of_mach c (selected f) f arguments memory doings n
selection_keeps_losing c f still fine fits live symbols arguments memory doings n words cells handed fitting =
    let k = selection_keeps c f still fine symbols (selected_bounded f fits) arguments memory doings n words cells handed fitting in
    record {
      begun = k.begun;
      begins = k.begins;
      steps = k.steps;
      units = k.units;
      meets = meets_twin (losing c (selected f) (selected_steady c f live) arguments memory doings k.begun k.begins k.steps) k.meets;
      no_more = k.no_more;
      enough = k.enough;
    }
