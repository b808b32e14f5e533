-- Selection keeps the meaning of each function that the front accepts, on the machine that loses addrs at frame points.
use Rattle.std.proofs.Common.{◌≡◌, ℕ, ◌^◌, ◌<◌, true, List, Option, Some}
use Rattle.std.specs.Prelude.{◌≢◌}
use Rattle.bs_fault.specs.Reported.{Faultless}
use Rattle.bs_words.specs.Fits.{fits}
use Rattle.bs_words.specs.Memory.{Memory}
use Rattle.bs_words.specs.declared.types.Ty.TheVariants as ty
use Rattle.bs_words.specs.declared.values.Value.{Value}
use Rattle.cmm_tree.specs.Symbols.{DefinedSymbol}
use Rattle.cmm_tree.specs.Tree.{FunctionTree, comps_of}
use Rattle.cmm_types.specs.Gathered.{function_faults}
use Rattle.walk_tables.specs.AddrLive.{IsLiveIn}
use Rattle.cmm_meaning.specs.State.{Doing}
use Rattle.cmm_meaning.specs.Evaluation.{fit_parameters, bound_error}
use Rattle.mach_ir.specs.Keeps.{Proper}
use Rattle.mach_ir.specs.Runs.{ActivationSetting, Wrong, first_tally}
use Rattle.mach_ir.specs.Meaning.{State, mach_start, run_of_mach}
use Rattle.mach_ir.specs.Walks.{NoAddrLive}
use Rattle.selection_rules.specs.Select.{selected, width}
use Rattle.selection_rules.specs.Bounded.{AllBounded, BoundedMemory, BoundedDoings, BoundedSymbols}
use Rattle.selection_rules.specs.Selected.{SelectedRun}
use Rattle.selection_laws.specs.Fits.{FunctionFits}
use Rattle.selection_laws.proofs.Keeps.{selected_steady, selection_keeps_losing}
use Rattle.selection_laws.proofs.Written.{runs_proper}
use Rattle.selection_places.proofs.Whole.{colours_apart, selected_numbers, selected_origins}
use Rattle.selection_walks.proofs.NoAddress.{selected_no_addr, selected_starts}

-- Where the text has no fault of addresses, no addr is live after a frame point that a walk of its code reaches.
pub accepted_no_addr : (defined : List ℕ → Option DefinedSymbol) (f : FunctionTree) → FunctionFits f → Faultless (function_faults defined f) →
    ((b p u : ℕ) → IsLiveIn f b p u → ⊥) → NoAddrLive (selected f)
accepted_no_addr defined f fits faultless never = selected_no_addr defined f fits faultless (selected_numbers f) never

-- For every list that is handed in, every memory and arguments that fit, all of words, and every number of units: some
-- run of the selected code has the same calls, need and end, and as many units as the function has beats; these are
-- bounded by the units of the tree both ways.
pub accepted_keeps : (c : ActivationSetting) (defined : List ℕ → Option DefinedSymbol) (f : FunctionTree) → fits c.setting.end ty.Val bound_error ≡ true →
    width f.body < 2 ^ 60 → FunctionFits f → Faultless (function_faults defined f) → ((b p u : ℕ) → IsLiveIn f b p u → ⊥) →
    BoundedSymbols c.setting → (arguments : List Value) (memory : Memory) (doings : List Doing) (n : ℕ) → AllBounded arguments → BoundedMemory memory →
    BoundedDoings doings → fit_parameters c.setting.end (comps_of f) arguments ≡ true → SelectedRun run_of_mach c (selected f) f arguments memory doings n
accepted_keeps c defined f still fine fitting faultless never =
    selection_keeps_losing c f still fine fitting (accepted_no_addr defined f fitting faultless never)

-- What is live at a place of a run has been written, and registers of one origin never differ: a run that does not go
-- wrong is nowhere stuck.
pub accepted_proper : (c : ActivationSetting) (defined : List ℕ → Option DefinedSymbol) (f : FunctionTree) → FunctionFits f → Faultless (function_faults defined f) →
    ((b p u : ℕ) → IsLiveIn f b p u → ⊥) → (arguments : List Value) (memory : Memory) (doings : List Doing) (s : State) →
    mach_start c (selected f) arguments memory ≡ Some s → (n : ℕ) → run_of_mach c (selected f) n s (first_tally c doings) ≢ Wrong →
    Proper c (selected f) n s (first_tally c doings)
accepted_proper c defined f fits faultless never =
    runs_proper c (selected f)
    (record {
      steady = selected_steady c f (accepted_no_addr defined f fits faultless never);
      entry = selected_starts defined f fits faultless;
      colours = colours_apart f;
    })
    (selected_origins f)
