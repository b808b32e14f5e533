-- A call in the run of a whole file, beside the evaluation of its function alone.
use Rattle.std.proofs.Common.{◌≡◌, ℕ, suc, ◌≤◌, List, Some, map, sym, subst, ◌∙◌, arith}
use Rattle.std.specs.Prelude.{slice_index, slice_get}
use Rattle.bs_words.specs.Memory.{Memory}
use Rattle.cmm_data.specs.Placement.{data_end, value_of_symbol}
use Rattle.cmm_tree.specs.Tree.{FunctionTree, FileTree, functions, comps_of}
use Rattle.cmm_meaning.specs.Layout.{Layout}
use Rattle.cmm_meaning.specs.State.{Doing, Called, World}
use Rattle.cmm_meaning.specs.Evaluation.{Evaluation, Surroundings}
use Rattle.cmm_meaning.specs.Run.{callees}
use Rattle.cmm_meaning.specs.Alone.{alone}
use Rattle.meaning_laws.specs.Does.{Does}
use Rattle.cmm_meaning.specs.Setting.{Setting, setting_of}
use Rattle.meaning_laws.specs.Interaction.{function_does}
use Rattle.meaning_laws.specs.Links.{Linked}
use Rattle.meaning_fuel.specs.Whole.{file_surroundings}
use Rattle.meaning_laws.proofs.AgreementRuns.{nested, nested_plays, whole_plays, alone_plays}
use Rattle.meaning_laws.proofs.LinksFirst.{played_first_linked}
use Rattle.meaning_laws.proofs.LawfulForms.{running, running_lawful, function_pays}
use Rattle.meaning_laws.proofs.LinksWhole.{bound_error_fits, nested_calls_fit, whole_calls_fit}

-- a link, where the evaluation alone is another that agrees on as many units as there are
same_link : {s : Surroundings} {bound : ℕ} {one two : List Doing → ℕ → Evaluation} {w : World} {a b : Evaluation} →
    ((doings : List Doing) (own : ℕ) → own ≤ w.left → one doings own ≡ two doings own) → a ≡ b → Linked s bound one w a → Linked s bound two w b
same_link {s} {bound} {one} {two} {w} same e l =
    subst (λ (x : Evaluation). Linked s bound two w x) e
    (record {
      calls = l.calls;
      last = l.last;
      called = l.called;
      own = l.own;
      units = l.units;
      run = l.run;
      is = sym (same _ l.own (omega (arith, l.units))) ∙ l.is;
      asked = l.asked;
      taken = l.taken;
      left = l.left;
      memory = l.memory;
      need = l.need;
      ends = l.ends;
    })

-- One function of a file alone, where what its calls do is handed in.
abbrev pub function_alone : FileTree → Layout → Called → FunctionTree → Memory → List Doing → ℕ → Evaluation
function_alone file layout call tree memory doings own =
    alone (data_end file) (value_of_symbol file) (map comps_of (functions file))
    (slice_index layout.frames call.function) tree call.arguments call.below memory doings own

module _ (file : FileTree) (layout : Layout) (call : Called) (tree : FunctionTree) (is : slice_get (functions file) call.function ≡ Some tree) (w : World) where
  abbrev frame : ℕ
  frame = slice_index layout.frames call.function

  -- A call of a function of a file, where activations nest at most so deep, beside the function alone.
  pub call_linked : (depth : ℕ) →
      Linked (nested file layout depth) w.left (function_alone file layout call tree w.memory) w (callees file layout (suc depth) call w)
  call_linked depth =
      let c : Setting = setting_of (nested file layout depth) in
      let d : Does = function_does c w.left frame tree call.arguments call.below w.memory in
      same_link
      (λ doings own le. alone_plays (data_end file) (value_of_symbol file) (map comps_of (functions file)) w.left frame tree call.arguments call.below w.memory doings own le)
      (nested_plays file layout depth w.left call tree w is (omega arith))
      (played_first_linked (nested file layout depth) (nested_calls_fit file layout depth) (running c frame tree call.arguments call.below) d w
      (function_pays c w.left frame tree call.arguments call.below w.memory)
      (running_lawful c w.left (bound_error_fits file) frame tree call.arguments call.below w.memory))

  -- The same where it is not asked how deep they nest.
  pub whole_call_linked : Linked (file_surroundings file layout) w.left (function_alone file layout call tree w.memory) w (callees file layout (suc w.left) call w)
  whole_call_linked =
      let c : Setting = setting_of (file_surroundings file layout) in
      let d : Does = function_does c w.left frame tree call.arguments call.below w.memory in
      same_link
      (λ doings own le. alone_plays (data_end file) (value_of_symbol file) (map comps_of (functions file)) w.left frame tree call.arguments call.below w.memory doings own le)
      (whole_plays file layout w.left call tree w is (omega arith))
      (played_first_linked (file_surroundings file layout) (whole_calls_fit file layout) (running c frame tree call.arguments call.below) d w
      (function_pays c w.left frame tree call.arguments call.below w.memory)
      (running_lawful c w.left (bound_error_fits file) frame tree call.arguments call.below w.memory))
