-- What selection and the passes after it make of an accepted file does what the text does, on words.
use Rattle.std.proofs.Common.{◌≡◌, ◌≢◌, ℕ, zero, suc, ◌≤◌, true, List, [], ◌∷◌, Some, refl, sym, ap, ◌∙◌, subst, arith}
use Rattle.std.specs.Prelude.{slice_get}
use Rattle.std.proofs.Math.Nat.{le-max_left, le-max_right}
use Rattle.std.specs.List.{Contains}
use Rattle.std.proofs.lemmas.Option.{slice_get_within, get_or_from_slice_get}
use Rattle.bs_words.specs.Memory.{Memory, heap_need}
use Rattle.bs_words.specs.declared.values.Value.{Value}
use Rattle.cmm_data.specs.Placement.{data_end}
use Rattle.cmm_front.specs.FileOf.{IsFileOf}
use Rattle.cmm_lex.proofs.Languages.{AreBytes}
use Rattle.cmm_meaning.specs.Alone.{IsProperEnd}
use Rattle.cmm_meaning.specs.Evaluation.{Evaluation, OutOfFuel, Stops, fit_parameters}
use Rattle.cmm_meaning.specs.Layout.{Layout}
use Rattle.cmm_meaning.specs.State.{Doing, World}
use Rattle.cmm_tree.specs.Measures.{nodes_in}
use Rattle.cmm_tree.specs.Tree.{FunctionTree, FileTree, functions, comps_of}
use Rattle.mach_ir.specs.Meaning as mach
use Rattle.mach_ir.specs.Runs.{RunProgress, Running, Tally, Wrong}
use Rattle.mach_ir.specs.declared.mach.Mach.{Mach}
use Rattle.lin_ir.specs.Keeps.{LinearKeeps}
use Rattle.lin_ir.specs.Meaning.{NamedAt}
use Rattle.lin_ir.specs.declared.lin.Lin.{Lin}
use Rattle.selection_rules.specs.Bounded.{BoundedDoings}
use Rattle.selection_rules.specs.Select.{selected}
use Rattle.selection_rules.specs.Selected.{MeetsEvaluation, returned, threw, running, asking, improper, left_by_exit}
use Rattle.selection_laws.proofs.Proper.{selected_bounded}
use Rattle.first_statics.proofs.Known.{accepted_keeps, accepted_proper, front_setting, front_memory, definitions, front_accepts, selectable, selectable_at, front_symbols}
use Rattle.walk_tables.specs.AddrLive.{IsLiveIn}
use Rattle.linking.specs.Keeps.{alone_in}
use Rattle.linking.specs.Program.{activation_in, setting_in}
use Rattle.linking_machine.specs.Known.{AreLowered, HoldsWords, IsGivenWords, IsSelected, SelectedSo}
use Rattle.compiled_files.specs.Stages.{most_nodes, selected_in, selected_of}

-- ---- nodes

nodes_below : (fs : List FunctionTree) (f : ℕ) (tree : FunctionTree) → slice_get fs f ≡ Some tree → nodes_in tree.body ≤ most_nodes fs
nodes_below [] f tree e = cc
nodes_below (g ∷ fs) zero tree e =
    let same : g ≡ tree = cc in
    subst (λ (t : FunctionTree). nodes_in t.body ≤ most_nodes (g ∷ fs)) same (le-max_left (nodes_in g.body) (most_nodes fs))
nodes_below (g ∷ fs) (suc f) tree e =
    let below = nodes_below fs f tree e in
    let more = le-max_right (nodes_in g.body) (most_nodes fs) in
    omega (arith, below, more)

module _ (text : List ℕ) (file : FileTree) (is : IsFileOf text file) where
  among : (f : ℕ) (tree : FunctionTree) → slice_get (functions file) f ≡ Some tree → Contains (functions file) tree
  among f tree e = (f, slice_get_within (functions file) f tree e, get_or_from_slice_get (functions file) f tree tree e)

  -- An accepted text of bytes holds words.
  pub holds : AreBytes text → HoldsWords file
  holds bytes = record {
    memory = front_memory text file bytes is;
    symbols = front_symbols text file is (setting_in file) refl;
    width = λ f tree e. (selectable_at text file is f tree e).narrow;
    code = λ f tree e. selected_bounded tree (selectable_at text file is f tree e).fits;
  }

  -- ---- selection

  moves : {u : ℕ} {e : Evaluation} {r : RunProgress mach.State} → IsProperEnd e → MeetsEvaluation u e r → r ≢ Wrong
  moves ok (returned a b) w = cc
  moves ok (threw a b) w = cc
  moves ok (running a b same) w = cc
  moves ok (asking a b) w = cc
  moves ok improper w = absurd ok
  moves ok left_by_exit w = absurd ok

  -- where the text has no units left, the run has asked for no more heap
  no_more_heap : {units : ℕ} {e : Evaluation} {r : RunProgress mach.State} → MeetsEvaluation units e r → (u : World) (s : mach.State) (t : Tally) →
      e ≡ Stops OutOfFuel u → r ≡ Running s t → heap_need s.around.memory ≤ heap_need u.memory
  no_more_heap (returned a b) u s t p q = absurd (cc)
  no_more_heap (threw a b) u s t p q = absurd (cc)
  no_more_heap (running {w = v} {s = z} a b same) u s t p q =
      let one : v ≡ u = cc in
      let two : z ≡ s = cc in
      let e : heap_need s.around.memory ≡ heap_need u.memory =
      ap (λ (z : mach.State). heap_need z.around.memory) (sym two) ∙ ap heap_need same ∙ ap (λ (v : World). heap_need v.memory) one in
      omega (arith, e)
  no_more_heap (asking a b) u s t p q = absurd (cc)
  no_more_heap improper u s t p q = absurd (cc)
  no_more_heap left_by_exit u s t p q = absurd (cc)

  module _ (layout : Layout) where
    selected_runs : (f : ℕ) (tree : FunctionTree) → slice_get (functions file) f ≡ Some tree → (arguments : List Value) →
        fit_parameters (data_end file) (comps_of tree) arguments ≡ true → (below : ℕ) (memory : Memory) (doings : List Doing) (n : ℕ) →
        IsGivenWords arguments memory → BoundedDoings doings →
        IsProperEnd (alone_in file (activation_in file layout f below) tree arguments memory doings n) →
        SelectedSo (activation_in file layout f below) (selected tree) tree arguments memory doings n
        (alone_in file (activation_in file layout f below) tree arguments memory doings n)
    selected_runs f tree e arguments fit below memory doings n given done ok =
        let c = activation_in file layout f below in
        let of_file = among f tree e in
        let it = selectable text file is tree of_file in
        let typed = (front_accepts text file is tree of_file).typed in
        let words = front_setting text file is (setting_in file) refl refl in
        let k = accepted_keeps c (definitions file) tree words.bound_error it.narrow it.fits typed (settled tree of_file) words.symbols arguments memory
        doings n given.0 given.1 done fit in
        record {
          run = k;
          proper = accepted_proper c (definitions file) tree it.fits typed (settled tree of_file) arguments memory doings k.begun k.begins k.steps
              (moves ok k.meets);
          heap = λ u s t p q. no_more_heap k.meets u s t p q;
        }
      where
        settled : (tree : FunctionTree) → Contains (functions file) tree → (b p u : ℕ) → IsLiveIn tree b p u → ⊥
        settled tree of_file b p u live = is.settled b p u (record { f = tree; of_file = of_file; live = live })

    -- Selection does what the text does.
    pub selected_so : IsSelected file layout (selected_in file) (most_nodes (functions file))
    selected_so = record {
      nodes = nodes_below (functions file);
      runs = λ f tree e arguments fit below memory doings n given done ok.
          subst (λ (m : Mach). SelectedSo (activation_in file layout f below) m tree arguments memory doings n
          (alone_in file (activation_in file layout f below) tree arguments memory doings n)) (sym (ap selected_of e))
          (selected_runs f tree e arguments fit below memory doings n given done ok);
    }

-- ---- the passes after selection

-- Lines that keep what is selected of each function are its program.
pub lowered_so : (file : FileTree) (lins : ℕ → Lin) (named : ℕ → NamedAt) →
    ((f : ℕ) (tree : FunctionTree) → slice_get (functions file) f ≡ Some tree → LinearKeeps (selected tree) (lins f) (named f)) →
    AreLowered file (selected_in file) lins named
lowered_so file lins named keep = record {
  keeps = λ f tree e. subst (λ (m : Mach). LinearKeeps m (lins f) (named f)) (sym (ap selected_of e)) (keep f tree e);
}
