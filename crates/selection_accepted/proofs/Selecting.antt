-- Each function of a file that the front accepts can be selected.
use Rattle.std.proofs.Common.{◌≡◌, ℕ, List, [], ◌∷◌, Option, Some, Ok, subst, arith, ◌⊎◌, inl, inr}
use Rattle.std.specs.Prelude.{Contains, slice_get}
use Rattle.std.proofs.lemmas.Option.{slice_get_within, get_or_from_slice_get}
use Rattle.std.proofs.lemmas.List.Elements.{All-contains}
use Rattle.bs_fault.specs.declared.fault.Fault.{Fault}
use Rattle.bs_fault.specs.Reported.{Faults, Among, here, first, second, Faultless}
use Rattle.cmm_tree.specs.Symbols.{DefinedSymbol, definition_of}
use Rattle.cmm_tree.specs.Tree.{FunctionTree, ItemTree, AFunction, AData, FileTree, functions, functions_among}
use Rattle.cmm_limits.specs.Limits as limits
use Rattle.cmm_types.specs.Faults.{TypeFault}
use Rattle.cmm_types.specs.Gathered.{function_faults, items_faults, first_symbols}
use Rattle.cmm_types.proofs.Among as gathered
use Rattle.cmm_types.proofs.Containing.{contains_none, contains_cases}
use Rattle.cmm_types.proofs.Exact.{from}
use Rattle.cmm_grammar.specs.Covered.{IsCovered}
use Rattle.cmm_reader.specs.Text as said
use Rattle.cmm_reader.specs.Text.{ReadsAs}
use Rattle.cmm_reader.proofs.Measured.{read_measured}
use Rattle.cmm_front.specs.FileOf.{IsFileOf}
use Rattle.selection_promise.specs.Known.{Accepted, HaveCases}
use Rattle.selection_promise.proofs.Known.{left, right, accepted_fits, few_numbers}
use Rattle.selection_promise.proofs.Promised.{few_tokens}
use Rattle.selection_accepted.specs.Selectable.{Selectable}
use Rattle.selection_accepted.proofs.HaveCases.{items_have_cases}

-- ---- types and symbols

gathered_among : {told : Fault} {x : Faults} → Among told x → gathered.Among told x
gathered_among here = gathered.here
gathered_among (first a b m) = gathered.first (gathered_among m)
gathered_among (second a b m) = gathered.second (gathered_among m)

items_faultless : (d : List ℕ → Option DefinedSymbol) (items : List ItemTree) → Faultless (items_faults d items) → (f : FunctionTree) → Contains (functions_among items) f → Faultless (function_faults d f)
items_faultless d [] none f c = absurd (contains_none f c)
items_faultless d (AFunction g ∷ items) none f c = by (contains_cases g (functions_among items) f c) (λ c. items_faultless d items (right none) f c)
  where
    by : (g ≡ f) ⊎ Contains (functions_among items) f → (Contains (functions_among items) f → Faultless (function_faults d f)) → Faultless (function_faults d f)
    by (inl same) others = subst (λ (g : FunctionTree). Faultless (function_faults d g)) same (left none)
    by (inr there) others = others there
items_faultless d (AData l ∷ items) none f c = items_faultless d items (right none) f c

abbrev pub definitions : FileTree → List ℕ → Option DefinedSymbol
definitions file = definition_of (first_symbols file)

typed_faultless : (file : FileTree) → ((told : Fault) → ¬ TypeFault file told) → Faultless (items_faults (definitions file) file.items)
typed_faultless file none told m = none told (from file told (gathered.second (gathered_among m)))

-- ---- limits

limits_faultless : (items : List ItemTree) → Faultless (limits.items_limit_faults items) → (f : FunctionTree) → Contains (functions_among items) f → Faultless (limits.function_limit_faults f)
limits_faultless [] none f c = absurd (contains_none f c)
limits_faultless (AFunction g ∷ items) none f c = by (contains_cases g (functions_among items) f c) (λ c. limits_faultless items (right none) f c)
  where
    by : (g ≡ f) ⊎ Contains (functions_among items) f → (Contains (functions_among items) f → Faultless (limits.function_limit_faults f)) → Faultless (limits.function_limit_faults f)
    by (inl same) others = subst (λ (g : FunctionTree). Faultless (limits.function_limit_faults g)) same (left none)
    by (inr there) others = others there
limits_faultless (AData l ∷ items) none f c = limits_faultless items (right none) f c

-- ---- what reading gives

record Read (file : FileTree) : Type 0 where
  limits_kept : Faultless (limits.items_limit_faults file.items)
  have_cases : (f : FunctionTree) → Contains (functions file) f → HaveCases f.body

read_file : (text : List ℕ) (file : FileTree) → ReadsAs text (Ok file) → Read file
read_file text _ (said.file tokens items short cut are faultless) = record { limits_kept = left faultless; have_cases = λ f c. items_have_cases _ items tokens are f c }

-- A function of a file that the front accepts is accepted.
pub front_accepts : (text : List ℕ) (file : FileTree) → IsFileOf text file → (f : FunctionTree) → Contains (functions file) f → Accepted (definitions file) f
front_accepts text file is f c =
    let r = read_file text file is.read in
    let m = read_measured text file is.read in
    let covered : IsCovered f = All-contains IsCovered (functions file) f m.functions_covered c in
    record {
      limits_kept = limits_faultless file.items r.limits_kept f c;
      typed = items_faultless (definitions file) file.items (typed_faultless file is.typed) f c;
      integers_fit = covered.integers_fit;
      have_cases = r.have_cases f c;
    }

-- It can be selected.
pub selectable : (text : List ℕ) (file : FileTree) → IsFileOf text file → (f : FunctionTree) → Contains (functions file) f → Selectable f
selectable text file is f c =
    let a = front_accepts text file is f c in
    let m = read_measured text file is.read in
    let covered : IsCovered f = All-contains IsCovered (functions file) f m.functions_covered c in
    let tokens = few_tokens f a.limits_kept in
    let nodes = covered.nodes_covered in
    let values = covered.tokens_cover in
    let numbers = few_numbers f.body in
    record { fits = accepted_fits (definitions file) f a; narrow = omega (arith, tokens, nodes, values, numbers) }

-- the same of the function with a number
pub selectable_at : (text : List ℕ) (file : FileTree) → IsFileOf text file → (k : ℕ) (f : FunctionTree) → slice_get (functions file) k ≡ Some f → Selectable f
selectable_at text file is k f e =
    selectable text file is f (k, slice_get_within (functions file) k f e, get_or_from_slice_get (functions file) k f f e)
