-- What the test of an entry says of its function.
use Rattle.std.proofs.lemmas.Bool.{false_from_ne_true}
use Rattle.std.proofs.Common.{◌≡◌, ℕ, Bool, true, false, IsTrue, List, Option, Some, map, sym, subst}
use Rattle.bs_words.specs.declared.values.Value.TheVariants.{Word}
use Rattle.cmm_data.specs.Placement.{data_end}
use Rattle.eval_frames.specs.Annotated.{FitsFunction, FitsEntry}
use Rattle.cmm_meaning.specs.Evaluation.{fit_parameters}
use Rattle.cmm_tree.specs.Tree.{FunctionTree, FileTree, functions, comps_of}
use Rattle.std.specs.List.{slice_get}

untrue : (b : Bool) → b ≡ false → IsTrue b → ⊥
untrue true e t = cc
untrue false e t = cc

abbrev Fit : FileTree → FunctionTree → List ℕ → Bool
Fit file f args = fit_parameters (data_end file) (comps_of f) (map Word args)

pub fit-entry : (file : FileTree) (number : ℕ) (f : FunctionTree) (args : List ℕ) → slice_get (functions file) number ≡ Some f → Fit file f args ≡ true → FitsEntry file number args
fit-entry file number f args is fit = subst (λ (o : Option FunctionTree). FitsFunction (data_end file) o args) (sym is) fit

pub entry-fit : (file : FileTree) (number : ℕ) (f : FunctionTree) (args : List ℕ) → slice_get (functions file) number ≡ Some f → FitsEntry file number args → Fit file f args ≡ true
entry-fit file number f args is fit = subst (λ (o : Option FunctionTree). FitsFunction (data_end file) o args) is fit

pub no-fit : (file : FileTree) (number : ℕ) (f : FunctionTree) (args words : List ℕ) (b : Bool) → slice_get (functions file) number ≡ Some f → words ≡ args
    → b ≡ false → (FitsEntry file number words → IsTrue b) → Fit file f args ≡ false
no-fit file number f args words b is same off tells =
    false_from_ne_true (Fit file f args) (λ t. untrue b off (tells (subst (λ ws. FitsEntry file number ws) (sym same) (fit-entry file number f args is t))))

pub has-fit : (file : FileTree) (number : ℕ) (f : FunctionTree) (args words : List ℕ) → slice_get (functions file) number ≡ Some f → words ≡ args
    → FitsEntry file number words → Fit file f args ≡ true
has-fit file number f args words is same fits = entry-fit file number f args is (subst (λ ws. FitsEntry file number ws) same fits)
