-- The functions of a file, passed one by one until one has the name.
use Rattle.std.proofs.Common.{◌≡◌, ◌<◌, ℕ, suc, cond, List, [], ◌∷◌, ◌++◌, length, Some, None, refl, sym, ap, ◌∙◌, arith, append_assoc, length-append}
use Rattle.std.specs.List.{slice_get}
use Rattle.cmm_tree.specs.Tree.{FunctionTree, ItemTree, AFunction, AData, functions_among}
use Rattle.rv_machine.proofs.Found.{same_name, other_name}
use Rattle.text_commands.specs.Arguments.{function_named}

-- So many of the functions were passed, none of which has the name; these items are left.
pub record Passed (name : List ℕ) (all : List FunctionTree) (number : ℕ) (left : List ItemTree) : Type 0 where
  pub before : List FunctionTree
  pub is : all ≡ before ++ functions_among left
  pub count : length before ≡ number
  pub same : function_named name all ≡ function_named name (functions_among left)

pub passed-none : (name : List ℕ) (left : List ItemTree) → Passed name (functions_among left) 0 left
passed-none name left = record { before = []; is = refl; count = refl; same = refl }

pub passed-data : (name : List ℕ) (all : List FunctionTree) (number : ℕ) (left rest : List ItemTree) (d : _) → left ≡ AData d ∷ rest
    → Passed name all number left → Passed name all number rest
passed-data name all number left rest d is p =
    record {
      before = p.before;
      is = p.is ∙ ap (λ l. p.before ++ functions_among l) is;
      count = p.count;
      same = p.same ∙ ap (λ l. function_named name (functions_among l)) is;
    }

pub passed-function : (name : List ℕ) (all : List FunctionTree) (number : ℕ) (left rest : List ItemTree) (f : FunctionTree) → left ≡ AFunction f ∷ rest
    → (f.name ≡ name → ⊥) → Passed name all number left → Passed name all (suc number) rest
passed-function name all number left rest f is other p =
    record {
      before = p.before ++ f ∷ [];
      is = p.is ∙ ap (λ l. p.before ++ functions_among l) is ∙ sym (append_assoc p.before (f ∷ []) (functions_among rest));
      count = omega (arith, length-append p.before (f ∷ []), p.count);
      same =
          p.same ∙ ap (λ l. function_named name (functions_among l)) is
          ∙ ap (λ b. cond b (Some f) (function_named name (functions_among rest))) (other_name f.name name other);
    }

-- the next is one of them, so its number is less than how many there are
pub passed-below : (name : List ℕ) (all : List FunctionTree) (number : ℕ) (left rest : List ItemTree) (f : FunctionTree) → left ≡ AFunction f ∷ rest
    → Passed name all number left → number < length all
passed-below name all number left rest f is p =
    let whole : length all ≡ length (p.before ++ f ∷ functions_among rest) = ap length (p.is ∙ ap (λ l. p.before ++ functions_among l) is) in
    omega (arith, whole, length-append p.before (f ∷ functions_among rest), p.count)

at_length : (before rest : List FunctionTree) (f : FunctionTree) → slice_get (before ++ f ∷ rest) (length before) ≡ Some f
at_length [] rest f = refl
at_length (b ∷ before) rest f = at_length before rest f

pub passed-found : (name : List ℕ) (all : List FunctionTree) (number : ℕ) (left rest : List ItemTree) (f : FunctionTree) → left ≡ AFunction f ∷ rest
    → Passed name all number left → slice_get all number ≡ Some f
passed-found name all number left rest f is p =
    ap (slice_get all) (sym p.count) ∙ ap (λ l. slice_get l (length p.before)) (p.is ∙ ap (λ l. p.before ++ functions_among l) is)
    ∙ at_length p.before (functions_among rest) f

pub passed-named : (name : List ℕ) (all : List FunctionTree) (number : ℕ) (left rest : List ItemTree) (f : FunctionTree) → left ≡ AFunction f ∷ rest
    → f.name ≡ name → Passed name all number left → function_named name all ≡ Some f
passed-named name all number left rest f is e p =
    p.same ∙ ap (λ l. function_named name (functions_among l)) is
    ∙ ap (λ b. cond b (Some f) (function_named name (functions_among rest))) (same_name f.name name e)

pub passed-all : (name : List ℕ) (all : List FunctionTree) (number : ℕ) (left : List ItemTree) → left ≡ []
    → Passed name all number left → function_named name all ≡ None
passed-all name all number left is p = p.same ∙ ap (λ l. function_named name (functions_among l)) is
