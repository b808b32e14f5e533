-- The symbols of a text that is drawn, and its functions.
use Rattle.std.proofs.Common.{◌≡◌, ℕ, zero, suc, ◌+◌, ◌<◌, ◌^◌, true, false, cond, List, Some, length, slice_get, bytes_eq, refl, ap, ◌∙◌, subst, arith}
use Rattle.std.specs.Fmt.{decimal}
use Rattle.std.proofs.lemmas.Fmt.{decimal_injective}
use Rattle.std.proofs.lemmas.Bool.{false_from_ne_true}
use Rattle.std.proofs.lemmas.Slice.Eq.{bytes_eq-Decides}
use Rattle.bs_words.specs.Fits.{data_start}
use Rattle.bs_words.specs.declared.values.Value.TheVariants.{Word, Function}
use Rattle.cmm_tree.specs.Tree.{FunctionTree, ItemTree, FileTree, functions_among}
use Rattle.cmm_data.specs.Placement.{built_in_list, end_behind, defined_from, value_among, value_of_symbol}
use Rattle.cmm_data.proofs.Table.{value_among-more}
use Rattle.bs_words.specs.Symbol.{caml_bound_error}
use Rattle.cmm_gen.specs.Drawn.{DrawnFunction, symbol_of}
use Rattle.cmm_gen.proofs.Trees.{IsFunctionTreeOf, function, AreItemsOf, none, more}

-- ---- symbols

pub same_symbol : (m n : ℕ) → m ≡ n → bytes_eq (symbol_of m) (symbol_of n) ≡ true
same_symbol m n e = (bytes_eq-Decides (symbol_of m) (symbol_of n)).1 (ap symbol_of e)

pub other_symbol : (m n : ℕ) → m < n → n < 2 ^ 64 → bytes_eq (symbol_of m) (symbol_of n) ≡ false
other_symbol m n less small =
    false_from_ne_true (bytes_eq (symbol_of m) (symbol_of n)) (λ e.
    let same : symbol_of m ≡ symbol_of n = (bytes_eq-Decides (symbol_of m) (symbol_of n)).0 e in
    let digits : decimal m ≡ decimal n = cc in
    let equal : m ≡ n = decimal_injective m n (omega arith) small digits in
    omega arith)

-- the built-in symbol is none of them
pub not_built_in : (n : ℕ) → bytes_eq caml_bound_error (symbol_of n) ≡ false
not_built_in n = false_from_ne_true (bytes_eq caml_bound_error (symbol_of n)) (λ e. let same : caml_bound_error ≡ symbol_of n = (bytes_eq-Decides caml_bound_error (symbol_of n)).0 e in cc)

-- ---- functions

-- function j of these items, which the functions from number k on are
pub record HasFunction (items : List ItemTree) (j n : ℕ) : Type 0 where
  pub f : DrawnFunction
  pub tree : FunctionTree
  pub found : slice_get (functions_among items) j ≡ Some tree
  pub is : IsFunctionTreeOf n f tree

pub function_at : (k : ℕ) (fs : List DrawnFunction) (items : List ItemTree) → AreItemsOf k fs items → (j n : ℕ) → j < length fs → n ≡ k + j → HasFunction items j n
function_at _ _ _ (none k) j n less e = absurd (omega arith)
function_at _ _ _ (more k f fs tree items is rest) zero n less e =
    let P : ℕ → Type 0 = λ x. IsFunctionTreeOf x f tree in
    let first : k ≡ n = omega arith in
    record { f = f; tree = tree; found = refl; is = subst P first is }
function_at _ _ _ (more k f fs tree items is rest) (suc j) n less e =
    let later = function_at (suc k) fs items rest j n (omega arith) (omega arith) in
    record { f = later.f; tree = later.tree; found = later.found; is = later.is }

-- the name of a function is its symbol, and it has two parameters
pub name_is : (k : ℕ) (f : DrawnFunction) (tree : FunctionTree) → IsFunctionTreeOf k f tree → tree.name ≡ symbol_of k
name_is _ _ _ (function j f at name_at x_at x_comp_at y_at y_comp_at let_at p_at inner_at q_at tokens p q b pt qt bt) = refl

pub two_parameters : (k : ℕ) (f : DrawnFunction) (tree : FunctionTree) → IsFunctionTreeOf k f tree → length tree.params ≡ 2
two_parameters _ _ _ (function j f at name_at x_at x_comp_at y_at y_comp_at let_at p_at inner_at q_at tokens p q b pt qt bt) = refl

pub value_at : (k end : ℕ) (fs : List DrawnFunction) (items : List ItemTree) → AreItemsOf k fs items → (j n : ℕ) → j < length fs → n ≡ k + j → n < 2 ^ 64 → value_among (defined_from k end items) (symbol_of n) ≡ Some (Function n)
value_at _ end _ _ (none k) j n less e small = absurd (omega arith)
value_at _ end _ _ (more k f fs tree items is rest) zero n less e small =
    let first : k ≡ n = omega arith in
    let test : bytes_eq tree.name (symbol_of n) ≡ true = ap (λ name. bytes_eq name (symbol_of n)) (name_is k f tree is) ∙ same_symbol k n first in
    value_among-more (record { name = tree.name; value = Function k }) (defined_from (suc k) end items) (symbol_of n)
    ∙ ap (λ b. cond b (Some (Function k)) (value_among (defined_from (suc k) end items) (symbol_of n))) test ∙ ap (λ x. Some (Function x)) first
value_at _ end _ _ (more k f fs tree items is rest) (suc j) n less e small =
    let before : k < n = omega arith in
    let test : bytes_eq tree.name (symbol_of n) ≡ false = ap (λ name. bytes_eq name (symbol_of n)) (name_is k f tree is) ∙ other_symbol k n before small in
    value_among-more (record { name = tree.name; value = Function k }) (defined_from (suc k) end items) (symbol_of n)
    ∙ ap (λ b. cond b (Some (Function k)) (value_among (defined_from (suc k) end items) (symbol_of n))) test
    ∙ value_at (suc k) end fs items rest j n (omega arith) (omega arith) small

-- the symbol of a function stands for it
pub function_symbol : (fs : List DrawnFunction) (file : FileTree) → AreItemsOf 0 fs file.items → (j : ℕ) → j < length fs → j < 2 ^ 64 → value_of_symbol file (symbol_of j) ≡ Some (Function j)
function_symbol fs file are j less small =
    value_among-more (record { name = caml_bound_error; value = Word data_start }) (defined_from 0 (end_behind data_start built_in_list) file.items) (symbol_of j)
    ∙ ap (λ b. cond b (Some (Word data_start)) (value_among (defined_from 0 (end_behind data_start built_in_list) file.items) (symbol_of j))) (not_built_in j)
    ∙ value_at 0 (end_behind data_start built_in_list) fs file.items are j j less (omega arith) small
