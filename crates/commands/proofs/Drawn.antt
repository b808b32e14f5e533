-- The last function of a text that is drawn takes the two words, in its file and in the image of that.
use Rattle.std.proofs.Common.{◌≡◌, ◌⊎◌, inl, inr, ℕ, zero, suc, ◌-◌, ◌≤◌, Bool, true, false, cond, List, [], ◌∷◌, length, map, Option, Some, None, slice_get, find, bytes_eq, refl, sym, ap, ◌∙◌, subst, arith}
use Rattle.std.specs.List.{AllByRecursion}
use Rattle.bs_words.specs.declared.types.Comp.TheVariants as comp
use Rattle.bs_words.specs.declared.values.Value.TheVariants.{Word}
use Rattle.cmm_data.specs.Placement.{data_end}
use Rattle.cmm_front.specs.FileOf.{IsFileOf}
use Rattle.cmm_front.proofs.Readings.{one_file_read}
use Rattle.cmm_gen.specs.Drawn.{DrawnFunction}
use Rattle.cmm_gen.specs.Drawing.{drawn, generator}
use Rattle.cmm_gen.proofs.ReadingDraws.{drawn-count, generated-reads}
use Rattle.cmm_gen.proofs.ReadingFile.{ReadAs}
use Rattle.cmm_gen.proofs.Symbols.{HasFunction, function_at, name_is, same_symbol}
use Rattle.cmm_gen.proofs.Trees.{IsFunctionTreeOf, function, AreItemsOf, none, more}
use Rattle.cmm_lex.proofs.Languages.{AreBytes}
use Rattle.cmm_meaning.specs.Evaluation.{fit_parameters}
use Rattle.cmm_tree.specs.Tree.{FunctionTree, ItemTree, FileTree, functions, functions_among, comps_of}
use Rattle.command_line.specs.declared.command.Moves.{Moves}
use Rattle.correctness.specs.Setting.{AreRowsOf}
use Rattle.image_form.specs.Tables.{Tables, Func}
use Rattle.rv_machine.specs.Loading.{func_named, words_of_args}
use Rattle.text_commands.specs.Arguments.{NamesNone, HasUnfit, Unfit, no_argument, misfit, no_answer}
use Rattle.commands.specs.Run.{IsUnfit, words_of_answers}
use Rattle.commands.specs.Soak.{soak_text, soak_entry, soak_args, soak_check, soak_run}

-- ---- what is found

found_step : {A : Type 0} (Q : A → Type 0) (y x : A) (rest : Option A) (b : Bool) → Q y → (rest ≡ Some x → Q x) → cond b (Some y) rest ≡ Some x → Q x
found_step Q y x rest true q go is = let e : y ≡ x = cc in subst Q e q
found_step Q y x rest false q go is = go is

-- what all have, what is found has
found_has : {A : Type 0} (Q : A → Type 0) (p : A → Bool) (xs : List A) (x : A) → AllByRecursion Q xs → find p xs ≡ Some x → Q x
found_has Q p [] x all is = absurd (cc)
found_has Q p (y ∷ ys) x all is = found_step Q y x (find p ys) (p y) all.0 (λ e. found_has Q p ys x all.1 e) is

none_here : {A : Type 0} (y : A) (rest : Option A) (b : Bool) → b ≡ true → cond b (Some y) rest ≡ None → ⊥
none_here y rest true e is = cc
none_here y rest false e is = cc

none_step : {A : Type 0} (y : A) (rest : Option A) (b : Bool) → (rest ≡ None → ⊥) → cond b (Some y) rest ≡ None → ⊥
none_step y rest true go is = cc
none_step y rest false go is = go is

-- where one passes the test, one is found
never_none : {A : Type 0} (p : A → Bool) (xs : List A) (i : ℕ) (x : A) → slice_get xs i ≡ Some x → p x ≡ true → find p xs ≡ None → ⊥
never_none p [] i x at holds missing = cc
never_none p (y ∷ ys) zero x at holds missing = let e : y ≡ x = cc in none_here y (find p ys) (p y) (subst (λ z. p z ≡ true) (sym e) holds) missing
never_none p (y ∷ ys) (suc i) x at holds missing = none_step y (find p ys) (p y) (λ e. never_none p ys i x at holds e) missing

filled : {A : Type 0} (x : A) → Some x ≡ None → ⊥
filled x e = cc

-- ---- functions that are drawn

abbrev TakesTwo : FunctionTree → Type 0
TakesTwo f = comps_of f ≡ comp.Int ∷ comp.Int ∷ []

abbrev RowTakesTwo : Func → Type 0
RowTakesTwo row = row.params ≡ comp.Int ∷ comp.Int ∷ []

two_ints : (k : ℕ) (f : DrawnFunction) (tree : FunctionTree) → IsFunctionTreeOf k f tree → TakesTwo tree
two_ints _ _ _ (function j f at name_at x_at x_comp_at y_at y_comp_at let_at p_at inner_at q_at tokens p q b pt qt bt) = refl

each_two : (k : ℕ) (fs : List DrawnFunction) (items : List ItemTree) → AreItemsOf k fs items → AllByRecursion TakesTwo (functions_among items)
each_two _ _ _ (none k) = tt
each_two _ _ _ (more k f fs tree items is rest) = (two_ints k f tree is, each_two (suc k) fs items rest)

-- two words suit such a function
suits : (count : ℕ) (file : FileTree) (f : FunctionTree) → TakesTwo f → Unfit file f (soak_check count) → ⊥
suits count file f two (no_argument e) = filled (3 ∷ 4 ∷ []) e
suits count file f two (misfit args are not) =
    let e : Some (3 ∷ 4 ∷ []) ≡ Some args = are in
    let same : args ≡ 3 ∷ 4 ∷ [] = cc in
    let fit : fit_parameters (data_end file) (comp.Int ∷ comp.Int ∷ []) (Word 3 ∷ Word 4 ∷ []) ≡ true = refl in
    let off : fit_parameters (data_end file) (comps_of f) (map Word args) ≡ false = not in
    let bad : true ≡ false =
    sym fit ∙ ap (λ c. fit_parameters (data_end file) c (Word 3 ∷ Word 4 ∷ [])) (sym two)
    ∙ ap (λ (a : List ℕ). fit_parameters (data_end file) (comps_of f) (map Word a)) (sym same) ∙ off in
    cc
suits count file f two (no_answer e) = filled {A = List ℕ} [] e

-- ---- rows of an image

-- The row of a function, of its name.
record RowAt (rows : List Func) (i : ℕ) (f : FunctionTree) : Type 0 where
  row : Func
  at : slice_get rows i ≡ Some row
  name : row.name ≡ f.name

row_at : (fs : List FunctionTree) (rows : List Func) → AreRowsOf fs rows → (i : ℕ) (f : FunctionTree) → slice_get fs i ≡ Some f → RowAt rows i f
row_at [] [] are i f at = absurd (cc)
row_at [] (row ∷ rows) are i f at = absurd are
row_at (g ∷ fs) [] are i f at = absurd are
row_at (g ∷ fs) (row ∷ rows) are zero f at =
    let e : g ≡ f = cc in
    record { row = row; at = refl; name = (are.0).name ∙ ap (λ (h : FunctionTree). h.name) e }
row_at (g ∷ fs) (row ∷ rows) are (suc i) f at =
    let r = row_at fs rows are.1 i f at in
    record { row = r.row; at = r.at; name = r.name }

rows_two : (fs : List FunctionTree) (rows : List Func) → AreRowsOf fs rows → AllByRecursion TakesTwo fs → AllByRecursion RowTakesTwo rows
rows_two [] [] are two = tt
rows_two [] (row ∷ rows) are two = absurd are
rows_two (g ∷ fs) [] are two = absurd are
rows_two (g ∷ fs) (row ∷ rows) are two = ((are.0).params ∙ two.0, rows_two fs rows are.1 two.1)

row_suits : (count : ℕ) (image : Tables) (moves : Moves) (u : IsUnfit (soak_run count moves) image) → RowTakesTwo u.entry → ⊥
row_suits count image moves u two = by u.unfit
  where
    by : (words_of_args image u.entry.params soak_args ≡ None) ⊎ (words_of_answers image [] ≡ None) → ⊥
    by (inl e) =
        let fit : words_of_args image (comp.Int ∷ comp.Int ∷ []) soak_args ≡ Some (3 ∷ 4 ∷ []) = refl in
        filled (3 ∷ 4 ∷ []) (sym fit ∙ ap (λ c. words_of_args image c soak_args) (sym two) ∙ e)
    by (inr e) = filled {A = List ℕ} [] e

module _ (seed count : ℕ) (few : count ≤ 1000) where
  read : ReadAs (drawn count (generator seed)) (soak_text seed count)
  read = generated-reads seed count (omega (arith, few))

  pub drawn_bytes : AreBytes (soak_text seed count)
  drawn_bytes = read.bytes

  module _ (some : 1 ≤ count) (file : FileTree) (is : IsFileOf (soak_text seed count) file) where
    are : AreItemsOf 0 (drawn count (generator seed)) file.items
    are =
        subst (λ (f : FileTree). AreItemsOf 0 (drawn count (generator seed)) f.items)
        (one_file_read (soak_text seed count) read.file file read.bytes read.reads is.read) read.is_drawn

    last : HasFunction file.items (count - 1) (count - 1)
    last =
        let whole : length (drawn count (generator seed)) ≡ count = drawn-count count (generator seed) in
        function_at 0 (drawn count (generator seed)) file.items are (count - 1) (count - 1) (omega (arith, whole, some)) (omega arith)

    named : bytes_eq (last.tree).name (soak_entry count) ≡ true
    named = ap (λ n. bytes_eq n (soak_entry count)) (name_is (count - 1) last.f last.tree last.is) ∙ same_symbol (count - 1) (count - 1) refl

    -- the file has the function, and the words suit it
    pub entry_named : NamesNone file (soak_entry count) → ⊥
    entry_named missing = never_none (λ (f : FunctionTree). bytes_eq f.name (soak_entry count)) (functions file) (count - 1) last.tree last.found named missing

    pub entry_suited : HasUnfit (soak_check count) file → ⊥
    entry_suited u =
        suits count file u.f
        (found_has TakesTwo (λ (f : FunctionTree). bytes_eq f.name (soak_entry count)) (functions file) u.f
        (each_two 0 (drawn count (generator seed)) file.items are) u.named.named) u.unfit

    -- ---- and so has the image
    module _ (image : Tables) (rows : AreRowsOf (functions file) image.funcs) where
      pub row_named : func_named (soak_entry count) image.funcs ≡ None → ⊥
      row_named missing =
          let row = row_at (functions file) image.funcs rows (count - 1) last.tree last.found in
          never_none (λ (r : Func). bytes_eq r.name (soak_entry count)) image.funcs (count - 1) row.row row.at
          (ap (λ n. bytes_eq n (soak_entry count)) row.name ∙ named) missing

      pub row_suited : (moves : Moves) → IsUnfit (soak_run count moves) image → ⊥
      row_suited moves u =
          row_suits count image moves u
          (found_has RowTakesTwo (λ (r : Func). bytes_eq r.name (soak_entry count)) image.funcs u.entry
          (rows_two (functions file) image.funcs rows (each_two 0 (drawn count (generator seed)) file.items are)) u.named)
