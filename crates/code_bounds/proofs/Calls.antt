-- The external calls of a file fit their section.
use Rattle.std.proofs.Common.{◌≡◌, ℕ, ◌+◌, ◌*◌, ◌≤◌, Bool, true, false, cond, List, [], ◌∷◌, ◌++◌, length, flat_map, refl, length-append, arith}
use Rattle.bs_words.specs.External.{External}
use Rattle.bs_words.specs.declared.types.Ty.TheVariants.{Val}
use Rattle.cmm_meaning.specs.Evaluation.{comps_of_arguments}
use Rattle.cmm_tree.specs.Measures.{total, row_total, bindings_total, cases_total, handlers_total}
use Rattle.cmm_tree.specs.Tree.{Expression, Integer, Pointer, Symbol, Name, Nothing, Float, Let, Assign, Operator, Load, Store, Alloc, App, Extcall, Checkbound, Raise, Seq, If, Switch, Catch, Exit, Try, Expressions, NoMore, More, Bindings, NoBinding, Bind, Cases, NoCase, Choose, Handlers, NoHandler, Handle, ItemTree, AFunction, AData, FileTree, functions_among}
use Rattle.cmm_types.specs.Faults.{row_length}
use Rattle.cmm_types.specs.Types.{Scoped, with_parameters, with_bindings}
use Rattle.image_form.specs.Image.{ext_bytes, table_bytes, table_limit}
use Rattle.rv_layout_rules.specs.Externals.{calls_in, calls_in_row, calls_in_bindings, calls_in_cases, calls_in_handlers, calls_in_function, all_calls, is_among_externals, firsts_behind, externals}
use Rattle.text_sizes.specs.Measures.{call_bytes, items_bytes}
use Rattle.code_bounds.proofs.Bodies.{ext_length, table_length}

abbrev rows_bytes : List External → ℕ
rows_bytes [] = 0
rows_bytes (e ∷ es) = 3 + (length e.name + length e.params) + rows_bytes es

rows_append : (xs ys : List External) → rows_bytes (xs ++ ys) ≡ rows_bytes xs + rows_bytes ys
rows_append [] ys = omega arith
rows_append (x ∷ xs) ys = let others = rows_append xs ys in omega (arith, others)

arguments_same : (scope : List Scoped) (es : Expressions) → length (comps_of_arguments scope es) ≡ row_length es
arguments_same scope NoMore = refl
arguments_same scope (More e rest) = let others = arguments_same scope rest in omega (arith, others)

-- each call of an expression takes what its text has
mutual
  calls_same : (scope : List Scoped) (e : Expression) → rows_bytes (calls_in scope e) ≡ total call_bytes e
  calls_same scope (Integer at word) = refl
  calls_same scope (Pointer at word) = refl
  calls_same scope (Symbol at name) = refl
  calls_same scope (Name at name) = refl
  calls_same scope (Nothing at) = refl
  calls_same scope (Float at word_at operands) = let a = row_same scope operands in omega (arith, a)
  calls_same scope (Let at bindings body) =
      let inner = with_bindings scope bindings in
      let a = bound_same scope bindings in
      let b = calls_same inner body in
      omega (arith, a, b, rows_append (calls_in_bindings scope bindings) (calls_in inner body))
  calls_same scope (Assign at name_at name value) = let a = calls_same scope value in omega (arith, a)
  calls_same scope (Operator at op e g) =
      let a = calls_same scope e in let b = calls_same scope g in omega (arith, a, b, rows_append (calls_in scope e) (calls_in scope g))
  calls_same scope (Load at chunk address) = let a = calls_same scope address in omega (arith, a)
  calls_same scope (Store at chunk address value) =
      let a = calls_same scope address in
      let b = calls_same scope value in
      omega (arith, a, b, rows_append (calls_in scope address) (calls_in scope value))
  calls_same scope (Alloc at header_at header operands) = let a = row_same scope operands in omega (arith, a)
  calls_same scope (App at callee arguments result result_at) =
      let a = calls_same scope callee in
      let b = row_same scope arguments in
      omega (arith, a, b, rows_append (calls_in scope callee) (calls_in_row scope arguments))
  calls_same scope (Extcall at frame name arguments result result_at) =
      let a = row_same scope arguments in let b = arguments_same scope arguments in omega (arith, a, b)
  calls_same scope (Checkbound at bound index) =
      let a = calls_same scope bound in
      let b = calls_same scope index in
      omega (arith, a, b, rows_append (calls_in scope bound) (calls_in scope index))
  calls_same scope (Raise at value) = let a = calls_same scope value in omega (arith, a)
  calls_same scope (Seq at elements) = let a = row_same scope elements in omega (arith, a)
  calls_same scope (If at condition e g) =
      let a = calls_same scope condition in
      let b = calls_same scope e in
      let c = calls_same scope g in
      omega (arith, a, b, c, rows_append (calls_in scope condition) (calls_in scope e ++ calls_in scope g), rows_append (calls_in scope e) (calls_in scope g))
  calls_same scope (Switch at size_at size selector cases) =
      let a = calls_same scope selector in
      let b = cases_same scope cases in
      omega (arith, a, b, rows_append (calls_in scope selector) (calls_in_cases scope cases))
  calls_same scope (Catch at body handlers) =
      let a = calls_same scope body in
      let b = handlers_same scope handlers in
      omega (arith, a, b, rows_append (calls_in scope body) (calls_in_handlers scope handlers))
  calls_same scope (Exit at label_at label arguments) = let a = row_same scope arguments in omega (arith, a)
  calls_same scope (Try at body name_at name handler) =
      let inner : List Scoped = record { name = name; type = Val; mutable = false } ∷ scope in
      let a = calls_same scope body in
      let b = calls_same inner handler in
      omega (arith, a, b, rows_append (calls_in scope body) (calls_in inner handler))

  row_same : (scope : List Scoped) (es : Expressions) → rows_bytes (calls_in_row scope es) ≡ row_total call_bytes es
  row_same scope NoMore = refl
  row_same scope (More e rest) =
      let a = calls_same scope e in let b = row_same scope rest in omega (arith, a, b, rows_append (calls_in scope e) (calls_in_row scope rest))

  bound_same : (scope : List Scoped) (bs : Bindings) → rows_bytes (calls_in_bindings scope bs) ≡ bindings_total call_bytes bs
  bound_same scope NoBinding = refl
  bound_same scope (Bind at name declared value rest) =
      let inner = with_bindings scope (Bind at name declared value NoBinding) in
      let a = calls_same scope value in
      let b = bound_same inner rest in
      omega (arith, a, b, rows_append (calls_in scope value) (calls_in_bindings inner rest))

  cases_same : (scope : List Scoped) (cs : Cases) → rows_bytes (calls_in_cases scope cs) ≡ cases_total call_bytes cs
  cases_same scope NoCase = refl
  cases_same scope (Choose indexes body rest) =
      let a = calls_same scope body in let b = cases_same scope rest in omega (arith, a, b, rows_append (calls_in scope body) (calls_in_cases scope rest))

  handlers_same : (scope : List Scoped) (hs : Handlers) → rows_bytes (calls_in_handlers scope hs) ≡ handlers_total call_bytes hs
  handlers_same scope NoHandler = refl
  handlers_same scope (Handle at label params body rest) =
      let inner = with_parameters params scope in
      let a = calls_same inner body in
      let b = handlers_same scope rest in
      omega (arith, a, b, rows_append (calls_in inner body) (calls_in_handlers scope rest))

all_same : (items : List ItemTree) → rows_bytes (flat_map calls_in_function (functions_among items)) ≤ items_bytes items
all_same [] = omega arith
all_same (AFunction f ∷ items) =
    let here = calls_same (with_parameters f.params []) f.body in
    let others = all_same items in
    omega (arith, here, others, rows_append (calls_in_function f) (flat_map calls_in_function (functions_among items)))
all_same (AData d ∷ items) = let others = all_same items in omega (arith, others)

-- ---- rows

firsts_few : (before es : List External) → rows_bytes (firsts_behind before es) ≤ rows_bytes before + rows_bytes es
firsts_few before [] = omega arith
firsts_few before (e ∷ es) =
    let others = firsts_few (cond (is_among_externals before e) before (before ++ e ∷ [])) es in
    let here = one (is_among_externals before e) in
    omega (arith, others, here)
  where
    one : (b : Bool) → rows_bytes (cond b before (before ++ e ∷ [])) ≤ rows_bytes before + (3 + (length e.name + length e.params))
    one true = omega arith
    one false = let both = rows_append before (e ∷ []) in omega (arith, both)

table_few : (es : List External) → length (flat_map ext_bytes es) ≤ 2 * rows_bytes es
table_few [] = omega arith
table_few (e ∷ es) =
    let here = ext_length e in
    let others = table_few es in
    omega (arith, here, others, length-append (ext_bytes e) (flat_map ext_bytes es))

pub extcs_short : (file : FileTree) → items_bytes file.items ≤ 16777216 → length (table_bytes ext_bytes (externals file)) ≤ table_limit
extcs_short file short =
    let table = table_length ext_bytes (externals file) in
    let rows = table_few (externals file) in
    let firsts = firsts_few [] (all_calls file) in
    let all = all_same file.items in
    omega (arith, table, rows, firsts, all, short)
