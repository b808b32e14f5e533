-- The external calls of a file, by their rows, in the order of their first use in the text.
use Rattle.std.specs.Prelude.{ℕ, Bool, false, cond, ◌||◌, ◌&&◌, ◌==◌, List, [], ◌∷◌, ◌++◌, map, bytes_eq}
use Rattle.std.specs.List.{flat_map, position_or_len}
use Rattle.bs_words.specs.External.{External}
use Rattle.bs_words.specs.declared.types.Ty.TheVariants.{Val}
use Rattle.cmm_meaning.specs.Evaluation.{row_of_call}
use Rattle.cmm_tree.specs.Tree.{Expression, Integer, Pointer, Symbol, Name, Nothing, Float, Let, Assign, Operator, Load, Store, Alloc, App, Extcall, Checkbound, Raise, Seq, If, Switch, Catch, Exit, Try, Expressions, NoMore, More, Bindings, NoBinding, Bind, Cases, NoCase, Choose, Handlers, NoHandler, Handle, FunctionTree, FileTree, functions}
use Rattle.cmm_types.specs.Types.{Scoped, with_parameters, with_bindings}
use Rattle.image_form.specs.Image.{comp_byte, ret_byte}

-- the rows of all external calls in an expression, in the order of the text, with these names in scope
abbrev mutual
  pub calls_in : List Scoped → Expression → List External
  calls_in scope (Integer at word) = []
  calls_in scope (Pointer at word) = []
  calls_in scope (Symbol at name) = []
  calls_in scope (Name at name) = []
  calls_in scope (Nothing at) = []
  calls_in scope (Float at word_at operands) = calls_in_row scope operands
  calls_in scope (Let at bindings body) =
      calls_in_bindings scope bindings ++ calls_in (with_bindings scope bindings) body
  calls_in scope (Assign at name_at name value) = calls_in scope value
  calls_in scope (Operator at op left right) = calls_in scope left ++ calls_in scope right
  calls_in scope (Load at chunk address) = calls_in scope address
  calls_in scope (Store at chunk address value) = calls_in scope address ++ calls_in scope value
  calls_in scope (Alloc at header_at header operands) = calls_in_row scope operands
  calls_in scope (App at callee arguments result result_at) =
      calls_in scope callee ++ calls_in_row scope arguments
  calls_in scope (Extcall at frame name arguments result result_at) =
      row_of_call scope name arguments result ∷ calls_in_row scope arguments
  calls_in scope (Checkbound at bound index) = calls_in scope bound ++ calls_in scope index
  calls_in scope (Raise at value) = calls_in scope value
  calls_in scope (Seq at elements) = calls_in_row scope elements
  calls_in scope (If at condition on_true on_false) =
      calls_in scope condition ++ (calls_in scope on_true ++ calls_in scope on_false)
  calls_in scope (Switch at size_at size selector cases) =
      calls_in scope selector ++ calls_in_cases scope cases
  calls_in scope (Catch at body handlers) = calls_in scope body ++ calls_in_handlers scope handlers
  calls_in scope (Exit at label_at label arguments) = calls_in_row scope arguments
  calls_in scope (Try at body name_at name handler) =
      calls_in scope body
      ++ calls_in (record { name = name; type = Val; mutable = false } ∷ scope) handler

  pub calls_in_row : List Scoped → Expressions → List External
  calls_in_row scope NoMore = []
  calls_in_row scope (More e rest) = calls_in scope e ++ calls_in_row scope rest

  pub calls_in_bindings : List Scoped → Bindings → List External
  calls_in_bindings scope NoBinding = []
  calls_in_bindings scope (Bind at name declared value rest) =
      calls_in scope value
      ++ calls_in_bindings (with_bindings scope (Bind at name declared value NoBinding)) rest

  pub calls_in_cases : List Scoped → Cases → List External
  calls_in_cases scope NoCase = []
  calls_in_cases scope (Choose indexes body rest) = calls_in scope body ++ calls_in_cases scope rest

  pub calls_in_handlers : List Scoped → Handlers → List External
  calls_in_handlers scope NoHandler = []
  calls_in_handlers scope (Handle at label params body rest) =
      calls_in (with_parameters params scope) body ++ calls_in_handlers scope rest

abbrev pub calls_in_function : FunctionTree → List External
calls_in_function f = calls_in (with_parameters f.params []) f.body

-- all external calls of a file, in the order of the text
abbrev pub all_calls : FileTree → List External
all_calls file = flat_map calls_in_function (functions file)

-- ---- rows of an image

-- two calls are of one row where their names, their arguments and their results are the same
abbrev pub same_row : External → External → Bool
same_row a b =
    bytes_eq a.name b.name
    && bytes_eq (map comp_byte a.params) (map comp_byte b.params)
    && (ret_byte a.result == ret_byte b.result)

abbrev pub is_among_externals : List External → External → Bool
is_among_externals [] e = false
is_among_externals (x ∷ xs) e = same_row x e || is_among_externals xs e

-- the first of each row, after rows that are there
abbrev pub firsts_behind : List External → List External → List External
firsts_behind before [] = before
firsts_behind before (e ∷ es) =
    firsts_behind (cond (is_among_externals before e) before (before ++ e ∷ [])) es

-- the external calls of a file, each row once, in the order of its first use
abbrev pub externals : FileTree → List External
externals file = firsts_behind [] (all_calls file)

-- the number of a row
abbrev pub external_number : List External → External → ℕ
external_number rows e = position_or_len (λ x. same_row x e) rows
