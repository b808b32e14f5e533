-- A tree has no more external calls than nodes.
use Rattle.std.proofs.Common.{ℕ, ◌+◌, ◌≤◌, false, List, ◌∷◌, ◌++◌, length, length-append, arith}
use Rattle.bs_words.specs.External.{External}
use Rattle.bs_words.specs.declared.types.Ty.TheVariants as ty
use Rattle.cmm_tree.specs.Measures.{total, row_total, bindings_total, cases_total, handlers_total, counts_one}
use Rattle.cmm_tree.specs.Tree.{Expression, Integer, Pointer, Symbol, Name, Nothing, Float, Let, Assign, Operator, Load, Store, Alloc, App, Extcall, Checkbound, Raise, Seq, If, Switch, Catch, Exit, Try, Expressions, NoMore, More, Bindings, NoBinding, Bind, Cases, NoCase, Choose, Handlers, NoHandler, Handle}
use Rattle.cmm_types.specs.Types.{Scoped, with_bindings, with_parameters}
use Rattle.rv_layout_rules.specs.Externals.{calls_in, calls_in_row, calls_in_bindings, calls_in_cases, calls_in_handlers}

both : (xs ys : List External) (m n : ℕ) → length xs ≤ m → length ys ≤ n → length (xs ++ ys) ≤ m + n
both xs ys m n p q = omega (arith, p, q, length-append xs ys)

more : (n m : ℕ) → n ≤ m → n ≤ 1 + m
more n m h = omega (arith, h)

mutual
  pub calls_few : (names : List Scoped) (e : Expression) → length (calls_in names e) ≤ total counts_one e
  calls_few names (Integer at word) = omega arith
  calls_few names (Pointer at word) = omega arith
  calls_few names (Symbol at name) = omega arith
  calls_few names (Name at name) = omega arith
  calls_few names (Nothing at) = omega arith
  calls_few names (Float at word_at operands) = more _ _ (row_few names operands)
  calls_few names (Let at bindings body) =
      more _ _ (both (calls_in_bindings names bindings) (calls_in (with_bindings names bindings) body) _ _ (bindings_few names bindings) (calls_few (with_bindings names bindings) body))
  calls_few names (Assign at name_at name value) = more _ _ (calls_few names value)
  calls_few names (Operator at op a b) = more _ _ (both (calls_in names a) (calls_in names b) _ _ (calls_few names a) (calls_few names b))
  calls_few names (Load at chunk address) = more _ _ (calls_few names address)
  calls_few names (Store at chunk a b) = more _ _ (both (calls_in names a) (calls_in names b) _ _ (calls_few names a) (calls_few names b))
  calls_few names (Alloc at header_at header operands) = more _ _ (row_few names operands)
  calls_few names (App at callee arguments result result_at) =
      more _ _ (both (calls_in names callee) (calls_in_row names arguments) _ _ (calls_few names callee) (row_few names arguments))
  calls_few names (Extcall at frame name arguments result result_at) = let few = row_few names arguments in omega (arith, few)
  calls_few names (Checkbound at a b) = more _ _ (both (calls_in names a) (calls_in names b) _ _ (calls_few names a) (calls_few names b))
  calls_few names (Raise at value) = more _ _ (calls_few names value)
  calls_few names (Seq at elements) = more _ _ (row_few names elements)
  calls_few names (If at condition on_true on_false) =
      more _ _ (both (calls_in names condition) (calls_in names on_true ++ calls_in names on_false) _ _ (calls_few names condition)
      (both (calls_in names on_true) (calls_in names on_false) _ _ (calls_few names on_true) (calls_few names on_false)))
  calls_few names (Switch at size_at size selector cases) =
      more _ _ (both (calls_in names selector) (calls_in_cases names cases) _ _ (calls_few names selector) (cases_few names cases))
  calls_few names (Catch at body handlers) = more _ _ (both (calls_in names body) (calls_in_handlers names handlers) _ _ (calls_few names body) (handlers_few names handlers))
  calls_few names (Exit at label_at label arguments) = more _ _ (row_few names arguments)
  calls_few names (Try at body name_at name handler) =
      let inner : List Scoped = record { name = name; type = ty.Val; mutable = false } ∷ names in
      more _ _ (both (calls_in names body) (calls_in inner handler) _ _ (calls_few names body) (calls_few inner handler))

  row_few : (names : List Scoped) (es : Expressions) → length (calls_in_row names es) ≤ row_total counts_one es
  row_few names NoMore = omega arith
  row_few names (More e rest) = both (calls_in names e) (calls_in_row names rest) _ _ (calls_few names e) (row_few names rest)

  bindings_few : (names : List Scoped) (bs : Bindings) → length (calls_in_bindings names bs) ≤ bindings_total counts_one bs
  bindings_few names NoBinding = omega arith
  bindings_few names (Bind at name declared value rest) =
      let inner = with_bindings names (Bind at name declared value NoBinding) in
      both (calls_in names value) (calls_in_bindings inner rest) _ _ (calls_few names value) (bindings_few inner rest)

  cases_few : (names : List Scoped) (cs : Cases) → length (calls_in_cases names cs) ≤ cases_total counts_one cs
  cases_few names NoCase = omega arith
  cases_few names (Choose indexes body rest) = both (calls_in names body) (calls_in_cases names rest) _ _ (calls_few names body) (cases_few names rest)

  handlers_few : (names : List Scoped) (hs : Handlers) → length (calls_in_handlers names hs) ≤ handlers_total counts_one hs
  handlers_few names NoHandler = omega arith
  handlers_few names (Handle at label params body rest) =
      both (calls_in (with_parameters params names) body) (calls_in_handlers names rest) _ _ (calls_few (with_parameters params names) body) (handlers_few names rest)
