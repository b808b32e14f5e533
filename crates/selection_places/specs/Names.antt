-- What a tree names that is outside of it: symbols, and external calls by their rows.
use Rattle.std.specs.Prelude.{◌≡◌, ◌⊎◌, ℕ, false, List, [], ◌∷◌}
use Rattle.bs_words.specs.External.{External}
use Rattle.bs_words.specs.declared.types.Ty.TheVariants as ty
use Rattle.cmm_tree.specs.Tree.{FunctionTree, Expression, Integer, Pointer, Symbol, Name, Nothing, Float, Let, Assign, Operator, Load, Store, Alloc, App, Extcall, Checkbound, Raise, Seq, If, Switch, Catch, Exit, Try, Expressions, NoMore, More, Bindings, NoBinding, Bind, Cases, NoCase, Choose, Handlers, NoHandler, Handle}
use Rattle.cmm_types.specs.Types.{Scoped, with_bindings, with_parameters}
use Rattle.cmm_meaning.specs.Evaluation.{row_of_call}

pub data Outside : Type 0 where
  ASymbol : (name : List ℕ) → Outside
  ACall : (row : External) → Outside

-- an expression names this, in the scope of these names
abbrev mutual
  pub Names : List Scoped → Expression → Outside → Type 0
  Names names (Integer at word) x = ⊥
  Names names (Pointer at word) x = ⊥
  Names names (Symbol at name) x = x ≡ ASymbol name
  Names names (Name at name) x = ⊥
  Names names (Nothing at) x = ⊥
  Names names (Float at word_at operands) x = RowNames names operands x
  Names names (Let at bindings body) x =
      BoundNames names bindings x ⊎ Names (with_bindings names bindings) body x
  Names names (Assign at name_at name value) x = Names names value x
  Names names (Operator at op left right) x = Names names left x ⊎ Names names right x
  Names names (Load at chunk address) x = Names names address x
  Names names (Store at chunk address value) x = Names names address x ⊎ Names names value x
  Names names (Alloc at header_at header operands) x = RowNames names operands x
  Names names (App at callee arguments result result_at) x =
      Names names callee x ⊎ RowNames names arguments x
  Names names (Extcall at frame name arguments result result_at) x =
      (x ≡ ACall (row_of_call names name arguments result)) ⊎ RowNames names arguments x
  Names names (Checkbound at bound index) x = Names names bound x ⊎ Names names index x
  Names names (Raise at value) x = Names names value x
  Names names (Seq at elements) x = RowNames names elements x
  Names names (If at condition on_true on_false) x =
      Names names condition x ⊎ (Names names on_true x ⊎ Names names on_false x)
  Names names (Switch at size_at size selector cases) x =
      Names names selector x ⊎ CasesName names cases x
  Names names (Catch at body handlers) x = Names names body x ⊎ HandlersName names handlers x
  Names names (Exit at label_at label arguments) x = RowNames names arguments x
  Names names (Try at body name_at name handler) x =
      Names names body x
      ⊎ Names (record { name = name; type = ty.Val; mutable = false } ∷ names) handler x

  pub RowNames : List Scoped → Expressions → Outside → Type 0
  RowNames names NoMore x = ⊥
  RowNames names (More e rest) x = Names names e x ⊎ RowNames names rest x

  pub BoundNames : List Scoped → Bindings → Outside → Type 0
  BoundNames names NoBinding x = ⊥
  BoundNames names (Bind at name declared value rest) x =
      Names names value x
      ⊎ BoundNames (with_bindings names (Bind at name declared value NoBinding)) rest x

  pub CasesName : List Scoped → Cases → Outside → Type 0
  CasesName names NoCase x = ⊥
  CasesName names (Choose indexes body rest) x = Names names body x ⊎ CasesName names rest x

  pub HandlersName : List Scoped → Handlers → Outside → Type 0
  HandlersName names NoHandler x = ⊥
  HandlersName names (Handle at label params body rest) x =
      Names (with_parameters params names) body x ⊎ HandlersName names rest x

-- a function names this symbol
abbrev pub FunctionNames : FunctionTree → List ℕ → Type 0
FunctionNames f name = Names (with_parameters f.params []) f.body (ASymbol name)

-- a function makes an external call of this row
abbrev pub FunctionCalls : FunctionTree → External → Type 0
FunctionCalls f row = Names (with_parameters f.params []) f.body (ACall row)
