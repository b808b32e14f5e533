-- Trees without their places: what is left of a tree where all that says where its parts are in the
-- text is 0.
use Rattle.std.specs.Prelude.{◌≡◌, List, [], ◌∷◌, Option, Some, None}
use Rattle.cmm_tree.specs.Tree.{FunctionTree, Parameter, Declaration, Index, Expression, Integer, Pointer, Symbol, Name, Nothing, Float, Let, Assign, Operator, Load, Store, Alloc, App, Extcall, Checkbound, Raise, Seq, If, Switch, Catch, Exit, Try, Expressions, NoMore, More, Bindings, NoBinding, Bind, Cases, NoCase, Choose, Handlers, NoHandler, Handle}

-- ---- what is listed in an expression

abbrev pub unplaced_parameter : Parameter → Parameter
unplaced_parameter p = record { at = 0; name = p.name; comp = p.comp; comp_at = 0 }

abbrev pub unplaced_declared : Option Declaration → Option Declaration
unplaced_declared None = None
unplaced_declared (Some d) = Some (record { at = 0; comp = d.comp })

abbrev pub unplaced_index : Index → Index
unplaced_index i = record { at = 0; index = i.index }

abbrev pub unplaced_parameters : List Parameter → List Parameter
unplaced_parameters [] = []
unplaced_parameters (p ∷ ps) = unplaced_parameter p ∷ unplaced_parameters ps

abbrev pub unplaced_indexes : List Index → List Index
unplaced_indexes [] = []
unplaced_indexes (i ∷ is) = unplaced_index i ∷ unplaced_indexes is

-- ---- expressions

abbrev mutual
  pub unplaced : Expression → Expression
  unplaced (Integer at word) = Integer 0 word
  unplaced (Pointer at word) = Pointer 0 word
  unplaced (Symbol at name) = Symbol 0 name
  unplaced (Name at name) = Name 0 name
  unplaced (Nothing at) = Nothing 0
  unplaced (Float at word_at operands) = Float 0 0 (unplaced_row operands)
  unplaced (Let at bindings body) = Let 0 (unplaced_bindings bindings) (unplaced body)
  unplaced (Assign at name_at name value) = Assign 0 0 name (unplaced value)
  unplaced (Operator at op left right) = Operator 0 op (unplaced left) (unplaced right)
  unplaced (Load at chunk address) = Load 0 chunk (unplaced address)
  unplaced (Store at chunk address value) = Store 0 chunk (unplaced address) (unplaced value)
  unplaced (Alloc at header_at header operands) = Alloc 0 0 header (unplaced_row operands)
  unplaced (App at callee arguments result result_at) =
      App 0 (unplaced callee) (unplaced_row arguments) result 0
  unplaced (Extcall at frame name arguments result result_at) =
      Extcall 0 frame name (unplaced_row arguments) result 0
  unplaced (Checkbound at bound index) = Checkbound 0 (unplaced bound) (unplaced index)
  unplaced (Raise at value) = Raise 0 (unplaced value)
  unplaced (Seq at elements) = Seq 0 (unplaced_row elements)
  unplaced (If at condition on_true on_false) =
      If 0 (unplaced condition) (unplaced on_true) (unplaced on_false)
  unplaced (Switch at size_at size selector cases) =
      Switch 0 0 size (unplaced selector) (unplaced_cases cases)
  unplaced (Catch at body handlers) = Catch 0 (unplaced body) (unplaced_handlers handlers)
  unplaced (Exit at label_at label arguments) = Exit 0 0 label (unplaced_row arguments)
  unplaced (Try at body name_at name handler) =
      Try 0 (unplaced body) 0 name (unplaced handler)

  pub unplaced_row : Expressions → Expressions
  unplaced_row NoMore = NoMore
  unplaced_row (More e rest) = More (unplaced e) (unplaced_row rest)

  pub unplaced_bindings : Bindings → Bindings
  unplaced_bindings NoBinding = NoBinding
  unplaced_bindings (Bind at name declared value rest) =
      Bind 0 name (unplaced_declared declared) (unplaced value) (unplaced_bindings rest)

  pub unplaced_cases : Cases → Cases
  unplaced_cases NoCase = NoCase
  unplaced_cases (Choose indexes body rest) =
      Choose (unplaced_indexes indexes) (unplaced body) (unplaced_cases rest)

  pub unplaced_handlers : Handlers → Handlers
  unplaced_handlers NoHandler = NoHandler
  unplaced_handlers (Handle at label params body rest) =
      Handle 0 label (unplaced_parameters params) (unplaced body) (unplaced_handlers rest)

-- ---- functions

abbrev pub unplaced_function : FunctionTree → FunctionTree
unplaced_function f = record {
  at = 0;
  name_at = 0;
  name = f.name;
  params = unplaced_parameters f.params;
  body = unplaced f.body;
  tokens = f.tokens;
}

-- Two functions that differ in places alone: they have the same names, labels, words and number of
-- tokens.
pub record DifferInPlaces (f g : FunctionTree) : Type 0 where
  pub same : unplaced_function f ≡ unplaced_function g
