-- A text that stands further on in another one: its tokens and its trees, each place of theirs so
-- many bytes later. Nothing else of them changes.
use Rattle.std.specs.Prelude.{ℕ, ◌+◌, List, [], ◌∷◌, Option, Some, None}
use Rattle.cmm_lex.specs.Token.{TokenTree}
use Rattle.cmm_tree.specs.Tree.{FunctionTree, Parameter, Declaration, Index, Expression, Integer, Pointer, Symbol, Name, Nothing, Float, Let, Assign, Operator, Load, Store, Alloc, App, Extcall, Checkbound, Raise, Seq, If, Switch, Catch, Exit, Try, Expressions, NoMore, More, Bindings, NoBinding, Bind, Cases, NoCase, Choose, Handlers, NoHandler, Handle, DatumTree, Define, Byte, Half, Int, Val, Address, Skip, Align, Text, Global, AFloat, DataItemTree, DataListTree, ItemTree, AFunction, AData}

-- ---- tokens

abbrev pub moved_token : ℕ → TokenTree → TokenTree
moved_token d t = record { at = t.at + d; kind = t.kind; text = t.text }

abbrev pub moved_tokens : ℕ → List TokenTree → List TokenTree
moved_tokens d [] = []
moved_tokens d (t ∷ ts) = moved_token d t ∷ moved_tokens d ts

-- ---- what is listed in an expression

abbrev pub moved_parameter : ℕ → Parameter → Parameter
moved_parameter d p =
    record { at = p.at + d; name = p.name; comp = p.comp; comp_at = p.comp_at + d }

abbrev pub moved_declaration : ℕ → Declaration → Declaration
moved_declaration d c = record { at = c.at + d; comp = c.comp }

abbrev pub moved_declared : ℕ → Option Declaration → Option Declaration
moved_declared d None = None
moved_declared d (Some c) = Some (moved_declaration d c)

abbrev pub moved_index : ℕ → Index → Index
moved_index d i = record { at = i.at + d; index = i.index }

abbrev pub moved_parameters : ℕ → List Parameter → List Parameter
moved_parameters d [] = []
moved_parameters d (p ∷ ps) = moved_parameter d p ∷ moved_parameters d ps

abbrev pub moved_indexes : ℕ → List Index → List Index
moved_indexes d [] = []
moved_indexes d (i ∷ is) = moved_index d i ∷ moved_indexes d is

-- ---- expressions

abbrev mutual
  pub moved_expression : ℕ → Expression → Expression
  moved_expression d (Integer at word) = Integer (at + d) word
  moved_expression d (Pointer at word) = Pointer (at + d) word
  moved_expression d (Symbol at name) = Symbol (at + d) name
  moved_expression d (Name at name) = Name (at + d) name
  moved_expression d (Nothing at) = Nothing (at + d)
  moved_expression d (Float at word_at operands) =
      Float (at + d) (word_at + d) (moved_row d operands)
  moved_expression d (Let at bindings body) =
      Let (at + d) (moved_bindings d bindings) (moved_expression d body)
  moved_expression d (Assign at name_at name value) =
      Assign (at + d) (name_at + d) name (moved_expression d value)
  moved_expression d (Operator at op left right) =
      Operator (at + d) op (moved_expression d left) (moved_expression d right)
  moved_expression d (Load at chunk address) = Load (at + d) chunk (moved_expression d address)
  moved_expression d (Store at chunk address value) =
      Store (at + d) chunk (moved_expression d address) (moved_expression d value)
  moved_expression d (Alloc at header_at header operands) =
      Alloc (at + d) (header_at + d) header (moved_row d operands)
  moved_expression d (App at callee arguments result result_at) =
      App (at + d) (moved_expression d callee) (moved_row d arguments) result (result_at + d)
  moved_expression d (Extcall at frame name arguments result result_at) =
      Extcall (at + d) frame name (moved_row d arguments) result (result_at + d)
  moved_expression d (Checkbound at bound index) =
      Checkbound (at + d) (moved_expression d bound) (moved_expression d index)
  moved_expression d (Raise at value) = Raise (at + d) (moved_expression d value)
  moved_expression d (Seq at elements) = Seq (at + d) (moved_row d elements)
  moved_expression d (If at condition on_true on_false) =
      If (at + d) (moved_expression d condition) (moved_expression d on_true)
      (moved_expression d on_false)
  moved_expression d (Switch at size_at size selector cases) =
      Switch (at + d) (size_at + d) size (moved_expression d selector) (moved_cases d cases)
  moved_expression d (Catch at body handlers) =
      Catch (at + d) (moved_expression d body) (moved_handlers d handlers)
  moved_expression d (Exit at label_at label arguments) =
      Exit (at + d) (label_at + d) label (moved_row d arguments)
  moved_expression d (Try at body name_at name handler) =
      Try (at + d) (moved_expression d body) (name_at + d) name (moved_expression d handler)

  pub moved_row : ℕ → Expressions → Expressions
  moved_row d NoMore = NoMore
  moved_row d (More e rest) = More (moved_expression d e) (moved_row d rest)

  pub moved_bindings : ℕ → Bindings → Bindings
  moved_bindings d NoBinding = NoBinding
  moved_bindings d (Bind at name declared value rest) =
      Bind (at + d) name (moved_declared d declared) (moved_expression d value)
      (moved_bindings d rest)

  pub moved_cases : ℕ → Cases → Cases
  moved_cases d NoCase = NoCase
  moved_cases d (Choose indexes body rest) =
      Choose (moved_indexes d indexes) (moved_expression d body) (moved_cases d rest)

  pub moved_handlers : ℕ → Handlers → Handlers
  moved_handlers d NoHandler = NoHandler
  moved_handlers d (Handle at label params body rest) =
      Handle (at + d) label (moved_parameters d params) (moved_expression d body)
      (moved_handlers d rest)

-- ---- static data

abbrev pub moved_datum : ℕ → DatumTree → DatumTree
moved_datum d (Address root name_at name) = Address root (name_at + d) name
moved_datum d (Global name_at name) = Global (name_at + d) name
moved_datum d (Define name) = Define name
moved_datum d (Byte word) = Byte word
moved_datum d (Half word) = Half word
moved_datum d (Int word) = Int word
moved_datum d (Val word) = Val word
moved_datum d (Skip count) = Skip count
moved_datum d (Align unit) = Align unit
moved_datum d (Text bytes) = Text bytes
moved_datum d AFloat = AFloat

abbrev pub moved_data_item : ℕ → DataItemTree → DataItemTree
moved_data_item d i = record { at = i.at + d; datum = moved_datum d i.datum }

abbrev pub moved_data_items : ℕ → List DataItemTree → List DataItemTree
moved_data_items d [] = []
moved_data_items d (i ∷ is) = moved_data_item d i ∷ moved_data_items d is

abbrev pub moved_data_list : ℕ → DataListTree → DataListTree
moved_data_list d l = record { at = l.at + d; items = moved_data_items d l.items }

-- ---- items

abbrev pub moved_function : ℕ → FunctionTree → FunctionTree
moved_function d f = record {
  at = f.at + d;
  name_at = f.name_at + d;
  name = f.name;
  params = moved_parameters d f.params;
  body = moved_expression d f.body;
  tokens = f.tokens;
}

abbrev pub moved_item : ℕ → ItemTree → ItemTree
moved_item d (AFunction f) = AFunction (moved_function d f)
moved_item d (AData l) = AData (moved_data_list d l)

abbrev pub moved_items : ℕ → List ItemTree → List ItemTree
moved_items d [] = []
moved_items d (i ∷ is) = moved_item d i ∷ moved_items d is
