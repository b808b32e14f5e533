-- The parts of trees that the grammar puts together.
use Rattle.std.specs.Prelude.{ℕ, Bool, List, [], ◌∷◌, Option}
use Rattle.bs_words.specs.declared.types.Ret.{Ret}
use Rattle.cmm_tree.specs.Tree.{Parameter, Declaration, Index, LabelTree, Expression, Expressions, Bindings, Cases, Handlers, NoMore, More, NoBinding, Bind, NoCase, Choose, NoHandler, Handle, Seq, DataListTree, ItemTree, AFunction, AData}
use Rattle.cmm_tree.specs.Place.{place_of}

-- The result of a call, and the place of its word.
pub record ResultPart : Type 0 where
  pub at : ℕ
  pub ret : Ret

pub record BindingPart : Type 0 where
  pub at : ℕ
  pub name : List ℕ
  pub declared : Option Declaration
  pub value : Expression

-- A case of a switch, and whether another follows.
pub record CasePart : Type 0 where
  pub indexes : List Index
  pub body : Expression
  pub goes_on : Bool

-- A handler that has a label, and whether another follows.
pub record HandlerPart : Type 0 where
  pub at : ℕ
  pub label : LabelTree
  pub params : List Parameter
  pub body : Expression
  pub goes_on : Bool

-- The label of a handler and its parameters.
pub record HeadPart : Type 0 where
  pub at : ℕ
  pub name : List ℕ
  pub params : List Parameter

-- A function, without the number of its tokens.
pub record FunctionPart : Type 0 where
  pub at : ℕ
  pub name_at : ℕ
  pub name : List ℕ
  pub params : List Parameter
  pub body : Expression

pub data ItemPart : Type 0 where
  FunctionItem : (f : FunctionPart) → ItemPart
  DataItem : (d : DataListTree) → ItemPart

-- the item of so many tokens
abbrev pub item_of : ℕ → ItemPart → ItemTree
item_of tokens (FunctionItem f) =
    AFunction (record { at = f.at; name_at = f.name_at; name = f.name; params = f.params; body = f.body; tokens = tokens })
item_of tokens (DataItem d) = AData d

abbrev pub expressions : List Expression → Expressions
expressions [] = NoMore
expressions (e ∷ es) = More e (expressions es)

abbrev pub bindings : List BindingPart → Bindings
bindings [] = NoBinding
bindings (b ∷ bs) = Bind b.at b.name b.declared b.value (bindings bs)

abbrev pub cases : List CasePart → Cases
cases [] = NoCase
cases (c ∷ cs) = Choose c.indexes c.body (cases cs)

abbrev pub handlers : List HandlerPart → Handlers
handlers [] = NoHandler
handlers (h ∷ hs) = Handle h.at h.label h.params h.body (handlers hs)

-- Expressions one after the other. One expression is itself; more are a sequence, which has this place, or else that
-- of the first.
abbrev pub sequence_at : ℕ → Expression → List Expression → Expression
sequence_at at e [] = e
sequence_at at e (f ∷ es) = Seq at (expressions (e ∷ f ∷ es))

abbrev pub sequence : Expression → List Expression → Expression
sequence e es = sequence_at (place_of e) e es
