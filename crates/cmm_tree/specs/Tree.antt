-- The tree of a text, after the reader's rewriting, as definitions see it: no memory, no pointer.
--
-- Each node begins with `at`, the place of its first byte, in bytes from the start of the text.
--
-- So it is data of its own: boxes and vectors have pointers and capacities, which a definition must not
-- compare. Only so can it be said, and proved, that a text has one file.
use Rattle.std.specs.Prelude.{ℕ, Bool, true, false, List, [], ◌∷◌, Option, map, bytes_eq}
use Rattle.bs_words.specs.declared.operators.IntOp.{IntOp}
use Rattle.bs_words.specs.declared.types.Chunk.{Chunk}
use Rattle.bs_words.specs.declared.types.Comp.{Comp}
use Rattle.bs_words.specs.declared.types.Ret.{Ret}

-- A parameter of a function or of a handler: the place of its name, and that of its component.
pub record Parameter : Type 0 where
  pub at : ℕ
  pub name : List ℕ
  pub comp : Comp
  pub comp_at : ℕ

-- The component of a mutable name, and the place of its word.
pub record Declaration : Type 0 where
  pub at : ℕ
  pub comp : Comp

-- A number that chooses a case of a switch.
pub record Index : Type 0 where
  pub at : ℕ
  pub index : ℕ

-- The label of a handler. A named label, and the two of a `while`, which no text names, are visible in the
-- body of their catch and in all its handlers; the bare one is visible in the body alone.
-- The labels that a `while` makes are two constructors and not fresh names: no text can name them, and the
-- innermost is always the own one.
pub data LabelTree : Type 0 where
  Named : (name : List ℕ) → LabelTree
  Bare : LabelTree
  Done : LabelTree
  Again : LabelTree

-- whether two labels are the same
abbrev pub same_label : LabelTree → LabelTree → Bool
same_label (Named x) (Named y) = bytes_eq x y
same_label Bare Bare = true
same_label Done Done = true
same_label Again Again = true
same_label _ _ = false

abbrev pub is_bare : LabelTree → Bool
is_bare Bare = true
is_bare _ = false

mutual
  -- An expression: one constructor for each form of the grammar. Integers are words of 64 bits.
  pub data Expression : Type 0 where
    Integer : (at word : ℕ) → Expression
    -- an integer that is written as a value of the heap
    Pointer : (at word : ℕ) → Expression
    -- a string: the symbol of a function or of static data
    Symbol : (at : ℕ) (name : List ℕ) → Expression
    -- a name that a parameter or a binding binds
    Name : (at : ℕ) (name : List ℕ) → Expression
    -- `[]`
    Nothing : (at : ℕ) → Expression
    -- a literal, an operator or an access of memory that computes with floats, whose word is at `word_at`
    Float : (at word_at : ℕ) (operands : Expressions) → Expression
    -- `let` and `letmut`
    Let : (at : ℕ) (bindings : Bindings) (body : Expression) → Expression
    Assign : (at name_at : ℕ) (name : List ℕ) (value : Expression) → Expression
    Operator : (at : ℕ) (op : IntOp) (left right : Expression) → Expression
    Load : (at : ℕ) (chunk : Chunk) (address : Expression) → Expression
    Store : (at : ℕ) (chunk : Chunk) (address value : Expression) → Expression
    Alloc : (at header_at header : ℕ) (operands : Expressions) → Expression
    App : (at : ℕ) (callee : Expression) (arguments : Expressions) (result : Ret) (result_at : ℕ) → Expression
    -- a call of what lies outside the file, by its name; a frame call is one at which the mover may move every block,
    -- and which may raise
    Extcall : (at : ℕ) (frame : Bool) (name : List ℕ) (arguments : Expressions) (result : Ret) (result_at : ℕ) → Expression
    Checkbound : (at : ℕ) (bound index : Expression) → Expression
    Raise : (at : ℕ) (value : Expression) → Expression
    -- two or more expressions, one after the other
    Seq : (at : ℕ) (elements : Expressions) → Expression
    If : (at : ℕ) (condition on_true on_false : Expression) → Expression
    Switch : (at size_at size : ℕ) (selector : Expression) (cases : Cases) → Expression
    Catch : (at : ℕ) (body : Expression) (handlers : Handlers) → Expression
    Exit : (at label_at : ℕ) (label : LabelTree) (arguments : Expressions) → Expression
    -- the handler's name is at `name_at`
    Try : (at : ℕ) (body : Expression) (name_at : ℕ) (name : List ℕ) (handler : Expression) → Expression

  -- Expressions, first to last.
  pub data Expressions : Type 0 where
    NoMore : Expressions
    More : (e : Expression) (rest : Expressions) → Expressions

  -- Bindings, first to last. One of `let` declares nothing, and is not mutable.
  pub data Bindings : Type 0 where
    NoBinding : Bindings
    Bind : (at : ℕ) (name : List ℕ) (declared : Option Declaration) (value : Expression) (rest : Bindings) → Bindings

  -- Cases of a switch, first to last.
  pub data Cases : Type 0 where
    NoCase : Cases
    Choose : (indexes : List Index) (body : Expression) (rest : Cases) → Cases

  -- Handlers of a catch, first to last. `at` is the place of the label; of a handler without one, that of
  -- its body.
  pub data Handlers : Type 0 where
    NoHandler : Handlers
    Handle : (at : ℕ) (label : LabelTree) (params : List Parameter) (body : Expression) (rest : Handlers) → Handlers

-- A function. `at` is the place of its `(`.
pub record FunctionTree : Type 0 where
  pub at : ℕ
  pub name_at : ℕ
  pub name : List ℕ
  pub params : List Parameter
  pub body : Expression
  -- the number of its tokens, its parentheses counted
  pub tokens : ℕ

-- What an item of static data is. An integer has its word, or none where it is out of range.
pub data DatumTree : Type 0 where
  -- a symbol that is defined here
  Define : (name : List ℕ) → DatumTree
  Byte : (word : Option ℕ) → DatumTree
  Half : (word : Option ℕ) → DatumTree
  Int : (word : Option ℕ) → DatumTree
  Val : (word : Option ℕ) → DatumTree
  -- the address of a symbol: a root where it is written as a `val`
  Address : (root : Bool) (name_at : ℕ) (name : List ℕ) → DatumTree
  Skip : (count : Option ℕ) → DatumTree
  Align : (unit : Option ℕ) → DatumTree
  -- the bytes of a string
  Text : (bytes : List ℕ) → DatumTree
  Global : (name_at : ℕ) (name : List ℕ) → DatumTree
  AFloat : DatumTree

-- An item of static data. `at` is the place of its first token.
pub record DataItemTree : Type 0 where
  pub at : ℕ
  pub datum : DatumTree

-- A list of static data. `at` is the place of its `(`.
pub record DataListTree : Type 0 where
  pub at : ℕ
  pub items : List DataItemTree

-- One item of a file.
pub data ItemTree : Type 0 where
  AFunction : (f : FunctionTree) → ItemTree
  AData : (d : DataListTree) → ItemTree

-- A file: the items of a text, in its order.
pub record FileTree : Type 0 where
  pub items : List ItemTree

-- the functions among these items, in order
abbrev pub functions_among : List ItemTree → List FunctionTree
functions_among [] = []
functions_among (AFunction f ∷ items) = f ∷ functions_among items
functions_among (AData d ∷ items) = functions_among items

-- the functions of a file, in the order of its text: function k is the one at k, from 0
abbrev pub functions : FileTree → List FunctionTree
functions file = functions_among file.items

-- the lists of static data among these items, in order
abbrev pub data_among : List ItemTree → List DataListTree
data_among [] = []
data_among (AFunction f ∷ items) = data_among items
data_among (AData d ∷ items) = d ∷ data_among items

-- the lists of static data of a file, in the order of its text
abbrev pub data_lists : FileTree → List DataListTree
data_lists file = data_among file.items

-- the names of parameters
abbrev pub names_of_params : List Parameter → List (List ℕ)
names_of_params params = map (λ (p : Parameter). p.name) params

-- the names of a function's parameters
abbrev pub names_of : FunctionTree → List (List ℕ)
names_of f = names_of_params f.params

-- their components
abbrev pub comps_of : FunctionTree → List Comp
comps_of f = map (λ (p : Parameter). p.comp) f.params
