-- The limits on sizes in a file: a function has at most 16 parameters and at most 32,000 tokens, a
-- call at most 16 arguments, a switch 1 to 4,096 indexes, and each number of a case is below their
-- number.
use Rattle.std.specs.Prelude.{ℕ, not, ◌&&◌, nat_lt, nat_le, List, [], ◌∷◌, Option, Some, None, map}
use Rattle.std.specs.List.{slice_get}
use Rattle.bs_fault.specs.Limits.{most_params, most_tokens, most_indexes}
use Rattle.bs_fault.specs.declared.fault.Fault.TheVariants.{TooManyParams, FunctionTooLong, SwitchSize}
use Rattle.cmm_tree.specs.Tree.{Expression, Integer, Pointer, Symbol, Name, Nothing, Float, Let, Assign, Operator, Load, Store, Alloc, App, Extcall, Checkbound, Raise, Seq, If, Switch, Catch, Exit, Try, Expressions, NoMore, More, Bindings, NoBinding, Bind, Cases, NoCase, Choose, Handlers, NoHandler, Handle, Index, Parameter, FunctionTree, ItemTree, AFunction, AData, FileTree}
use Rattle.cmm_tree.specs.Place.{place_of}
use Rattle.bs_fault.specs.Reported.{Faults, NoFault, One, Both, one_if}

-- a parameter or an argument at this place that is one too many, if there is one
abbrev pub too_many_at : Option ℕ → Faults
too_many_at None = NoFault
too_many_at (Some at) = One (TooManyParams at)

-- the first of those at these places that is one too many
abbrev pub too_many : List ℕ → Faults
too_many places = too_many_at (slice_get places most_params)

-- the places of expressions
abbrev pub places : Expressions → List ℕ
places NoMore = []
places (More e rest) = place_of e ∷ places rest

-- the places of parameters
abbrev pub parameter_places : List Parameter → List ℕ
parameter_places params = map (λ (p : Parameter). p.at) params

-- a number of indexes
abbrev pub size_faults : ℕ → ℕ → Faults
size_faults size_at size =
    one_if (not (nat_le 1 size && nat_le size most_indexes)) (SwitchSize size_at)

-- the numbers of a case, where there are so many indexes
abbrev pub index_faults : ℕ → List Index → Faults
index_faults size [] = NoFault
index_faults size (i ∷ indexes) =
    Both (one_if (not (nat_lt i.index size)) (SwitchSize i.at)) (index_faults size indexes)

-- an expression, and all that is in it
abbrev mutual
  pub faults_in : Expression → Faults
  faults_in (Integer at word) = NoFault
  faults_in (Pointer at word) = NoFault
  faults_in (Symbol at name) = NoFault
  faults_in (Name at name) = NoFault
  faults_in (Nothing at) = NoFault
  faults_in (Float at word_at operands) = row_faults operands
  faults_in (Let at bindings body) = Both (binding_faults bindings) (faults_in body)
  faults_in (Assign at name_at name value) = faults_in value
  faults_in (Operator at op left right) = Both (faults_in left) (faults_in right)
  faults_in (Load at chunk address) = faults_in address
  faults_in (Store at chunk address value) = Both (faults_in address) (faults_in value)
  faults_in (Alloc at header_at header operands) = row_faults operands
  faults_in (App at callee arguments result result_at) =
      Both (too_many (places arguments)) (Both (faults_in callee) (row_faults arguments))
  faults_in (Extcall at frame name arguments result result_at) =
      Both (too_many (places arguments)) (row_faults arguments)
  faults_in (Checkbound at bound index) = Both (faults_in bound) (faults_in index)
  faults_in (Raise at value) = faults_in value
  faults_in (Seq at elements) = row_faults elements
  faults_in (If at condition on_true on_false) =
      Both (faults_in condition) (Both (faults_in on_true) (faults_in on_false))
  faults_in (Switch at size_at size selector cases) =
      Both (size_faults size_at size) (Both (faults_in selector) (case_faults size cases))
  faults_in (Catch at body handlers) = Both (faults_in body) (handler_faults handlers)
  faults_in (Exit at label_at label arguments) = row_faults arguments
  faults_in (Try at body name_at name handler) = Both (faults_in body) (faults_in handler)

  pub row_faults : Expressions → Faults
  row_faults NoMore = NoFault
  row_faults (More e rest) = Both (faults_in e) (row_faults rest)

  pub binding_faults : Bindings → Faults
  binding_faults NoBinding = NoFault
  binding_faults (Bind at name declared value rest) = Both (faults_in value) (binding_faults rest)

  pub case_faults : ℕ → Cases → Faults
  case_faults size NoCase = NoFault
  case_faults size (Choose indexes body rest) =
      Both (index_faults size indexes) (Both (faults_in body) (case_faults size rest))

  pub handler_faults : Handlers → Faults
  handler_faults NoHandler = NoFault
  handler_faults (Handle at label params body rest) = Both (faults_in body) (handler_faults rest)

abbrev pub function_limit_faults : FunctionTree → Faults
function_limit_faults f =
    Both (too_many (parameter_places f.params))
    (Both (one_if (not (nat_le f.tokens most_tokens)) (FunctionTooLong f.at)) (faults_in f.body))

abbrev pub item_limit_faults : ItemTree → Faults
item_limit_faults (AFunction f) = function_limit_faults f
item_limit_faults (AData d) = NoFault

abbrev pub items_limit_faults : List ItemTree → Faults
items_limit_faults [] = NoFault
items_limit_faults (i ∷ items) = Both (item_limit_faults i) (items_limit_faults items)

-- where a file passes a limit
abbrev pub limit_faults : FileTree → Faults
limit_faults file = items_limit_faults file.items
