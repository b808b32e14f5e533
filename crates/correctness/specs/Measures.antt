-- Measures of a text, by which an image is bounded.
use Rattle.std.specs.Prelude.{ℕ, ◌+◌, max, true}
use Rattle.cmm_tree.specs.Measures.{total, own_indexes}
use Rattle.cmm_tree.specs.Tree.{Expression, Integer, Pointer, Symbol, Name, Nothing, Float, Let, Assign, Operator, Load, Store, Alloc, App, Extcall, Checkbound, Raise, Seq, If, Switch, Catch, Exit, Try, Expressions, NoMore, More, Bindings, NoBinding, Bind, Cases, NoCase, Choose, Handlers, NoHandler, Handle, FunctionTree}

-- a frame point is an application, an allocation or a frame call
abbrev pub is_frame_point : Expression → ℕ
is_frame_point (App at callee arguments result result_at) = 1
is_frame_point (Alloc at header_at header operands) = 1
is_frame_point (Extcall at true name arguments result result_at) = 1
is_frame_point _ = 0

-- the frame points of a function's body, and the sizes of its switches
abbrev pub frame_points : FunctionTree → ℕ
frame_points f = total is_frame_point f.body

abbrev pub switch_indexes : FunctionTree → ℕ
switch_indexes f = total own_indexes f.body

-- the most tries that are around one point of an expression
abbrev mutual
  pub tries_in : Expression → ℕ
  tries_in (Integer at word) = 0
  tries_in (Pointer at word) = 0
  tries_in (Symbol at name) = 0
  tries_in (Name at name) = 0
  tries_in (Nothing at) = 0
  tries_in (Float at word_at operands) = tries_in_row operands
  tries_in (Let at bindings body) = max (tries_in_bindings bindings) (tries_in body)
  tries_in (Assign at name_at name value) = tries_in value
  tries_in (Operator at op left right) = max (tries_in left) (tries_in right)
  tries_in (Load at chunk address) = tries_in address
  tries_in (Store at chunk address value) = max (tries_in address) (tries_in value)
  tries_in (Alloc at header_at header operands) = tries_in_row operands
  tries_in (App at callee arguments result result_at) =
      max (tries_in callee) (tries_in_row arguments)
  tries_in (Extcall at frame name arguments result result_at) = tries_in_row arguments
  tries_in (Checkbound at bound index) = max (tries_in bound) (tries_in index)
  tries_in (Raise at value) = tries_in value
  tries_in (Seq at elements) = tries_in_row elements
  tries_in (If at condition on_true on_false) =
      max (tries_in condition) (max (tries_in on_true) (tries_in on_false))
  tries_in (Switch at size_at size selector cases) = max (tries_in selector) (tries_in_cases cases)
  tries_in (Catch at body handlers) = max (tries_in body) (tries_in_handlers handlers)
  tries_in (Exit at label_at label arguments) = tries_in_row arguments
  -- the body is inside the try, and the handler is not
  tries_in (Try at body name_at name handler) = max (1 + tries_in body) (tries_in handler)

  pub tries_in_row : Expressions → ℕ
  tries_in_row NoMore = 0
  tries_in_row (More e rest) = max (tries_in e) (tries_in_row rest)

  pub tries_in_bindings : Bindings → ℕ
  tries_in_bindings NoBinding = 0
  tries_in_bindings (Bind at name declared value rest) =
      max (tries_in value) (tries_in_bindings rest)

  pub tries_in_cases : Cases → ℕ
  tries_in_cases NoCase = 0
  tries_in_cases (Choose indexes body rest) = max (tries_in body) (tries_in_cases rest)

  pub tries_in_handlers : Handlers → ℕ
  tries_in_handlers NoHandler = 0
  tries_in_handlers (Handle at label params body rest) =
      max (tries_in body) (tries_in_handlers rest)

abbrev pub tries : FunctionTree → ℕ
tries f = tries_in f.body
