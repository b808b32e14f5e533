-- The external calls of a tree are of symbols.
use Rattle.bs_words.specs.Symbol.{IsSymbol}
use Rattle.cmm_tree.specs.Tree.{Expression, Integer, Pointer, Symbol, Name, Nothing, Float, Let, Assign, Operator, Load, Store, Alloc, App, Extcall, Checkbound, Raise, Seq, If, Switch, Catch, Exit, Try, Expressions, NoMore, More, Bindings, NoBinding, Bind, Cases, NoCase, Choose, Handlers, NoHandler, Handle}

-- each external call in an expression is of a symbol
abbrev mutual
  pub CallsSymbols : Expression → Type 0
  CallsSymbols (Float at word_at operands) = RowCallsSymbols operands
  CallsSymbols (Let at bindings body) = BoundCallsSymbols bindings × CallsSymbols body
  CallsSymbols (Assign at name_at name value) = CallsSymbols value
  CallsSymbols (Operator at op left right) = CallsSymbols left × CallsSymbols right
  CallsSymbols (Load at chunk address) = CallsSymbols address
  CallsSymbols (Store at chunk address value) = CallsSymbols address × CallsSymbols value
  CallsSymbols (Alloc at header_at header operands) = RowCallsSymbols operands
  CallsSymbols (App at callee arguments result result_at) =
      CallsSymbols callee × RowCallsSymbols arguments
  CallsSymbols (Extcall at frame name arguments result result_at) =
      IsSymbol name × RowCallsSymbols arguments
  CallsSymbols (Checkbound at bound index) = CallsSymbols bound × CallsSymbols index
  CallsSymbols (Raise at value) = CallsSymbols value
  CallsSymbols (Seq at elements) = RowCallsSymbols elements
  CallsSymbols (If at condition on_true on_false) =
      CallsSymbols condition × (CallsSymbols on_true × CallsSymbols on_false)
  CallsSymbols (Switch at size_at size selector cases) =
      CallsSymbols selector × CasesCallSymbols cases
  CallsSymbols (Catch at body handlers) = CallsSymbols body × HandlersCallSymbols handlers
  CallsSymbols (Exit at label_at label arguments) = RowCallsSymbols arguments
  CallsSymbols (Try at body name_at name handler) = CallsSymbols body × CallsSymbols handler
  CallsSymbols (Integer at word) = Unit {0}
  CallsSymbols (Pointer at word) = Unit {0}
  CallsSymbols (Symbol at name) = Unit {0}
  CallsSymbols (Name at name) = Unit {0}
  CallsSymbols (Nothing at) = Unit {0}

  pub RowCallsSymbols : Expressions → Type 0
  RowCallsSymbols NoMore = Unit {0}
  RowCallsSymbols (More e rest) = CallsSymbols e × RowCallsSymbols rest

  pub BoundCallsSymbols : Bindings → Type 0
  BoundCallsSymbols NoBinding = Unit {0}
  BoundCallsSymbols (Bind at name declared value rest) =
      CallsSymbols value × BoundCallsSymbols rest

  pub CasesCallSymbols : Cases → Type 0
  CasesCallSymbols NoCase = Unit {0}
  CasesCallSymbols (Choose indexes body rest) = CallsSymbols body × CasesCallSymbols rest

  pub HandlersCallSymbols : Handlers → Type 0
  HandlersCallSymbols NoHandler = Unit {0}
  HandlersCallSymbols (Handle at label params body rest) =
      CallsSymbols body × HandlersCallSymbols rest
