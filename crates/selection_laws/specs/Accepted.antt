-- What the front has checked of a function that it accepts.
use Rattle.std.specs.Prelude.{ℕ, List, Option}
use Rattle.bs_fault.specs.Reported.{Faultless}
use Rattle.cmm_limits.specs.Limits as limits
use Rattle.cmm_tree.specs.Measures.{IntegersFit}
use Rattle.cmm_tree.specs.Symbols.{DefinedSymbol}
use Rattle.cmm_tree.specs.Tree.{FunctionTree, Expression, Integer, Pointer, Symbol, Name, Nothing, Float, Let, Assign, Operator, Load, Store, Alloc, App, Extcall, Checkbound, Raise, Seq, If, Switch, Catch, Exit, Try, Expressions, NoMore, More, Bindings, NoBinding, Bind, Cases, NoCase, Choose, Handlers, NoHandler, Handle}
use Rattle.cmm_types.specs.Gathered.{function_faults}
use Rattle.selection_laws.specs.Fits.{HasCase}

-- each switch has a case, as the grammar has it
abbrev mutual
  pub HaveCases : Expression → Type 0
  HaveCases (Float at word_at operands) = RowHaveCases operands
  HaveCases (Let at bindings body) = BoundHaveCases bindings × HaveCases body
  HaveCases (Assign at name_at name value) = HaveCases value
  HaveCases (Operator at op left right) = HaveCases left × HaveCases right
  HaveCases (Load at chunk address) = HaveCases address
  HaveCases (Store at chunk address value) = HaveCases address × HaveCases value
  HaveCases (Alloc at header_at header operands) = RowHaveCases operands
  HaveCases (App at callee arguments result result_at) =
      HaveCases callee × RowHaveCases arguments
  HaveCases (Extcall at frame name arguments result result_at) = RowHaveCases arguments
  HaveCases (Checkbound at bound index) = HaveCases bound × HaveCases index
  HaveCases (Raise at value) = HaveCases value
  HaveCases (Seq at elements) = RowHaveCases elements
  HaveCases (If at condition on_true on_false) =
      HaveCases condition × (HaveCases on_true × HaveCases on_false)
  HaveCases (Switch at size_at size selector cases) =
      HasCase cases × (HaveCases selector × CasesHaveCases cases)
  HaveCases (Catch at body handlers) = HaveCases body × HandlersHaveCases handlers
  HaveCases (Exit at label_at label arguments) = RowHaveCases arguments
  HaveCases (Try at body name_at name handler) = HaveCases body × HaveCases handler
  HaveCases (Integer at word) = Unit {0}
  HaveCases (Pointer at word) = Unit {0}
  HaveCases (Symbol at name) = Unit {0}
  HaveCases (Name at name) = Unit {0}
  HaveCases (Nothing at) = Unit {0}

  pub RowHaveCases : Expressions → Type 0
  RowHaveCases NoMore = Unit {0}
  RowHaveCases (More e rest) = HaveCases e × RowHaveCases rest

  pub BoundHaveCases : Bindings → Type 0
  BoundHaveCases NoBinding = Unit {0}
  BoundHaveCases (Bind at name declared value rest) = HaveCases value × BoundHaveCases rest

  pub CasesHaveCases : Cases → Type 0
  CasesHaveCases NoCase = Unit {0}
  CasesHaveCases (Choose indexes body rest) = HaveCases body × CasesHaveCases rest

  pub HandlersHaveCases : Handlers → Type 0
  HandlersHaveCases NoHandler = Unit {0}
  HandlersHaveCases (Handle at label params body rest) =
      HaveCases body × HandlersHaveCases rest

pub record Accepted (defined : List ℕ → Option DefinedSymbol) (f : FunctionTree) : Type 0 where
  pub limits_kept : Faultless (limits.function_limit_faults f)
  pub typed : Faultless (function_faults defined f)
  pub integers_fit : IntegersFit f.body
  pub have_cases : HaveCases f.body
