-- What the nodes of a function that the front accepts bound: frame points, and indexes of switches.
use Rattle.std.proofs.Common.{ℕ, ◌*◌, ◌≤◌, true, false, ◌&&◌, nat_le, arith}
use Rattle.std.proofs.lemmas.Bool.{leb-true, and_parts}
use Rattle.bs_fault.specs.Limits.{most_indexes}
use Rattle.bs_fault.specs.Reported.{Faultless}
use Rattle.cmm_limits.specs.Limits.{faults_in, row_faults, binding_faults, case_faults, handler_faults, size_faults}
use Rattle.cmm_tree.specs.Measures.{total, row_total, bindings_total, cases_total, handlers_total, counts_one, own_indexes}
use Rattle.cmm_tree.specs.Tree.{Expression, Integer, Pointer, Symbol, Name, Nothing, Float, Let, Assign, Operator, Load, Store, Alloc, App, Extcall, Checkbound, Raise, Seq, If, Switch, Catch, Exit, Try, Expressions, NoMore, More, Bindings, NoBinding, Bind, Cases, NoCase, Choose, Handlers, NoHandler, Handle}
use Rattle.correctness.specs.Measures.{is_frame_point}
use Rattle.selection_laws.proofs.Accepting.{left, right, holds_if}

-- ---- frame points

mutual
  pub few_points : (e : Expression) → total is_frame_point e ≤ total counts_one e
  few_points (Integer at word) = omega arith
  few_points (Pointer at word) = omega arith
  few_points (Symbol at name) = omega arith
  few_points (Name at name) = omega arith
  few_points (Nothing at) = omega arith
  few_points (Float at word_at operands) = omega (arith, row_points operands)
  few_points (Let at bindings body) = omega (arith, bound_points bindings, few_points body)
  few_points (Assign at name_at name value) = omega (arith, few_points value)
  few_points (Operator at op e g) = omega (arith, few_points e, few_points g)
  few_points (Load at chunk address) = omega (arith, few_points address)
  few_points (Store at chunk address value) = omega (arith, few_points address, few_points value)
  few_points (Alloc at header_at header operands) = omega (arith, row_points operands)
  few_points (App at callee arguments result result_at) = omega (arith, few_points callee, row_points arguments)
  few_points (Extcall at true name arguments result result_at) = omega (arith, row_points arguments)
  few_points (Extcall at false name arguments result result_at) = omega (arith, row_points arguments)
  few_points (Checkbound at bound index) = omega (arith, few_points bound, few_points index)
  few_points (Raise at value) = omega (arith, few_points value)
  few_points (Seq at elements) = omega (arith, row_points elements)
  few_points (If at condition e g) = omega (arith, few_points condition, few_points e, few_points g)
  few_points (Switch at size_at size selector cases) = omega (arith, few_points selector, case_points cases)
  few_points (Catch at body handlers) = omega (arith, few_points body, handler_points handlers)
  few_points (Exit at label_at label arguments) = omega (arith, row_points arguments)
  few_points (Try at body name_at name handler) = omega (arith, few_points body, few_points handler)

  row_points : (es : Expressions) → row_total is_frame_point es ≤ row_total counts_one es
  row_points NoMore = omega arith
  row_points (More e rest) = omega (arith, few_points e, row_points rest)

  bound_points : (bs : Bindings) → bindings_total is_frame_point bs ≤ bindings_total counts_one bs
  bound_points NoBinding = omega arith
  bound_points (Bind at name declared value rest) = omega (arith, few_points value, bound_points rest)

  case_points : (cs : Cases) → cases_total is_frame_point cs ≤ cases_total counts_one cs
  case_points NoCase = omega arith
  case_points (Choose indexes body rest) = omega (arith, few_points body, case_points rest)

  handler_points : (hs : Handlers) → handlers_total is_frame_point hs ≤ handlers_total counts_one hs
  handler_points NoHandler = omega arith
  handler_points (Handle at label params body rest) = omega (arith, few_points body, handler_points rest)

-- ---- indexes of switches

size_few : (at size : ℕ) → Faultless (size_faults at size) → size ≤ 4096
size_few at size none =
    let both = and_parts (nat_le 1 size) (nat_le size most_indexes) (holds_if (nat_le 1 size && nat_le size most_indexes) _ none) in
    leb-true size 4096 both.1

mutual
  pub few_indexes : (e : Expression) → Faultless (faults_in e) → total own_indexes e ≤ 4096 * total counts_one e
  few_indexes (Integer at word) none = omega arith
  few_indexes (Pointer at word) none = omega arith
  few_indexes (Symbol at name) none = omega arith
  few_indexes (Name at name) none = omega arith
  few_indexes (Nothing at) none = omega arith
  few_indexes (Float at word_at operands) none = omega (arith, row_indexes operands none)
  few_indexes (Let at bindings body) none = omega (arith, bound_indexes bindings (left none), few_indexes body (right none))
  few_indexes (Assign at name_at name value) none = omega (arith, few_indexes value none)
  few_indexes (Operator at op e g) none = omega (arith, few_indexes e (left none), few_indexes g (right none))
  few_indexes (Load at chunk address) none = omega (arith, few_indexes address none)
  few_indexes (Store at chunk address value) none = omega (arith, few_indexes address (left none), few_indexes value (right none))
  few_indexes (Alloc at header_at header operands) none = omega (arith, row_indexes operands none)
  few_indexes (App at callee arguments result result_at) none =
      omega (arith, few_indexes callee (left (right none)), row_indexes arguments (right (right none)))
  few_indexes (Extcall at frame name arguments result result_at) none = omega (arith, row_indexes arguments (right none))
  few_indexes (Checkbound at bound index) none = omega (arith, few_indexes bound (left none), few_indexes index (right none))
  few_indexes (Raise at value) none = omega (arith, few_indexes value none)
  few_indexes (Seq at elements) none = omega (arith, row_indexes elements none)
  few_indexes (If at condition e g) none =
      omega (arith, few_indexes condition (left none), few_indexes e (left (right none)), few_indexes g (right (right none)))
  few_indexes (Switch at size_at size selector cases) none =
      omega (arith, size_few size_at size (left none), few_indexes selector (left (right none)), case_indexes size cases (right (right none)))
  few_indexes (Catch at body handlers) none = omega (arith, few_indexes body (left none), handler_indexes handlers (right none))
  few_indexes (Exit at label_at label arguments) none = omega (arith, row_indexes arguments none)
  few_indexes (Try at body name_at name handler) none = omega (arith, few_indexes body (left none), few_indexes handler (right none))

  row_indexes : (es : Expressions) → Faultless (row_faults es) → row_total own_indexes es ≤ 4096 * row_total counts_one es
  row_indexes NoMore none = omega arith
  row_indexes (More e rest) none = omega (arith, few_indexes e (left none), row_indexes rest (right none))

  bound_indexes : (bs : Bindings) → Faultless (binding_faults bs) → bindings_total own_indexes bs ≤ 4096 * bindings_total counts_one bs
  bound_indexes NoBinding none = omega arith
  bound_indexes (Bind at name declared value rest) none = omega (arith, few_indexes value (left none), bound_indexes rest (right none))

  case_indexes : (size : ℕ) (cs : Cases) → Faultless (case_faults size cs) → cases_total own_indexes cs ≤ 4096 * cases_total counts_one cs
  case_indexes size NoCase none = omega arith
  case_indexes size (Choose indexes body rest) none = omega (arith, few_indexes body (left (right none)), case_indexes size rest (right (right none)))

  handler_indexes : (hs : Handlers) → Faultless (handler_faults hs) → handlers_total own_indexes hs ≤ 4096 * handlers_total counts_one hs
  handler_indexes NoHandler none = omega arith
  handler_indexes (Handle at label params body rest) none = omega (arith, few_indexes body (left none), handler_indexes rest (right none))
