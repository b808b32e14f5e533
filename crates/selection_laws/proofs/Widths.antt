-- The numbers that the code of an expression takes are few: seven for each node, and one for each value and name.
use Rattle.std.proofs.Common.{◌+◌, ◌*◌, ◌≤◌, arith}
use Rattle.cmm_tree.specs.Measures.{counts_one, own_values, row_total, bindings_total, cases_total, handlers_total, params_in, nodes_in, values_in, count_of}
use Rattle.cmm_tree.specs.Tree.{Expression, Integer, Pointer, Symbol, Name, Nothing, Float, Let, Assign, Operator, Load, Store, Alloc, App, Extcall, Checkbound, Raise, Seq, If, Switch, Catch, Exit, Try, Expressions, NoMore, More, Bindings, NoBinding, Bind, Cases, NoCase, Choose, Handlers, NoHandler, Handle}
use Rattle.selection_rules.specs.Select.{width, width_row, width_bound, width_cases, width_handlers, width_labels, count_cases}

mutual
  pub few_numbers : (e : Expression) → width e + 2 ≤ 7 * nodes_in e + values_in e
  few_numbers (Integer at word) = omega arith
  few_numbers (Pointer at word) = omega arith
  few_numbers (Symbol at name) = omega arith
  few_numbers (Name at name) = omega arith
  few_numbers (Nothing at) = omega arith
  few_numbers (Float at word_at operands) = omega arith
  few_numbers (Let at bindings body) = omega (arith, few_bound bindings, few_numbers body)
  few_numbers (Assign at name_at name value) = omega (arith, few_numbers value)
  few_numbers (Operator at op left right) = omega (arith, few_numbers left, few_numbers right)
  few_numbers (Load at chunk address) = omega (arith, few_numbers address)
  few_numbers (Store at chunk address value) = omega (arith, few_numbers address, few_numbers value)
  few_numbers (Alloc at header_at header operands) = omega (arith, few_row operands)
  few_numbers (App at callee arguments result result_at) = omega (arith, few_numbers callee, few_row arguments)
  few_numbers (Extcall at frame name arguments result result_at) = omega (arith, few_row arguments)
  few_numbers (Checkbound at bound index) = omega (arith, few_numbers bound, few_numbers index)
  few_numbers (Raise at value) = omega (arith, few_numbers value)
  few_numbers (Seq at elements) = omega (arith, few_row elements)
  few_numbers (If at condition on_true on_false) = omega (arith, few_numbers condition, few_numbers on_true, few_numbers on_false)
  few_numbers (Switch at size_at size selector cases) = omega (arith, few_numbers selector, few_cases cases)
  few_numbers (Catch at body handlers) = omega (arith, few_numbers body, few_handlers handlers)
  few_numbers (Exit at label_at label arguments) = omega (arith, few_row arguments)
  few_numbers (Try at body name_at name handler) = omega (arith, few_numbers body, few_numbers handler)

  few_row : (es : Expressions) → width_row es + count_of es ≤ 7 * row_total counts_one es + row_total own_values es
  few_row NoMore = omega arith
  few_row (More e rest) = omega (arith, few_numbers e, few_row rest)

  few_bound : (bs : Bindings) → width_bound bs ≤ 7 * bindings_total counts_one bs + bindings_total own_values bs
  few_bound NoBinding = omega arith
  few_bound (Bind at name declared value rest) = omega (arith, few_numbers value, few_bound rest)

  few_cases : (cs : Cases) → count_cases cs + width_cases cs ≤ 7 * cases_total counts_one cs + cases_total own_values cs
  few_cases NoCase = omega arith
  few_cases (Choose indexes body rest) = omega (arith, few_numbers body, few_cases rest)

  few_handlers : (hs : Handlers) → width_labels hs + width_handlers hs ≤ 7 * handlers_total counts_one hs + (params_in hs + handlers_total own_values hs)
  few_handlers NoHandler = omega arith
  few_handlers (Handle at label params body rest) = omega (arith, few_numbers body, few_handlers rest)
