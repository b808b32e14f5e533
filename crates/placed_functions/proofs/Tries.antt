-- No more tries nest in an expression than it has.
use Rattle.std.proofs.Common.{◌≤◌, arith}
use Rattle.cmm_tree.specs.Measures.{is_try, all_tries, row_total, bindings_total, cases_total, handlers_total}
use Rattle.cmm_tree.specs.Tree.{Expression, Integer, Pointer, Symbol, Name, Nothing, Float, Let, Assign, Operator, Load, Store, Alloc, App, Extcall, Checkbound, Raise, Seq, If, Switch, Catch, Exit, Try, Expressions, NoMore, More, Bindings, NoBinding, Bind, Cases, NoCase, Choose, Handlers, NoHandler, Handle}
use Rattle.correctness.specs.Measures.{tries_in, tries_in_row, tries_in_bindings, tries_in_cases, tries_in_handlers}

mutual
  pub few_nest : (e : Expression) → tries_in e ≤ all_tries e
  few_nest (Integer at word) = omega arith
  few_nest (Pointer at word) = omega arith
  few_nest (Symbol at name) = omega arith
  few_nest (Name at name) = omega arith
  few_nest (Nothing at) = omega arith
  few_nest (Float at word_at operands) = omega (arith, row_nest operands)
  few_nest (Let at bindings body) = omega (arith, bound_nest bindings, few_nest body)
  few_nest (Assign at name_at name value) = omega (arith, few_nest value)
  few_nest (Operator at op left right) = omega (arith, few_nest left, few_nest right)
  few_nest (Load at chunk address) = omega (arith, few_nest address)
  few_nest (Store at chunk address value) = omega (arith, few_nest address, few_nest value)
  few_nest (Alloc at header_at header operands) = omega (arith, row_nest operands)
  few_nest (App at callee arguments result result_at) = omega (arith, few_nest callee, row_nest arguments)
  few_nest (Extcall at frame name arguments result result_at) = omega (arith, row_nest arguments)
  few_nest (Checkbound at bound index) = omega (arith, few_nest bound, few_nest index)
  few_nest (Raise at value) = omega (arith, few_nest value)
  few_nest (Seq at elements) = omega (arith, row_nest elements)
  few_nest (If at condition on_true on_false) = omega (arith, few_nest condition, few_nest on_true, few_nest on_false)
  few_nest (Switch at size_at size selector cases) = omega (arith, few_nest selector, cases_nest cases)
  few_nest (Catch at body handlers) = omega (arith, few_nest body, handlers_nest handlers)
  few_nest (Exit at label_at label arguments) = omega (arith, row_nest arguments)
  few_nest (Try at body name_at name handler) = omega (arith, few_nest body, few_nest handler)

  row_nest : (es : Expressions) → tries_in_row es ≤ row_total is_try es
  row_nest NoMore = omega arith
  row_nest (More e rest) = omega (arith, few_nest e, row_nest rest)

  bound_nest : (bs : Bindings) → tries_in_bindings bs ≤ bindings_total is_try bs
  bound_nest NoBinding = omega arith
  bound_nest (Bind at name declared value rest) = omega (arith, few_nest value, bound_nest rest)

  cases_nest : (cs : Cases) → tries_in_cases cs ≤ cases_total is_try cs
  cases_nest NoCase = omega arith
  cases_nest (Choose indexes body rest) = omega (arith, few_nest body, cases_nest rest)

  handlers_nest : (hs : Handlers) → tries_in_handlers hs ≤ handlers_total is_try hs
  handlers_nest NoHandler = omega arith
  handlers_nest (Handle at label params body rest) = omega (arith, few_nest body, handlers_nest rest)
