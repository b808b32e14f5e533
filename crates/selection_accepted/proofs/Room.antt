-- A function that the front accepts has room for all of its numbers.
use Rattle.std.proofs.Common.{◌≡◌, ℕ, ◌*◌, ◌≤◌, Bool, true, false, ◌&&◌, List, Option, get_or, arith}
use Rattle.std.specs.Prelude.{nat_le, All}
use Rattle.std.proofs.lemmas.Bool.{leb-true}
use Rattle.std.proofs.lemmas.List.Elements.{Contains-get_or}
use Rattle.bs_fault.specs.Limits.{most_indexes}
use Rattle.bs_fault.specs.Reported.{Faultless}
use Rattle.cmm_front.specs.FileOf.{IsFileOf}
use Rattle.cmm_limits.specs.Limits as limits
use Rattle.cmm_tree.specs.Measures.{counts_one, row_total, bindings_total, cases_total, handlers_total, nodes_in}
use Rattle.cmm_tree.specs.Symbols.{DefinedSymbol}
use Rattle.cmm_tree.specs.Tree.{FunctionTree, FileTree, functions, Expression, Integer, Pointer, Symbol, Name, Nothing, Float, Let, Assign, Operator, Load, Store, Alloc, App, Extcall, Checkbound, Raise, Seq, If, Switch, Catch, Exit, Try, Expressions, NoMore, More, Bindings, NoBinding, Bind, Cases, NoCase, Choose, Handlers, NoHandler, Handle}
use Rattle.selection_promise.proofs.Known.{left, right, holds_if}
use Rattle.selection_promise.specs.Selects.{IsAccepted}
use Rattle.selection_promise.proofs.Promised.{few_tokens, narrow_body}
use Rattle.selection_accepted.proofs.Promised.{function_accepted}
use Rattle.selection_accepted.proofs.Selecting.{definitions}
use Rattle.selection_scope.specs.Room.{IsSelectable}
use Rattle.selection_scope.specs.Room.{indexes_in, indexes_in_row, indexes_in_bound, indexes_in_cases, indexes_in_handlers}

last_holds : (a b : Bool) → (a && b) ≡ true → b ≡ true
last_holds true b e = e
last_holds false b e = cc

few_of_switch : (at size : ℕ) → Faultless (limits.size_faults at size) → size ≤ most_indexes
few_of_switch at size none = leb-true size most_indexes (last_holds (nat_le 1 size) (nat_le size most_indexes) (holds_if _ _ none))

mutual
  few_indexes : (e : Expression) → Faultless (limits.faults_in e) → indexes_in e ≤ most_indexes * nodes_in e
  few_indexes (Integer at word) l = omega arith
  few_indexes (Pointer at word) l = omega arith
  few_indexes (Symbol at name) l = omega arith
  few_indexes (Name at name) l = omega arith
  few_indexes (Nothing at) l = omega arith
  few_indexes (Float at word_at operands) l = omega (arith, few_row operands l)
  few_indexes (Let at bindings body) l = omega (arith, few_bound bindings (left l), few_indexes body (right l))
  few_indexes (Assign at name_at name value) l = omega (arith, few_indexes value l)
  few_indexes (Operator at op a b) l = omega (arith, few_indexes a (left l), few_indexes b (right l))
  few_indexes (Load at chunk address) l = omega (arith, few_indexes address l)
  few_indexes (Store at chunk address value) l = omega (arith, few_indexes address (left l), few_indexes value (right l))
  few_indexes (Alloc at header_at header operands) l = omega (arith, few_row operands l)
  few_indexes (App at callee arguments result result_at) l = omega (arith, few_indexes callee (left (right l)), few_row arguments (right (right l)))
  few_indexes (Extcall at frame name arguments result result_at) l = omega (arith, few_row arguments (right l))
  few_indexes (Checkbound at bound index) l = omega (arith, few_indexes bound (left l), few_indexes index (right l))
  few_indexes (Raise at value) l = omega (arith, few_indexes value l)
  few_indexes (Seq at elements) l = omega (arith, few_row elements l)
  few_indexes (If at condition a b) l = omega (arith, few_indexes condition (left l), few_indexes a (left (right l)), few_indexes b (right (right l)))
  few_indexes (Switch at size_at size selector cases) l =
      omega (arith, few_of_switch size_at size (left l), few_indexes selector (left (right l)), few_cases size cases (right (right l)))
  few_indexes (Catch at body handlers) l = omega (arith, few_indexes body (left l), few_handlers handlers (right l))
  few_indexes (Exit at label_at label arguments) l = omega (arith, few_row arguments l)
  few_indexes (Try at body name_at name handler) l = omega (arith, few_indexes body (left l), few_indexes handler (right l))

  few_row : (es : Expressions) → Faultless (limits.row_faults es) → indexes_in_row es ≤ most_indexes * row_total counts_one es
  few_row NoMore l = omega arith
  few_row (More e rest) l = omega (arith, few_indexes e (left l), few_row rest (right l))

  few_bound : (bs : Bindings) → Faultless (limits.binding_faults bs) → indexes_in_bound bs ≤ most_indexes * bindings_total counts_one bs
  few_bound NoBinding l = omega arith
  few_bound (Bind at name declared value rest) l = omega (arith, few_indexes value (left l), few_bound rest (right l))

  few_cases : (size : ℕ) (cs : Cases) → Faultless (limits.case_faults size cs) → indexes_in_cases cs ≤ most_indexes * cases_total counts_one cs
  few_cases size NoCase l = omega arith
  few_cases size (Choose indexes body rest) l = omega (arith, few_indexes body (left (right l)), few_cases size rest (right (right l)))

  few_handlers : (hs : Handlers) → Faultless (limits.handler_faults hs) → indexes_in_handlers hs ≤ most_indexes * handlers_total counts_one hs
  few_handlers NoHandler l = omega arith
  few_handlers (Handle at label params body rest) l = omega (arith, few_indexes body (left l), few_handlers rest (right l))

-- Each function that the front accepts can be selected.
pub selection_room : (defined : List ℕ → Option DefinedSymbol) (f : FunctionTree) → IsAccepted defined f → IsSelectable f
selection_room defined f is =
    let kept = is.checked.limits_kept in
    let narrow = narrow_body f is.covered in
    let few = few_tokens f kept in
    let nodes = is.covered.nodes_covered in
    let indexes = few_indexes f.body (right (right kept)) in
    omega (arith, narrow, few, nodes, indexes)

pub file_selectable : (text : List ℕ) (file : FileTree) → IsFileOf text file → All IsSelectable (functions file)
file_selectable text file is k d within =
    let f = get_or (functions file) k d in
    selection_room (definitions file) f (function_accepted text file is f (Contains-get_or (functions file) k d within))
