-- How many exits selected code has, by the values of a tree.
use Rattle.std.proofs.Common.{◌≡◌, ℕ, suc, ◌≤◌, Bool, true, false, not, cond, List, [], ◌∷◌, Option, Some, None, refl, ap, arith}
use Rattle.bs_words.specs.declared.operators.IntOp.{IntOp}
use Rattle.bs_words.specs.declared.operators.IntOp.TheVariants as operator
use Rattle.bs_words.specs.declared.types.Chunk.{Chunk}
use Rattle.bs_words.specs.declared.types.Comp.TheVariants as comp
use Rattle.bs_words.specs.declared.types.Ret.{Ret}
use Rattle.bs_words.specs.declared.types.Ty.TheVariants as ty
use Rattle.bs_words.specs.declared.types.Ret.TheVariants as ret
use Rattle.cmm_tree.specs.Measures.{own_values, values_in, row_total, bindings_total, cases_total, handlers_total}
use Rattle.cmm_tree.specs.Tree.{FunctionTree, Expression, Integer, Pointer, Symbol, Name, Nothing, Float, Let, Assign, Operator, Load, Store, Alloc, App, Extcall, Checkbound, Raise, Seq, If, Switch, Catch, Exit, Try, Expressions, NoMore, More, Bindings, NoBinding, Bind, Cases, NoCase, Choose, Handlers, NoHandler, Handle}
use Rattle.cmm_types.specs.Light.{is_light_address}
use Rattle.cmm_types.specs.Types.{result_of, body_type, type_of}
use Rattle.cmm_meaning.specs.Evaluation.{is_left_first}
use Rattle.mach_ir.specs.Formed.{is_exit}
use Rattle.mach_ir.specs.declared.mach.Mark.{Mark}
use Rattle.mach_ir.specs.declared.mach.Mark.TheVariants as mark
use Rattle.mach_ir.specs.declared.mach.MachOp.TheVariants as mach
use Rattle.mach_ir.specs.declared.mach.Test.{Test}
use Rattle.mach_ir.specs.declared.mach.Test.TheVariants as test
use Rattle.mach_ir.specs.declared.op.Op.{Op}
use Rattle.mach_ir.specs.declared.reg.Reg.{Reg}
use Rattle.selection_rules.specs.Instructions.{bare_mark}
use Rattle.selection_rules.specs.Instructions as emit
use Rattle.selection_rules.specs.Select.{Code, OperandShape, InRegisters, ConstantRight, ConstantLeft, PowerRight, operation_shape, shape_op, shape_right, shape_args, power_code, operator_code, NamedRegister, Label, scopes, reg_of, visible_label, move_from, move_to, moves_all, exit_to_handler, from_seat, called_symbol, bound_test_operand, bound_test, comparison, select_test, is_based, base_of, inner_dest, seat, select_base, call_of, regs_of, select, select_waiting, select_filled, select_bound, select_seq, select_cases, select_handlers, labels_within_try, cell_stores, return_code, selected, first_after_colours, is_no_value, fresh_register, seats}
use Rattle.selection_places.proofs.Adds as adds
use Rattle.selection_places.proofs.Adds.{Adds, part_both, now_of, later_of, in_parts, sum_total}
use Rattle.selection_places.proofs.Whole.{value_at, params_of, env_of}
use Rattle.pass_rules.specs.Measures.{exit_count}

-- code with no more than so many exits
abbrev Leaves : ℕ → Code → Type 0
Leaves n code = Adds exit_count n code

e_operation : (f : Op) (args results : List Reg) → Leaves 0 (λ next. emit.operation_instr f args results ∷ next)
e_operation f args results = record { at = λ next. omega arith }

e_move : (a d : Reg) → Leaves 0 (λ next. emit.move a d ∷ next)
e_move a d = record { at = λ next. omega arith }

-- a mark that is no exit
e_mark : (f : Mark) (args results : List Reg) → is_exit (mach.Mark f) ≡ false → Leaves 0 (λ next. record { op = mach.Mark f; args = args; results = results } ∷ next)
e_mark f args results none =
    record {
      at = λ next.
          let e : exit_count (record { op = mach.Mark f; args = args; results = results } ∷ next) ≡ exit_count next = ap (λ b. cond b (suc (exit_count next)) (exit_count next)) none in
          omega (arith, e);
    }

e_from : (o : Option Reg) (d : Reg) → Leaves 0 (move_from o d)
e_from None d = adds.none
e_from (Some a) d = e_move a d

e_to : (a : Reg) (o : Option Reg) → Leaves 0 (move_to a o)
e_to a None = adds.none
e_to a (Some d) = e_move a d

e_moves : (from to : List Reg) → Leaves 0 (moves_all from to)
e_moves [] to = adds.none
e_moves (a ∷ from) [] = adds.none
e_moves (a ∷ from) (d ∷ to) = adds.then (e_moves from to) (e_move a d)

e_leave : (l n : ℕ) → Leaves 1 (λ next. bare_mark (mark.Exit l n) ∷ next)
e_leave l n = record { at = λ next. omega arith }

e_exit : (o : Option Label) (from : List Reg) → Leaves 1 (exit_to_handler o from)
e_exit None from = record { at = λ next. omega arith }
e_exit (Some t) from = adds.then (e_moves from t.params) (e_leave t.number t.tries)

e_cells : (k : Chunk) (p : Reg) (i : ℕ) (rs : List Reg) → Leaves 0 (cell_stores k p i rs)
e_cells k p i [] = adds.none
e_cells k p i (r ∷ rs) = adds.then (e_operation _ (p ∷ r ∷ []) []) (e_cells k p (suc i) rs)

e_power : (f : IntOp) (k : ℕ) (x y d : Reg) → Leaves 0 (power_code f k x y d)
e_power operator.Div k x y d = record { at = λ next. omega arith }
e_power f k x y d = record { at = λ next. omega arith }

e_operator : (s : OperandShape) (f : IntOp) (x y d : Reg) → Leaves 0 (operator_code s f x y d)
e_operator (PowerRight k) f x y d = e_power f k x y d
e_operator InRegisters f x y d = record { at = λ next. omega arith }
e_operator (ConstantRight i) f x y d = record { at = λ next. omega arith }
e_operator (ConstantLeft i) f x y d = record { at = λ next. omega arith }

e_branch : (t : Test) (l : ℕ) (args : List Reg) → Leaves 0 (λ next. emit.branch t l args ∷ next)
e_branch t l args = e_mark (mark.If t l) args [] refl

e_given : (n : ℕ) (result : Ret) (d : Reg) → Leaves 0 (from_seat n result d)
e_given n ret.Unit d = adds.none
e_given n (ret.Comp c) d = e_move _ d

e_call : (tail valued : Bool) (result : Ret) (o : Option (List ℕ)) (f : Reg) (rs : List Reg) (n : ℕ) (d : Reg) → Leaves 0
    (call_of tail valued result o f rs n d)
e_call true valued result o f rs n d = e_operation _ _ []
e_call false valued result o f rs n d = adds.then (e_operation _ _ _) (e_given n result d)

e_end : (end : ℕ) → Leaves 0 (λ next. bare_mark (mark.End end) ∷ next)
e_end end = e_mark (mark.End end) [] [] refl

mutual
  e_select : (env : List NamedRegister) (labels : List Label) (valued tail : Bool) (d : Reg) (b : ℕ) (e : Expression) → Leaves (values_in e)
      (select env labels valued tail d b e)
  e_select env labels valued tail d b (Integer at w) = adds.up (omega arith) (e_operation _ [] (inner_dest (type_of (scopes env) (Integer at w)) b d ∷ []))
  e_select env labels valued tail d b (Pointer at w) = adds.up (omega arith) (e_operation _ [] (inner_dest (type_of (scopes env) (Pointer at w)) b d ∷ []))
  e_select env labels valued tail d b (Symbol at name) = adds.up (omega arith) (e_operation _ [] (inner_dest (type_of (scopes env) (Symbol at name)) b d ∷ []))
  e_select env labels valued tail d b (Name at x) = adds.up (omega arith) (e_from (reg_of env x) _)
  e_select env labels valued tail d b (Nothing at) = adds.up (omega arith) adds.none
  e_select env labels valued tail d b (Float at word_at operands) = adds.up (omega arith) adds.none
  e_select env labels valued tail d b (Let at bindings body) = adds.up (omega arith)
      (adds.then (e_bound env labels (suc b) bindings) (e_select _ labels _ tail _ _ body))
  e_select env labels valued tail d b (Assign at name_at name e) = adds.up (omega arith)
      (adds.then (e_select env labels false false _ _ e) (e_to _ (reg_of env name)))
  e_select env labels valued tail d b (Operator at op e g) =
      let s = operation_shape op e g in
      adds.up (omega arith)
      (adds.then (adds.in_order (is_left_first (scopes env) e g) (adds.left s (e_select env labels false false _ _ e))
      (adds.right_of s (e_select env labels false false _ _ g))) (e_operator s op _ _ _))
  e_select env labels valued tail d b (App at callee arguments result result_at) =
      let light = is_light_address (scopes env) callee in
      let regs = regs_of env (suc (suc b)) arguments in
      let both = part_both light (values_in callee) in
      let all = in_parts values_in env arguments in
      let sum = sum_total own_values arguments in
      adds.up (omega (arith, both, all, sum))
      (adds.then (e_waiting env labels _ _ arguments)
      (adds.then (adds.when (not light) (values_in callee) (adds.unless (called_symbol callee) (e_select env labels false false _ _ callee)))
      (adds.then (e_filled env labels _ _ arguments)
      (adds.then (adds.when light (values_in callee) (e_select env labels false false _ _ callee))
      (adds.then (e_moves regs _) (e_call tail _ result (called_symbol callee) _ _ _ _))))))
  e_select env labels valued tail d b (Extcall at frame name arguments result result_at) =
      let regs = regs_of env (suc b) arguments in
      let all = in_parts values_in env arguments in
      let sum = sum_total own_values arguments in
      adds.up (omega (arith, all, sum))
      (adds.then (e_waiting env labels _ _ arguments)
      (adds.then (e_filled env labels _ _ arguments)
      (adds.then (e_moves regs _) (adds.then (e_operation _ _ _) (e_given _ result _)))))
  e_select env labels valued tail d b (Seq at elements) = adds.up (omega arith) (e_seq env labels _ tail _ _ elements)
  e_select env labels valued tail d b (If at condition e g) =
      adds.up (omega arith)
      (adds.then (e_test env labels _ _ condition (adds.up (omega arith) (adds.then (e_select env labels false false _ _ condition) (e_branch test.Holds _ _))))
      (adds.then (e_select env labels _ tail _ _ e) (adds.then (e_mark (mark.Else _ _) [] [] refl) (adds.then (e_select env labels _ tail _ _ g) (e_end _)))))
  e_select env labels valued tail d b (Catch at body handlers) =
      adds.up (omega arith)
      (adds.then (e_mark mark.Catch [] [] refl) (adds.then (e_select env _ _ tail _ _ body) (adds.then (e_handlers env _ _ tail _ _ _ _ handlers) (e_end _))))
  e_select env labels valued tail d b (Exit at label_at label arguments) =
      let all = in_parts values_in env arguments in
      let sum = sum_total own_values arguments in
      adds.up (omega (arith, all, sum))
      (adds.then (e_waiting env labels _ _ arguments) (adds.then (e_filled env labels _ _ arguments)
      (e_exit (visible_label labels label) (regs_of env (suc b) arguments))))
  e_select env labels valued tail d b (Alloc at header_at header operands) =
      let p = fresh_register (suc b) ty.Val in
      let q = fresh_register (suc (suc b)) ty.Int in
      let all = in_parts values_in env operands in
      let sum = sum_total own_values operands in
      adds.up (omega (arith, all, sum))
      (adds.then (e_waiting env labels _ _ operands)
      (adds.then (e_operation _ [] (p ∷ []))
      (adds.then (e_operation _ [] (q ∷ []))
      (adds.then (e_operation _ (p ∷ q ∷ []) [])
      (adds.then (e_filled env labels _ _ operands)
      (adds.then (e_cells _ p 0 (regs_of env (suc (suc (suc b))) operands)) (e_move p _)))))))
  e_select env labels valued tail d b (Load at chunk address) =
      adds.up (omega arith)
      (adds.then (e_base env labels _ _ address (e_select env labels false false _ _ address))
      (e_operation _ (fresh_register (suc b) (type_of (scopes env) (base_of address)) ∷ []) (inner_dest (type_of (scopes env) (Load at chunk address)) b d ∷ [])))
  e_select env labels valued tail d b (Store at chunk address e) =
      adds.up (omega arith)
      (adds.then (adds.in_order (is_left_first (scopes env) address e) (e_base env labels _ _ address (e_select env labels false false _ _ address))
      (e_select env labels false false _ _ e))
      (e_operation _ (fresh_register (suc b) (type_of (scopes env) (base_of address)) ∷ fresh_register (suc (suc b)) (type_of (scopes env) e) ∷ []) []))
  e_select env labels valued tail d b (Checkbound at e g) =
      adds.up (omega arith)
      (adds.then (adds.in_order (is_left_first (scopes env) e g) (e_select env labels false false _ _ e)
      (adds.constant (bound_test_operand bound_test g) (e_select env labels false false _ _ g)))
      (e_operation _ _ []))
  e_select env labels valued tail d b (Raise at e) =
      let y = seat 0 (suc (suc b)) comp.Val in
      adds.up (omega arith) (adds.then (e_select env labels false false _ _ e) (adds.then (e_move _ y) (e_operation _ (y ∷ []) [])))
  e_select env labels valued tail d b (Switch at size_at size selector cases) =
      adds.up (omega arith)
      (adds.then (e_select env labels false false _ _ selector)
      (adds.then (e_mark (mark.Switch _) _ [] refl) (adds.then (e_cases env labels _ tail _ _ _ _ _ cases) (e_end _))))
  e_select env labels valued tail d b (Try at body name_at name handler) =
      let y = seat 0 (suc (suc (suc (suc b)))) comp.Val in
      adds.up (omega arith)
      (adds.then (e_mark (mark.Try (suc b)) [] [] refl)
      (adds.then (e_select env (labels_within_try labels) _ false _ _ body)
      (adds.then (e_mark (mark.Leave (suc b) (suc (suc b))) [] [] refl)
      (adds.then (e_mark (mark.Handler (suc b)) [] (y ∷ []) refl) (adds.then (e_move y _) (adds.then (e_select _ labels _ tail _ _ handler) (e_end _)))))))

  e_base : {whole : Code} (env : List NamedRegister) (labels : List Label) (t b : ℕ) (e : Expression) → Leaves (values_in e) whole → Leaves (values_in e)
      (select_base env labels t b e whole)
  e_base env labels t b (Operator at op base (Integer at' w)) inside = adds.either (is_based op w)
      (adds.up (omega arith) (e_select env labels false false (fresh_register t (type_of (scopes env) base)) b base)) inside
  e_base env labels t b e inside = inside

  e_test : {value : Code} (env : List NamedRegister) (labels : List Label) (l b : ℕ) (e : Expression) → Leaves (values_in e) value → Leaves (values_in e)
      (λ next. select_test env labels l b e (value next) next)
  e_test env labels l b (Operator at op e g) v =
      let s = operation_shape op e g in
      adds.fused (comparison (shape_op s op) (shape_right s)) _
      (λ t. adds.up (omega arith)
      (adds.then (adds.in_order (is_left_first (scopes env) e g) (adds.left s (e_select env labels false false _ _ e))
      (adds.right_of s (e_select env labels false false _ _ g))) (e_branch t l (shape_args s _ _))))
      v
  e_test env labels l b e v = v

  e_cases : (env : List NamedRegister) (labels : List Label) (valued tail : Bool) (d : Reg) (all : List ℕ) (end l b : ℕ) (cs : Cases) → Leaves
      (cases_total own_values cs) (select_cases env labels valued tail d all end l b cs)
  e_cases env labels valued tail d all end l b NoCase = adds.up (omega arith) adds.none
  e_cases env labels valued tail d all end l b (Choose indexes body rest) =
      adds.up (omega arith) (adds.then (e_mark (mark.Case _ _ _) [] [] refl) (adds.then (e_select env labels valued tail d b body) (e_cases env labels valued tail d all end _ _ rest)))

  e_waiting : (env : List NamedRegister) (labels : List Label) (b i : ℕ) (es : Expressions) → Leaves (now_of values_in env es) (select_waiting env labels b i es)
  e_waiting env labels b i NoMore = adds.up (omega arith) adds.none
  e_waiting env labels b i (More e rest) =
      adds.up (omega arith) (adds.then (e_waiting env labels _ _ rest) (adds.when (not (is_light_address (scopes env) e)) (values_in e)
      (e_select env labels false false _ i e)))

  e_filled : (env : List NamedRegister) (labels : List Label) (b i : ℕ) (es : Expressions) → Leaves (later_of values_in env es) (select_filled env labels b i es)
  e_filled env labels b i NoMore = adds.up (omega arith) adds.none
  e_filled env labels b i (More e rest) =
      adds.up (omega arith) (adds.then (e_filled env labels _ _ rest) (adds.when (is_light_address (scopes env) e) (values_in e) (e_select env labels false false _ i e)))

  e_bound : (env : List NamedRegister) (labels : List Label) (b : ℕ) (bs : Bindings) → Leaves (bindings_total own_values bs) (select_bound env labels b bs)
  e_bound env labels b NoBinding = adds.up (omega arith) adds.none
  e_bound env labels b (Bind at name declared e rest) = adds.up (omega arith) (adds.then (e_select env labels false false _ _ e) (e_bound _ labels _ rest))

  e_seq : (env : List NamedRegister) (labels : List Label) (valued tail : Bool) (d : Reg) (b : ℕ) (es : Expressions) → Leaves (row_total own_values es)
      (select_seq env labels valued tail d b es)
  e_seq env labels valued tail d b NoMore = adds.up (omega arith) adds.none
  e_seq env labels valued tail d b (More e NoMore) = adds.up (omega arith) (e_select env labels valued tail d (suc b) e)
  e_seq env labels valued tail d b (More e (More g rest)) = adds.up (omega arith)
      (adds.then (e_select env labels false false _ _ e) (e_seq env labels valued tail d _ (More g rest)))

  e_handlers : (env : List NamedRegister) (labels : List Label) (valued tail : Bool) (d : Reg) (end l b : ℕ) (hs : Handlers) → Leaves
      (handlers_total own_values hs) (select_handlers env labels valued tail d end l b hs)
  e_handlers env labels valued tail d end l b NoHandler = adds.up (omega arith) adds.none
  e_handlers env labels valued tail d end l b (Handle at label params body rest) =
      adds.up (omega arith) (adds.then (e_mark (mark.With _ _) [] [] refl) (adds.then (e_select _ labels valued tail d b body) (e_handlers env labels valued tail d end _ _ rest)))

no_exit : (d : Reg) (n : ℕ) (result : Ret) → exit_count (return_code d n result) ≡ 0
no_exit d n ret.Unit = refl
no_exit d n (ret.Comp c) = refl

-- Selected code has no more exits than the text has values.
pub selected_exits : (f : FunctionTree) → exit_count (selected f).code ≤ values_in f.body
selected_exits f =
    let d = fresh_register (value_at f) (body_type f) in
    let whole = adds.then (e_moves (seats 0 first_after_colours (params_of f)) (params_of f))
    (e_select (env_of f) [] (not (is_no_value (body_type f))) true d (suc (suc (value_at f))) f.body) in
    let all = whole.at (return_code d (suc (value_at f)) (result_of (body_type f))) in
    let last = no_exit d (suc (value_at f)) (result_of (body_type f)) in
    omega (arith, all, last)
