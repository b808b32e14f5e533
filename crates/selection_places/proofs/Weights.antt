-- How long selected code is, by the width of a tree.
use Rattle.std.proofs.Common.{ℕ, suc, ◌+◌, ◌*◌, ◌≤◌, length, Bool, true, false, not, List, [], ◌∷◌, ◌++◌, Option, Some, None, arith}
use Rattle.bs_words.specs.declared.operators.IntOp.{IntOp}
use Rattle.bs_words.specs.declared.operators.IntOp.TheVariants as operator
use Rattle.bs_words.specs.declared.types.Chunk.{Chunk}
use Rattle.bs_words.specs.declared.types.Comp.{Comp}
use Rattle.bs_words.specs.declared.types.Comp.TheVariants as comp
use Rattle.bs_words.specs.declared.types.Ret.{Ret}
use Rattle.bs_words.specs.declared.types.Ty.TheVariants as ty
use Rattle.bs_words.specs.declared.types.Ret.TheVariants as ret
use Rattle.cmm_tree.specs.Tree.{FunctionTree, Expression, Integer, Pointer, Symbol, Name, Nothing, Float, Let, Assign, Operator, Load, Store, Alloc, App, Extcall, Checkbound, Raise, Seq, If, Switch, Catch, Exit, Try, Expressions, NoMore, More, Bindings, NoBinding, Bind, Cases, NoCase, Choose, Handlers, NoHandler, Handle}
use Rattle.cmm_types.specs.Light.{is_light_address}
use Rattle.cmm_types.specs.Types.{result_of, body_type, type_of}
use Rattle.cmm_meaning.specs.Evaluation.{is_left_first}
use Rattle.mach_ir.specs.Sizes.{operand_count}
use Rattle.mach_ir.specs.declared.mach.Instr.{Instr}
use Rattle.mach_ir.specs.declared.mach.Mark.{Mark}
use Rattle.mach_ir.specs.declared.mach.Mark.TheVariants as mark
use Rattle.mach_ir.specs.declared.mach.MachOp.TheVariants as mach
use Rattle.mach_ir.specs.declared.mach.Test.{Test}
use Rattle.mach_ir.specs.declared.mach.Test.TheVariants as test
use Rattle.mach_ir.specs.declared.op.Op.{Op}
use Rattle.mach_ir.specs.declared.op.Right.{Right}
use Rattle.mach_ir.specs.declared.op.Right.TheVariants as right
use Rattle.mach_ir.specs.declared.reg.Reg.{Reg}
use Rattle.selection_rules.specs.Instructions.{bare_mark}
use Rattle.selection_rules.specs.Instructions as emit
use Rattle.selection_rules.specs.Select.{Code, OperandShape, InRegisters, ConstantRight, ConstantLeft, PowerRight, operation_shape, shape_op, shape_right, shape_args, power_code, operator_code, NamedRegister, Label, scopes, reg_of, visible_label, move_from, move_to, moves_all, exit_to_handler, only_when, from_seat, called_symbol, callee_regs, bound_test_operand, bound_test, comparison, select_test, is_based, base_of, inner_dest, seat, select_base, call_of, count_cases, regs_of, width, width_row, width_bound, width_cases, width_handlers, width_labels, select, select_waiting, select_filled, select_bound, select_seq, select_cases, select_handlers, labels_within_try, cell_stores, return_code, selected, first_after_colours, is_no_value, fresh_register, seats, result_seat}
use Rattle.cmm_tree.specs.Measures.{count_of}
use Rattle.selection_places.proofs.Adds as adds
use Rattle.selection_places.proofs.Adds.{Adds, part, part_both, now_of, later_of, in_parts}
use Rattle.selection_rules.proofs.Once.{row_width}
use Rattle.selection_rules.proofs.Rows.{regs_length, seats_length, result_few}
use Rattle.selection_rules.proofs.Exits.{params_length}
use Rattle.selection_places.proofs.Whole.{moved_at, value_at, params_of, env_of}

-- instructions, operands and results together
abbrev pub weight : List Instr → ℕ
weight [] = 0
weight (i ∷ is) = suc (length i.args + length i.results + weight is)

pub instrs_weigh : (code : List Instr) → length code ≤ weight code
instrs_weigh [] = omega arith
instrs_weigh (i ∷ is) = let others = instrs_weigh is in omega (arith, others)

pub operands_weigh : (code : List Instr) → operand_count code ≤ weight code
operands_weigh [] = omega arith
operands_weigh (i ∷ is) = let others = operands_weigh is in omega (arith, others)

-- code that weighs no more than so much
abbrev Weighs : ℕ → Code → Type 0
Weighs n code = Adds weight n code

w_operation : (f : Op) (args results : List Reg) → Weighs (suc (length args + length results)) (λ next. emit.operation_instr f args results ∷ next)
w_operation f args results = record { at = λ next. omega arith }

w_mark : (f : Mark) (args results : List Reg) → Weighs (suc (length args + length results))
    (λ next. record { op = mach.Mark f; args = args; results = results } ∷ next)
w_mark f args results = record { at = λ next. omega arith }

w_bare : (f : Mark) → Weighs 1 (λ next. bare_mark f ∷ next)
w_bare f = record { at = λ next. omega arith }

w_move : (a d : Reg) → Weighs 3 (λ next. emit.move a d ∷ next)
w_move a d = record { at = λ next. omega arith }

w_from : (o : Option Reg) (d : Reg) → Weighs 3 (move_from o d)
w_from None d = record { at = λ next. omega arith }
w_from (Some a) d = record { at = λ next. omega arith }

w_to : (a : Reg) (o : Option Reg) → Weighs 3 (move_to a o)
w_to a None = record { at = λ next. omega arith }
w_to a (Some d) = record { at = λ next. omega arith }

w_moves : (from to : List Reg) → Weighs (3 * length from) (moves_all from to)
w_moves [] to = record { at = λ next. omega arith }
w_moves (a ∷ from) [] = record { at = λ next. omega arith }
w_moves (a ∷ from) (d ∷ to) = record { at = λ next. let others = (w_moves from to).at (emit.move a d ∷ next) in omega (arith, others) }

w_exit : (o : Option Label) (from : List Reg) → Weighs (3 * length from + 1) (exit_to_handler o from)
w_exit None from = record { at = λ next. omega arith }
w_exit (Some t) from = adds.then (w_moves from t.params) (w_bare _)

w_cells : (k : Chunk) (p : Reg) (i : ℕ) (rs : List Reg) → Weighs (3 * length rs) (cell_stores k p i rs)
w_cells k p i [] = record { at = λ next. omega arith }
w_cells k p i (r ∷ rs) = record { at = λ next. let others = (w_cells k p (suc i) rs).at next in omega (arith, others) }

w_when : {code : Code} (b : Bool) (n : ℕ) → Weighs (8 * n) code → Weighs (8 * part b n) (only_when b code)
w_when true n e = e
w_when false n e = adds.up (omega arith) adds.none

w_power : (f : IntOp) (k : ℕ) (x y d : Reg) → Weighs 20 (power_code f k x y d)
w_power operator.Div k x y d = record { at = λ next. omega arith }
w_power f k x y d = record { at = λ next. omega arith }

w_operator : (s : OperandShape) (f : IntOp) (x y d : Reg) → Weighs 20 (operator_code s f x y d)
w_operator (PowerRight k) f x y d = w_power f k x y d
w_operator InRegisters f x y d = record { at = λ next. omega arith }
w_operator (ConstantRight i) f x y d = record { at = λ next. omega arith }
w_operator (ConstantLeft i) f x y d = record { at = λ next. omega arith }

w_branch : (t : Test) (l : ℕ) (s : OperandShape) (x y : Reg) → Weighs 3 (λ next. emit.branch t l (shape_args s x y) ∷ next)
w_branch t l InRegisters x y = record { at = λ next. omega arith }
w_branch t l (ConstantRight i) x y = record { at = λ next. omega arith }
w_branch t l (ConstantLeft i) x y = record { at = λ next. omega arith }
w_branch t l (PowerRight k) x y = record { at = λ next. omega arith }

w_checkbound : (r : Right) (x y : Reg) → Weighs 3 (λ next. emit.checkbound_instr r x y ∷ next)
w_checkbound right.Register x y = record { at = λ next. omega arith }
w_checkbound (right.Constant w) x y = record { at = λ next. omega arith }

w_given : (n : ℕ) (result : Ret) (d : Reg) → Weighs 3 (from_seat n result d)
w_given n ret.Unit d = record { at = λ next. omega arith }
w_given n (ret.Comp c) d = record { at = λ next. omega arith }

callee_few : (o : Option (List ℕ)) (f : Reg) (rs : List Reg) → length (callee_regs o f ++ rs) ≤ suc (length rs)
callee_few (Some name) f rs = omega arith
callee_few None f rs = omega arith

w_call : (tail valued : Bool) (result : Ret) (o : Option (List ℕ)) (f : Reg) (rs : List Reg) (n : ℕ) (d : Reg) → Weighs (6 + length rs)
    (call_of tail valued result o f rs n d)
w_call true valued result o f rs n d = record { at = λ next. let few = callee_few o f rs in omega (arith, few) }
w_call false valued result o f rs n d = record {
  at = λ next. let few = callee_few o f rs in let one = result_few n result in let last =
      (w_given n result d).at next in omega (arith, few, one, last);
}

w_external : (name : List ℕ) (comps : List Comp) (result : Ret) (frame : Bool) (rs : List Reg) (n : ℕ) (d : Reg) → Weighs (6 + length rs)
    (λ next. emit.external_instruction name comps result frame rs (result_seat n result) ∷ from_seat n result d next)
w_external name comps result frame rs n d = record {
  at = λ next. let one = result_few n result in let last = (w_given n result d).at next in omega
      (arith, one, last);
}

mutual
  w_select : (env : List NamedRegister) (labels : List Label) (valued tail : Bool) (d : Reg) (b : ℕ) (e : Expression) → Weighs (8 * width e)
      (select env labels valued tail d b e)
  w_select env labels valued tail d b (Integer at w) = adds.up (omega arith) (w_operation _ [] (inner_dest (type_of (scopes env) (Integer at w)) b d ∷ []))
  w_select env labels valued tail d b (Pointer at w) = adds.up (omega arith) (w_operation _ [] (inner_dest (type_of (scopes env) (Pointer at w)) b d ∷ []))
  w_select env labels valued tail d b (Symbol at name) = adds.up (omega arith) (w_operation _ [] (inner_dest (type_of (scopes env) (Symbol at name)) b d ∷ []))
  w_select env labels valued tail d b (Name at x) = adds.up (omega arith) (w_from (reg_of env x) _)
  w_select env labels valued tail d b (Nothing at) = adds.up (omega arith) adds.none
  w_select env labels valued tail d b (Float at word_at operands) = adds.up (omega arith) adds.none
  w_select env labels valued tail d b (Let at bindings body) = adds.up (omega arith)
      (adds.then (w_bound env labels (suc b) bindings) (w_select _ labels _ tail _ _ body))
  w_select env labels valued tail d b (Assign at name_at name e) = adds.up (omega arith)
      (adds.then (w_select env labels false false _ _ e) (w_to _ (reg_of env name)))
  w_select env labels valued tail d b (Operator at op e g) =
      let s = operation_shape op e g in
      adds.up (omega arith)
      (adds.then (adds.in_order (is_left_first (scopes env) e g) (adds.left s (w_select env labels false false _ _ e))
      (adds.right_of s (w_select env labels false false _ _ g))) (w_operator s op _ _ _))
  w_select env labels valued tail d b (App at callee arguments result result_at) =
      let light = is_light_address (scopes env) callee in
      let regs = regs_of env (suc (suc b)) arguments in
      let both = part_both light (width callee) in
      let all = in_parts width env arguments in
      let sum = row_width arguments in
      let count = regs_length env (suc (suc b)) arguments in
      let seated = seats_length 0 (suc (suc b) + count_of arguments) regs in
      adds.up (omega (arith, both, all, sum, count, seated))
      (adds.then (w_waiting env labels _ _ arguments)
      (adds.then (w_when (not light) (width callee) (adds.unless (called_symbol callee) (w_select env labels false false _ _ callee)))
      (adds.then (w_filled env labels _ _ arguments)
      (adds.then (w_when light (width callee) (w_select env labels false false _ _ callee))
      (adds.then (w_moves regs _) (w_call tail _ result (called_symbol callee) _ (seats 0 (suc (suc b) + count_of arguments) regs) _ _))))))
  w_select env labels valued tail d b (Extcall at frame name arguments result result_at) =
      let regs = regs_of env (suc b) arguments in
      let all = in_parts width env arguments in
      let sum = row_width arguments in
      let count = regs_length env (suc b) arguments in
      let seated = seats_length 0 (suc b + count_of arguments) regs in
      adds.up (omega (arith, all, sum, count, seated))
      (adds.then (w_waiting env labels _ _ arguments)
      (adds.then (w_filled env labels _ _ arguments)
      (adds.then (w_moves regs _) (w_external name _ result frame (seats 0 (suc b + count_of arguments) regs) _ _))))
  w_select env labels valued tail d b (Seq at elements) = adds.up (omega arith) (w_seq env labels _ tail _ _ elements)
  w_select env labels valued tail d b (If at condition e g) =
      adds.up (omega arith)
      (adds.then (w_test env labels _ _ condition (adds.then (w_select env labels false false _ _ condition)
      (adds.up (omega arith) (w_mark (mark.If test.Holds (suc (suc b))) (fresh_register (suc b) (type_of (scopes env) condition) ∷ []) []))))
      (adds.then (w_select env labels _ tail _ _ e) (adds.then (w_bare _) (adds.then (w_select env labels _ tail _ _ g) (w_bare _)))))
  w_select env labels valued tail d b (Catch at body handlers) =
      adds.up (omega arith) (adds.then (w_bare _) (adds.then (w_select env _ _ tail _ _ body) (adds.then (w_handlers env _ _ tail _ _ _ _ handlers) (w_bare _))))
  w_select env labels valued tail d b (Exit at label_at label arguments) =
      let all = in_parts width env arguments in
      let sum = row_width arguments in
      let count = regs_length env (suc b) arguments in
      adds.up (omega (arith, all, sum, count))
      (adds.then (w_waiting env labels _ _ arguments) (adds.then (w_filled env labels _ _ arguments)
      (w_exit (visible_label labels label) (regs_of env (suc b) arguments))))
  w_select env labels valued tail d b (Alloc at header_at header operands) =
      let p = fresh_register (suc b) ty.Val in
      let q = fresh_register (suc (suc b)) ty.Int in
      let all = in_parts width env operands in
      let sum = row_width operands in
      let count = regs_length env (suc (suc (suc b))) operands in
      adds.up (omega (arith, all, sum, count))
      (adds.then (w_waiting env labels _ _ operands)
      (adds.then (w_operation _ [] (p ∷ []))
      (adds.then (w_operation _ [] (q ∷ []))
      (adds.then (w_operation _ (p ∷ q ∷ []) [])
      (adds.then (w_filled env labels _ _ operands)
      (adds.then (w_cells _ p 0 (regs_of env (suc (suc (suc b))) operands)) (w_move p _)))))))
  w_select env labels valued tail d b (Load at chunk address) =
      adds.up (omega arith)
      (adds.then (w_base env labels _ _ address (w_select env labels false false _ _ address))
      (w_operation _ (fresh_register (suc b) (type_of (scopes env) (base_of address)) ∷ []) (inner_dest (type_of (scopes env) (Load at chunk address)) b d ∷ [])))
  w_select env labels valued tail d b (Store at chunk address e) =
      adds.up (omega arith)
      (adds.then (adds.in_order (is_left_first (scopes env) address e) (w_base env labels _ _ address (w_select env labels false false _ _ address))
      (w_select env labels false false _ _ e))
      (w_operation _ (fresh_register (suc b) (type_of (scopes env) (base_of address)) ∷ fresh_register (suc (suc b)) (type_of (scopes env) e) ∷ []) []))
  w_select env labels valued tail d b (Checkbound at e g) =
      adds.up (omega arith)
      (adds.then (adds.in_order (is_left_first (scopes env) e g) (w_select env labels false false _ _ e)
      (adds.constant (bound_test_operand bound_test g) (w_select env labels false false _ _ g)))
      (w_checkbound (bound_test_operand bound_test g) _ _))
  w_select env labels valued tail d b (Raise at e) =
      let y = seat 0 (suc (suc b)) comp.Val in
      adds.up (omega arith) (adds.then (w_select env labels false false _ _ e) (adds.then (w_move _ y) (w_operation _ (y ∷ []) [])))
  w_select env labels valued tail d b (Switch at size_at size selector cases) =
      adds.up (omega arith)
      (adds.then (w_select env labels false false _ _ selector)
      (adds.then (w_mark _ (fresh_register (suc b) (type_of (scopes env) selector) ∷ []) []) (adds.then (w_cases env labels _ tail _ _ _ _ _ cases) (w_bare _))))
  w_select env labels valued tail d b (Try at body name_at name handler) =
      let y = seat 0 (suc (suc (suc (suc b)))) comp.Val in
      adds.up (omega arith)
      (adds.then (w_bare _)
      (adds.then (w_select env (labels_within_try labels) _ false _ _ body)
      (adds.then (w_bare _) (adds.then (w_mark _ [] (y ∷ [])) (adds.then (w_move y _) (adds.then (w_select _ labels _ tail _ _ handler) (w_bare _)))))))

  w_base : {whole : Code} (env : List NamedRegister) (labels : List Label) (t b : ℕ) (e : Expression) → Weighs (8 * width e) whole → Weighs (8 * width e)
      (select_base env labels t b e whole)
  w_base env labels t b (Operator at op base (Integer at' w)) inside = adds.either (is_based op w)
      (adds.up (omega arith) (w_select env labels false false (fresh_register t (type_of (scopes env) base)) b base)) inside
  w_base env labels t b e inside = inside

  w_test : {value : Code} (env : List NamedRegister) (labels : List Label) (l b : ℕ) (e : Expression) → Weighs (8 * width e + 3) value → Weighs (8 * width e + 3)
      (λ next. select_test env labels l b e (value next) next)
  w_test env labels l b (Operator at op e g) v =
      let s = operation_shape op e g in
      adds.fused (comparison (shape_op s op) (shape_right s)) _
      (λ t. adds.up (omega arith)
      (adds.then (adds.in_order (is_left_first (scopes env) e g) (adds.left s (w_select env labels false false _ _ e))
      (adds.right_of s (w_select env labels false false _ _ g))) (w_branch t l s _ _)))
      v
  w_test env labels l b e v = v

  w_cases : (env : List NamedRegister) (labels : List Label) (valued tail : Bool) (d : Reg) (all : List ℕ) (end l b : ℕ) (cs : Cases) → Weighs
      (8 * (width_cases cs + count_cases cs)) (select_cases env labels valued tail d all end l b cs)
  w_cases env labels valued tail d all end l b NoCase = adds.up (omega arith) adds.none
  w_cases env labels valued tail d all end l b (Choose indexes body rest) =
      adds.up (omega arith) (adds.then (w_bare _) (adds.then (w_select env labels valued tail d b body) (w_cases env labels valued tail d all end _ _ rest)))

  w_waiting : (env : List NamedRegister) (labels : List Label) (b i : ℕ) (es : Expressions) → Weighs (8 * now_of width env es) (select_waiting env labels b i es)
  w_waiting env labels b i NoMore = adds.up (omega arith) adds.none
  w_waiting env labels b i (More e rest) =
      adds.up (omega arith) (adds.then (w_waiting env labels _ _ rest) (w_when (not (is_light_address (scopes env) e)) (width e)
      (w_select env labels false false _ i e)))

  w_filled : (env : List NamedRegister) (labels : List Label) (b i : ℕ) (es : Expressions) → Weighs (8 * later_of width env es) (select_filled env labels b i es)
  w_filled env labels b i NoMore = adds.up (omega arith) adds.none
  w_filled env labels b i (More e rest) =
      adds.up (omega arith) (adds.then (w_filled env labels _ _ rest) (w_when (is_light_address (scopes env) e) (width e) (w_select env labels false false _ i e)))

  w_bound : (env : List NamedRegister) (labels : List Label) (b : ℕ) (bs : Bindings) → Weighs (8 * width_bound bs) (select_bound env labels b bs)
  w_bound env labels b NoBinding = adds.up (omega arith) adds.none
  w_bound env labels b (Bind at name declared e rest) = adds.up (omega arith) (adds.then (w_select env labels false false _ _ e) (w_bound _ labels _ rest))

  w_seq : (env : List NamedRegister) (labels : List Label) (valued tail : Bool) (d : Reg) (b : ℕ) (es : Expressions) → Weighs (8 * width_row es)
      (select_seq env labels valued tail d b es)
  w_seq env labels valued tail d b NoMore = adds.up (omega arith) adds.none
  w_seq env labels valued tail d b (More e NoMore) = adds.up (omega arith) (w_select env labels valued tail d (suc b) e)
  w_seq env labels valued tail d b (More e (More g rest)) = adds.up (omega arith)
      (adds.then (w_select env labels false false _ _ e) (w_seq env labels valued tail d _ (More g rest)))

  w_handlers : (env : List NamedRegister) (labels : List Label) (valued tail : Bool) (d : Reg) (end l b : ℕ) (hs : Handlers) → Weighs
      (8 * (width_handlers hs + width_labels hs)) (select_handlers env labels valued tail d end l b hs)
  w_handlers env labels valued tail d end l b NoHandler = adds.up (omega arith) adds.none
  w_handlers env labels valued tail d end l b (Handle at label params body rest) =
      adds.up (omega arith) (adds.then (w_bare _) (adds.then (w_select _ labels valued tail d b body) (w_handlers env labels valued tail d end _ _ rest)))

w_returns : (d : Reg) (n : ℕ) (result : Ret) → weight (return_code d n result) ≤ 5
w_returns d n ret.Unit = omega arith
w_returns d n (ret.Comp c) = omega arith

-- Instructions, operands and results of selected code together.
pub selected_weight : (f : FunctionTree) → weight (selected f).code ≤ 8 * width f.body + 3 * length f.params + 5
selected_weight f =
    let d = fresh_register (value_at f) (body_type f) in
    let whole = adds.then (w_moves (seats 0 first_after_colours (params_of f)) (params_of f))
    (w_select (env_of f) [] (not (is_no_value (body_type f))) true d (suc (suc (value_at f))) f.body) in
    let all = whole.at (return_code d (suc (value_at f)) (result_of (body_type f))) in
    let last = w_returns d (suc (value_at f)) (result_of (body_type f)) in
    let seated = seats_length 0 first_after_colours (params_of f) in
    let count = params_length (moved_at f) f.params in
    omega (arith, all, last, seated, count)
