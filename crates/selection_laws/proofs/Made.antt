-- Each instruction of selected code is one that selection makes.
use Rattle.std.proofs.Common.{ℕ, suc, ◌+◌, length, Bool, true, false, not, cond, List, [], ◌∷◌, Option, Some, None}
use Rattle.bs_words.specs.declared.operators.IntOp.{IntOp}
use Rattle.bs_words.specs.declared.operators.IntOp.TheVariants as operator
use Rattle.bs_words.specs.declared.types.Chunk.{Chunk}
use Rattle.bs_words.specs.declared.types.Comp.{Comp}
use Rattle.bs_words.specs.declared.types.Ret.{Ret}
use Rattle.bs_words.specs.declared.types.Ret.TheVariants as ret
use Rattle.bs_words.specs.declared.types.Ty.{Ty}
use Rattle.cmm_tree.specs.Tree.{FunctionTree, Expression, Integer, Pointer, Symbol, Name, Nothing, Float, Let, Assign, Operator, Load, Store, Alloc, App, Extcall, Checkbound, Raise, Seq, If, Switch, Catch, Exit, Try, Expressions, NoMore, More, Bindings, NoBinding, Bind, Cases, NoCase, Choose, Handlers, NoHandler, Handle}
use Rattle.cmm_types.specs.Light.{is_light_address}
use Rattle.cmm_types.specs.Types.{result_of, body_type}
use Rattle.cmm_meaning.specs.Evaluation.{is_left_first}
use Rattle.mach_ir.specs.Walks.{StandsAsInstr, here, below}
use Rattle.mach_ir.specs.declared.blocks.NewBlock.{NewBlock}
use Rattle.mach_ir.specs.declared.mach.Instr.{Instr}
use Rattle.mach_ir.specs.declared.mach.Mark.TheVariants as mark
use Rattle.mach_ir.specs.declared.mach.Test.{Test}
use Rattle.mach_ir.specs.declared.op.Callee.{Callee}
use Rattle.mach_ir.specs.declared.op.Right.{Right}
use Rattle.mach_ir.specs.declared.reg.Reg.{Reg}
use Rattle.selection_rules.specs.Instructions.{bare_mark}
use Rattle.selection_rules.specs.Instructions as emit
use Rattle.selection_rules.specs.Select.{Code, OperandShape, InRegisters, ConstantRight, ConstantLeft, PowerRight, rounded, power_code, operator_code, operation_shape, shape_op, shape_right, unless_left, unless_right, NamedRegister, Label, scopes, reg_of, visible_label, move_from, move_to, moves_all, exit_to_handler, ordered, only_when, from_seat, called_symbol, unless_symbol, bound_test_operand, unless_constant, bound_test, comparison, fused_test, select_test, is_based, select_base, call_of, regs_of, select, select_waiting, select_filled, select_bound, select_seq, select_cases, select_handlers, labels_within_try, cell_stores, to_seat, selected, first_after_colours, params_from, with_params, is_no_value, fresh_register, seats, result_seat}
use Rattle.selection_rules.proofs.Choices.{kept_when, kept_unless, kept_constant, kept_left, kept_right, kept_ordered, kept_if}

-- what selection makes
pub data Made : Instr → Type 0 where
  a_move : {a d : Reg} → Made (emit.move a d)
  a_constant : {w : ℕ} {d : Reg} → Made (emit.constant w d)
  a_symbol : {name : List ℕ} {d : Reg} → Made (emit.symbol name d)
  an_operator : {f : IntOp} {r : Right} {args : List Reg} {d : Reg} → Made (emit.operator f r args d)
  a_load : {k : Chunk} {offset : ℕ} {x d : Reg} → Made (emit.load k offset x d)
  a_store : {k : Chunk} {offset : ℕ} {x y : Reg} → Made (emit.store k offset x y)
  an_alloc : {block : NewBlock} {d : Reg} → Made (emit.alloc block d)
  a_call : {whom : Callee} {result : Ret} {args results : List Reg} → Made (emit.call whom result args results)
  a_tail_call : {whom : Callee} {result : Ret} {args : List Reg} → Made (emit.tail_call whom result args)
  an_external : {name : List ℕ} {comps : List Comp} {result : Ret} {frame : Bool} {args results : List Reg} → Made (emit.external_instruction name comps result frame args results)
  a_checkbound : {r : Right} {x : Reg} (y : Reg) → Made (emit.checkbound_instr r x y)
  a_raise : {x : Reg} → Made (emit.raising x)
  a_return : {values : List Reg} → Made (emit.give_back values)
  a_branch : {t : Test} {l : ℕ} {args : List Reg} → Made (emit.branch t l args)
  a_choice : {labels : List ℕ} {x : Reg} → Made (emit.choose labels x)
  a_handler : {l : ℕ} {x : Reg} → Made (emit.handler l x)
  an_exit : {l n : ℕ} → Made (bare_mark (mark.Exit l n))
  an_else : {l end : ℕ} → Made (bare_mark (mark.Else l end))
  a_case : {indexes : List ℕ} {l end : ℕ} → Made (bare_mark (mark.Case indexes l end))
  a_catch : Made (bare_mark mark.Catch)
  a_with : {l end : ℕ} → Made (bare_mark (mark.With l end))
  a_try : {l : ℕ} → Made (bare_mark (mark.Try l))
  a_leave : {l end : ℕ} → Made (bare_mark (mark.Leave l end))
  an_end : {l : ℕ} → Made (bare_mark (mark.End l))

pub data AllMade : List Instr → Type 0 where
  none : AllMade []
  one : {i : Instr} {next : List Instr} → Made i → AllMade next → AllMade (i ∷ next)

pub made_of : {i : Instr} {next code : List Instr} → AllMade code → StandsAsInstr i next code → Made i
made_of none s = elim s [ ]
made_of (one x xs) here = x
made_of (one x xs) (below s) = made_of xs s

abbrev Makes : Code → Type 0
Makes code = (next : List Instr) → AllMade next → AllMade (code next)

made_from : (o : Option Reg) (d : Reg) → Makes (move_from o d)
made_from None d next z = z
made_from (Some a) d next z = one a_move z

made_to : (a : Reg) (o : Option Reg) → Makes (move_to a o)
made_to a None next z = z
made_to a (Some d) next z = one a_move z

made_moves : (from to : List Reg) → Makes (moves_all from to)
made_moves [] to next z = z
made_moves (a ∷ from) [] next z = z
made_moves (a ∷ from) (d ∷ to) next z = made_moves from to (emit.move a d ∷ next) (one a_move z)

made_exit : (o : Option Label) (from : List Reg) → Makes (exit_to_handler o from)
made_exit None from next z = z
made_exit (Some t) from next z = made_moves from t.params _ (one an_exit z)

made_ordered : (b : Bool) (left right : Code) → Makes left → Makes right → Makes (ordered b left right)
made_ordered b left right l r = kept_ordered Makes (λ x y l r next z. l (y next) (r next z)) {x = left} {y = right} b l r

made_when : (b : Bool) (code : Code) → Makes code → Makes (only_when b code)
made_when b code e = kept_when Makes (λ next z. z) {x = code} b e

made_cells : (k : Chunk) (p : Reg) (i : ℕ) (rs : List Reg) → Makes (cell_stores k p i rs)
made_cells k p i [] next z = z
made_cells k p i (r ∷ rs) next z = one a_store (made_cells k p (suc i) rs next z)

made_constant : (r : Right) (code : Code) → Makes code → Makes (unless_constant r code)
made_constant r code e = kept_constant Makes (λ next z. z) {x = code} r e

made_tested : (o : Option Test) (fused : Test → List Instr) (value : List Instr) → ((t : Test) → AllMade (fused t)) → AllMade value → AllMade (fused_test o fused value)
made_tested (Some t) fused value f v = f t
made_tested None fused value f v = v

made_if : (q : Bool) (a b : Code) → Makes a → Makes b → (next : List Instr) → AllMade next → AllMade (cond q (a next) (b next))
made_if q a b f g = kept_if Makes {x = a} {y = b} q f g

made_left : (s : OperandShape) (code : Code) → Makes code → Makes (unless_left s code)
made_left s code e = kept_left Makes (λ next z. z) {x = code} s e

made_right : (s : OperandShape) (code : Code) → Makes code → Makes (unless_right s code)
made_right s code e = kept_right Makes (λ next z. z) {x = code} s e

made_rounded : (k : ℕ) (x y : Reg) → Makes (rounded k x y)
made_rounded k x y next z = one an_operator (one an_operator (one an_operator z))

made_power : (op : IntOp) (k : ℕ) (x y d : Reg) → Makes (power_code op k x y d)
made_power operator.Div k x y d next z = made_rounded k x y _ (one an_operator z)
made_power op k x y d next z = made_rounded k x y _ (one an_operator (one an_operator (one an_operator z)))

made_operator : (s : OperandShape) (op : IntOp) (x y d : Reg) → Makes (operator_code s op x y d)
made_operator InRegisters op x y d next z = one an_operator z
made_operator (ConstantRight i) op x y d next z = one an_operator z
made_operator (ConstantLeft i) op x y d next z = one an_operator z
made_operator (PowerRight k) op x y d next z = made_power op k x y d next z

made_unless : (o : Option (List ℕ)) (code : Code) → Makes code → Makes (unless_symbol o code)
made_unless o code e = kept_unless Makes (λ next z. z) {x = code} o e

made_from_seat : (n : ℕ) (result : Ret) (d : Reg) → Makes (from_seat n result d)
made_from_seat n ret.Unit d next z = z
made_from_seat n (ret.Comp c) d next z = one a_move z

made_call : (tail valued : Bool) (result : Ret) (o : Option (List ℕ)) (f : Reg) (regs : List Reg) (n : ℕ) (d : Reg) → Makes (call_of tail valued result o f regs n d)
made_call true valued result o f regs n d next z = one a_tail_call z
made_call false valued result o f regs n d next z = one a_call (made_from_seat n result d next z)

mutual
  pub made_select : (env : List NamedRegister) (labels : List Label) (valued tail : Bool) (d : Reg) (b : ℕ) (e : Expression) → Makes (select env labels valued tail d b e)
  made_select env labels valued tail d b (Integer at w) next z = one a_constant z
  made_select env labels valued tail d b (Pointer at w) next z = one a_constant z
  made_select env labels valued tail d b (Symbol at name) next z = one a_symbol z
  made_select env labels valued tail d b (Name at x) next z = made_from (reg_of env x) _ next z
  made_select env labels valued tail d b (Nothing at) next z = z
  made_select env labels valued tail d b (Float at word_at operands) next z = z
  made_select env labels valued tail d b (Let at bindings body) next z = made_bound env labels (suc b) bindings _ (made_select _ labels _ tail _ _ body next z)
  made_select env labels valued tail d b (Assign at name_at name e) next z = made_select env labels false false _ _ e _ (made_to _ (reg_of env name) next z)
  made_select env labels valued tail d b (Operator at op left right) next z =
      let s = operation_shape op left right in
      made_ordered (is_left_first (scopes env) left right) _ _ (made_left s _ (made_select env labels false false _ _ left)) (made_right s _ (made_select env labels false false _ _ right)) _ (made_operator s op _ _ _ next z)
  made_select env labels valued tail d b (App at callee arguments result result_at) next z =
      let light = is_light_address (scopes env) callee in
      let made = made_select env labels false false _ _ callee in
      made_waiting env labels _ _ arguments _
      (made_when (not light) _ (made_unless (called_symbol callee) _ made) _
      (made_filled env labels _ _ arguments _
      (made_when light _ made _
      (made_moves (regs_of env (suc (suc b)) arguments) _ _
      (made_call tail _ _ _ _ _ _ _ next z)))))
  made_select env labels valued tail d b (Extcall at frame name arguments result result_at) next z =
      made_waiting env labels _ _ arguments _ (made_filled env labels _ _ arguments _ (made_moves (regs_of env (suc b) arguments) _ _ (one an_external (made_from_seat _ result _ next z))))
  made_select env labels valued tail d b (Seq at elements) next z = made_seq env labels _ tail _ _ elements next z
  made_select env labels valued tail d b (If at condition on_true on_false) next z =
      let others = one an_else (made_select env labels _ tail _ _ on_false _ (one an_end z)) in
      let both = made_select env labels _ tail _ _ on_true _ others in
      made_test env labels _ _ condition _ _ (made_select env labels false false _ _ condition _ (one a_branch both)) both
  made_select env labels valued tail d b (Catch at body handlers) next z = one a_catch (made_select env _ _ tail _ _ body _ (made_handlers env _ _ tail _ _ _ _ handlers _ (one an_end z)))
  made_select env labels valued tail d b (Exit at label_at label arguments) next z = made_waiting env labels _ _ arguments _ (made_filled env labels _ _ arguments _ (made_exit (visible_label labels label) _ next z))
  made_select env labels valued tail d b (Alloc at header_at header operands) next z =
      made_waiting env labels _ _ operands _
      (one an_alloc (one a_constant (one a_store
      (made_filled env labels _ _ operands _ (made_cells _ _ 0 (regs_of env (suc (suc (suc b))) operands) _ (one a_move z))))))
  made_select env labels valued tail d b (Load at chunk address) next z = made_base env labels _ _ address _ (made_select env labels false false _ _ address) _ (one a_load z)
  made_select env labels valued tail d b (Store at chunk address e) next z =
      made_ordered (is_left_first (scopes env) address e) _ _ (made_base env labels _ _ address _ (made_select env labels false false _ _ address)) (made_select env labels false false _ _ e) _ (one a_store z)
  made_select env labels valued tail d b (Checkbound at bound index) next z =
      made_ordered (is_left_first (scopes env) bound index) _ _ (made_select env labels false false _ _ bound) (made_constant (bound_test_operand bound_test index) _ (made_select env labels false false _ _ index)) _ (one (a_checkbound _) z)
  made_select env labels valued tail d b (Raise at e) next z = made_select env labels false false _ _ e _ (one a_move (one a_raise z))
  made_select env labels valued tail d b (Switch at size_at size selector cases) next z =
      made_select env labels false false _ _ selector _ (one a_choice (made_cases env labels _ tail _ _ _ _ _ cases _ (one an_end z)))
  made_select env labels valued tail d b (Try at body name_at name handler) next z =
      one a_try (made_select env (labels_within_try labels) _ false _ _ body _ (one a_leave (one a_handler (one a_move (made_select _ labels _ tail _ _ handler _ (one an_end z))))))

  made_base : (env : List NamedRegister) (labels : List Label) (t b : ℕ) (e : Expression) (whole : Code) → Makes whole → Makes (select_base env labels t b e whole)
  made_base env labels t b (Operator at op base (Integer at' w)) whole inside next z = made_if (is_based op w) _ whole (made_select env labels false false _ _ base) inside next z
  made_base env labels t b e whole inside next z = inside next z

  made_test : (env : List NamedRegister) (labels : List Label) (l b : ℕ) (e : Expression) (value next : List Instr) → AllMade value → AllMade next → AllMade (select_test env labels l b e value next)
  made_test env labels l b (Operator at op left right) value next v z =
      let s = operation_shape op left right in
      made_tested (comparison (shape_op s op) (shape_right s)) _ value
      (λ t. made_ordered (is_left_first (scopes env) left right) _ _ (made_left s _ (made_select env labels false false _ _ left)) (made_right s _ (made_select env labels false false _ _ right)) _ (one a_branch z))
      v
  made_test env labels l b e value next v z = v

  made_cases : (env : List NamedRegister) (labels : List Label) (valued tail : Bool) (d : Reg) (all : List ℕ) (end l b : ℕ) (cs : Cases) → Makes (select_cases env labels valued tail d all end l b cs)
  made_cases env labels valued tail d all end l b NoCase next z = z
  made_cases env labels valued tail d all end l b (Choose indexes body rest) next z =
      one a_case (made_select env labels valued tail d b body _ (made_cases env labels valued tail d all end _ _ rest next z))

  made_waiting : (env : List NamedRegister) (labels : List Label) (b i : ℕ) (es : Expressions) → Makes (select_waiting env labels b i es)
  made_waiting env labels b i NoMore next z = z
  made_waiting env labels b i (More e rest) next z =
      made_waiting env labels _ _ rest _ (made_when (not (is_light_address (scopes env) e)) _ (made_select env labels false false _ i e) next z)

  made_filled : (env : List NamedRegister) (labels : List Label) (b i : ℕ) (es : Expressions) → Makes (select_filled env labels b i es)
  made_filled env labels b i NoMore next z = z
  made_filled env labels b i (More e rest) next z =
      made_filled env labels _ _ rest _ (made_when (is_light_address (scopes env) e) _ (made_select env labels false false _ i e) next z)

  made_bound : (env : List NamedRegister) (labels : List Label) (b : ℕ) (bs : Bindings) → Makes (select_bound env labels b bs)
  made_bound env labels b NoBinding next z = z
  made_bound env labels b (Bind at name declared e rest) next z = made_select env labels false false _ _ e _ (made_bound _ labels _ rest next z)

  made_seq : (env : List NamedRegister) (labels : List Label) (valued tail : Bool) (d : Reg) (b : ℕ) (es : Expressions) → Makes (select_seq env labels valued tail d b es)
  made_seq env labels valued tail d b NoMore next z = z
  made_seq env labels valued tail d b (More e NoMore) next z = made_select env labels valued tail d (suc b) e next z
  made_seq env labels valued tail d b (More e (More g rest)) next z = made_select env labels false false _ _ e _ (made_seq env labels valued tail d _ (More g rest) next z)

  made_handlers : (env : List NamedRegister) (labels : List Label) (valued tail : Bool) (d : Reg) (end l b : ℕ) (hs : Handlers) → Makes (select_handlers env labels valued tail d end l b hs)
  made_handlers env labels valued tail d end l b NoHandler next z = z
  made_handlers env labels valued tail d end l b (Handle at label params body rest) next z =
      one a_with (made_select _ labels valued tail d b body _ (made_handlers env labels valued tail d end _ _ rest next z))

made_to_seat : (d : Reg) (n : ℕ) (result : Ret) → Makes (to_seat d n result)
made_to_seat d n ret.Unit next z = z
made_to_seat d n (ret.Comp c) next z = one a_move z

pub selected_made : (f : FunctionTree) → AllMade (selected f).code
selected_made f =
    let type : Ty = body_type f in
    let moved = first_after_colours + length f.params in
    let params = params_from moved f.params in
    let n = moved + length f.params in
    let from = suc (suc n) in
    let env = with_params f.params params [] in
    made_moves (seats 0 first_after_colours params) params _
    (made_select env [] (not (is_no_value type)) true (fresh_register n type) from f.body _
    (made_to_seat (fresh_register n type) (suc n) (result_of type) _ (one (a_return {values = result_seat (suc n) (result_of type)}) none)))
