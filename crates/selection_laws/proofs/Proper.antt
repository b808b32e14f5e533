-- Selected code is formed and seated, where its tree fits.
use Rattle.std.proofs.Common.{◌≡◌, ℕ, suc, ◌+◌, ◌-◌, ◌<◌, ◌≤◌, length, Bool, true, false, not, cond, ⊎_elim, List, [], ◌∷◌, Option, Some, None, All, refl, sym, ap, subst, arith}
use Rattle.std.specs.Prelude.{Contains, nat_lt}
use Rattle.std.proofs.lemmas.Bool.{lt-ltb}
use Rattle.std.proofs.lemmas.List.Elements.{All-nil, All-cons}
use Rattle.bs_words.specs.declared.operators.IntOp.{IntOp}
use Rattle.bs_words.specs.declared.operators.IntOp.TheVariants as operator
use Rattle.bs_words.specs.declared.types.Chunk.{Chunk}
use Rattle.bs_words.specs.declared.types.Ret.{Ret}
use Rattle.bs_words.specs.declared.types.Ret.TheVariants as ret
use Rattle.bs_words.specs.declared.types.Ty.{Ty}
use Rattle.cmm_tree.specs.Tree.{FunctionTree, Expression, Integer, Pointer, Symbol, Name, Nothing, Float, Let, Assign, Operator, Load, Store, Alloc, App, Extcall, Checkbound, Raise, Seq, If, Switch, Catch, Exit, Try, Expressions, NoMore, More, Bindings, NoBinding, Bind, Cases, NoCase, Choose, Handlers, NoHandler, Handle}
use Rattle.cmm_types.proofs.Containing.{contains_cases, contains_none}
use Rattle.cmm_types.specs.Light.{is_light_address}
use Rattle.cmm_types.specs.Types.{result_of, body_type}
use Rattle.cmm_meaning.specs.Evaluation.{is_left_first}
use Rattle.mach_ir.specs.Formed.{comps, IsFormedInstruction, AreDistinct, exit_form, else_form, case_form, catch_form, with_form, try_form, leave_form, end_form}
use Rattle.mach_ir.specs.Forms.{results_of_type}
use Rattle.mach_ir.specs.Seats.{Seated, anywhere}
use Rattle.mach_ir.specs.declared.mach.Instr.{Instr}
use Rattle.mach_ir.specs.declared.mach.Mark.TheVariants as mark
use Rattle.mach_ir.specs.declared.mach.MachOp.TheVariants as mach
use Rattle.mach_ir.specs.declared.mach.Test.{Test}
use Rattle.mach_ir.specs.declared.op.Leaving.TheVariants as leaving
use Rattle.mach_ir.specs.declared.op.Op.TheVariants as op
use Rattle.mach_ir.specs.declared.op.Right.{Right}
use Rattle.mach_ir.specs.declared.reg.Reg.{Reg}
use Rattle.selection_rules.specs.Instructions as emit
use Rattle.selection_rules.specs.Select.{Code, OperandShape, InRegisters, ConstantRight, ConstantLeft, PowerRight, rounded, power_code, operator_code, operation_shape, shape_op, shape_right, shape_args, unless_left, unless_right, NamedRegister, Label, scopes, reg_of, visible_label, move_from, move_to, moves_all, exit_to_handler, ordered, only_when, from_seat, called_symbol, unless_symbol, bound_test_operand, unless_constant, bound_test, comparison, fused_test, select_test, is_based, select_base, call_of, tail_result, bound_name, regs_of, select, select_waiting, select_filled, select_bound, select_seq, select_cases, select_handlers, labels_within_try, cell_stores, to_seat, selected, first_after_colours, params_from, with_params, is_no_value, fresh_register, seats}
use Rattle.selection_rules.proofs.Exits.{scopes_params, scopes_after, params_length}
use Rattle.selection_laws.specs.Fits.{Fits, RowFits, BindingsFit, CasesFit, HandlersFit, FunctionFits}
use Rattle.selection_rules.specs.Bounded.{BoundedCode}
use Rattle.selection_laws.proofs.Constants.{formed_bounded}
use Rattle.selection_laws.proofs.Forms.{is_return, IsProper, p_move, p_constant, p_symbol, ShortPower, short_power, short_shape, p_operator, p_shift, p_registers, p_branch, p_load, p_store, p_alloc, p_call, p_tail_call, p_external, p_checkbound, p_raise, p_handler, p_holds, p_choice, p_bare, p_return, seats_in_order}
use Rattle.selection_rules.proofs.Rows.{few_regs}
use Rattle.selection_rules.proofs.Choices.{kept_when, kept_unless, kept_constant, kept_left, kept_right, kept_ordered, kept_if}

pub data AllProper (given : Ret) : List Instr → Type 0 where
  none : AllProper given []
  one : {i : Instr} {next : List Instr} → IsProper given i → AllProper given next → AllProper given (i ∷ next)

pub proper_in : {given : Ret} {code : List Instr} → AllProper given code → (i : Instr) → Contains code i → IsProper given i
proper_in none i c = absurd (contains_none i c)
proper_in {given} (one {i = j} {next = next} x xs) i c = ⊎_elim (λ e. subst (IsProper given) e x) (λ c. proper_in xs i c) (contains_cases j next i c)

module _ (given : Ret) where
  abbrev Proper : List Instr → Type 0
  Proper = AllProper given

  abbrev Makes : Code → Type 0
  Makes code = (next : List Instr) → Proper next → Proper (code next)

  proper_from : (o : Option Reg) (d : Reg) → Makes (move_from o d)
  proper_from None d next z = z
  proper_from (Some a) d next z = one (p_move a d) z

  proper_to : (a : Reg) (o : Option Reg) → Makes (move_to a o)
  proper_to a None next z = z
  proper_to a (Some d) next z = one (p_move a d) z

  proper_moves : (from to : List Reg) → Makes (moves_all from to)
  proper_moves [] to next z = z
  proper_moves (a ∷ from) [] next z = z
  proper_moves (a ∷ from) (d ∷ to) next z = proper_moves from to (emit.move a d ∷ next) (one (p_move a d) z)

  proper_exit : (o : Option Label) (from : List Reg) → Makes (exit_to_handler o from)
  proper_exit None from next z = z
  proper_exit (Some t) from next z = proper_moves from t.params _ (one (p_bare (mark.Exit t.number t.tries) exit_form anywhere) z)

  proper_ordered : (b : Bool) (left right : Code) → Makes left → Makes right → Makes (ordered b left right)
  proper_ordered b left right l r = kept_ordered Makes (λ x y l r next z. l (y next) (r next z)) {x = left} {y = right} b l r

  proper_when : (b : Bool) (code : Code) → Makes code → Makes (only_when b code)
  proper_when b code e = kept_when Makes (λ next z. z) {x = code} b e

  proper_cells : (k : Chunk) (p : Reg) (i : ℕ) (rs : List Reg) → Makes (cell_stores k p i rs)
  proper_cells k p i [] next z = z
  proper_cells k p i (r ∷ rs) next z = one (p_store k _ p r) (proper_cells k p (suc i) rs next z)

  proper_constant : (r : Right) (code : Code) → Makes code → Makes (unless_constant r code)
  proper_constant r code e = kept_constant Makes (λ next z. z) {x = code} r e

  proper_tested : (o : Option Test) (fused : Test → List Instr) (value : List Instr) → ((t : Test) → o ≡ Some t → Proper (fused t)) → Proper value → Proper (fused_test o fused value)
  proper_tested (Some t) fused value f v = f t refl
  proper_tested None fused value f v = v

  proper_if : (q : Bool) (a b : Code) → Makes a → Makes b → (next : List Instr) → Proper next → Proper (cond q (a next) (b next))
  proper_if q a b f g = kept_if Makes {x = a} {y = b} q f g

  proper_left : (s : OperandShape) (code : Code) → Makes code → Makes (unless_left s code)
  proper_left s code e = kept_left Makes (λ next z. z) {x = code} s e

  proper_right : (s : OperandShape) (code : Code) → Makes code → Makes (unless_right s code)
  proper_right s code e = kept_right Makes (λ next z. z) {x = code} s e

  -- an amount of a shift
  short_amount : (k : ℕ) → k < 64 → nat_lt k 64 ≡ true
  short_amount k less = lt-ltb k 64 less

  proper_rounded : (k : ℕ) (x y : Reg) → 1 ≤ k → k < 64 → Makes (rounded k x y)
  proper_rounded k x y low less next z =
      one (p_shift operator.Sar 63 x y refl) (one (p_shift operator.Shr (64 - k) y y (short_amount (64 - k) (omega (arith, low)))) (one (p_registers operator.Add x y y) z))

  proper_power : (op : IntOp) (k : ℕ) (x y d : Reg) → 1 ≤ k → k < 64 → Makes (power_code op k x y d)
  proper_power operator.Div k x y d low less next z = proper_rounded k x y low less _ (one (p_shift operator.Sar k y d (short_amount k less)) z)
  proper_power op k x y d low less next z =
      proper_rounded k x y low less _ (one (p_shift operator.Sar k y y (short_amount k less)) (one (p_shift operator.Shl k y y (short_amount k less)) (one (p_registers operator.Sub x y d) z)))

  proper_short : (s : OperandShape) (op : IntOp) (x y d : Reg) → ShortPower s → IsProper given (emit.operator (shape_op s op) (shape_right s) (shape_args s x y) d) → Makes (operator_code s op x y d)
  proper_short InRegisters op x y d short p next z = one p z
  proper_short (ConstantRight i) op x y d short p next z = one p z
  proper_short (ConstantLeft i) op x y d short p next z = one p z
  proper_short (PowerRight k) op x y d (short_power low less) p next z = proper_power op k x y d low less next z

  proper_operator : (op : IntOp) (left e : Expression) (x y d : Reg) → Makes (operator_code (operation_shape op left e) op x y d)
  proper_operator op left e x y d = proper_short (operation_shape op left e) op x y d (short_shape op left e) (p_operator op left e x y d)

  proper_unless : (o : Option (List ℕ)) (code : Code) → Makes code → Makes (unless_symbol o code)
  proper_unless o code e = kept_unless Makes (λ next z. z) {x = code} o e

  proper_from_seat : (n : ℕ) (result : Ret) (d : Reg) → Makes (from_seat n result d)
  proper_from_seat n ret.Unit d next z = z
  proper_from_seat n (ret.Comp c) d next z = one (p_move _ d) z

  proper_call : (tail valued : Bool) (result : Ret) (o : Option (List ℕ)) (f : Reg) (n k : ℕ) (rs : List Reg) (d : Reg) → length rs ≤ 16 → Makes (call_of tail valued result o f (seats 0 n rs) k d)
  proper_call true valued result o f n k rs d few next z = one (p_tail_call (tail_result valued result) o f n rs few) z
  proper_call false valued result o f n k rs d few next z = one (p_call result o f n k rs few) (proper_from_seat k result d next z)

  mutual
    pub proper_select : (env : List NamedRegister) (labels : List Label) (valued tail : Bool) (d : Reg) (b : ℕ) (e : Expression) → Fits (scopes env) e → Makes (select env labels valued tail d b e)
    proper_select env labels valued tail d b (Integer at w) fine next z = one (p_constant w _ fine) z
    proper_select env labels valued tail d b (Pointer at w) fine next z = one (p_constant w _ fine) z
    proper_select env labels valued tail d b (Symbol at name) fine next z = one (p_symbol name _) z
    proper_select env labels valued tail d b (Name at x) fine next z = proper_from (reg_of env x) _ next z
    proper_select env labels valued tail d b (Nothing at) fine next z = z
    proper_select env labels valued tail d b (Float at word_at operands) fine next z = z
    proper_select env labels valued tail d b (Let at bindings body) fine next z =
        proper_bound env labels (suc b) bindings fine.0 _ (proper_select _ labels _ tail _ _ body (subst (λ sc. Fits sc body) (sym (scopes_after env (suc b) bindings)) fine.1) next z)
    proper_select env labels valued tail d b (Assign at name_at name e) fine next z = proper_select env labels false false _ _ e fine _ (proper_to _ (reg_of env name) next z)
    proper_select env labels valued tail d b (Operator at op left right) fine next z =
        let s = operation_shape op left right in
        proper_ordered (is_left_first (scopes env) left right) _ _ (proper_left s _ (proper_select env labels false false _ _ left fine.0)) (proper_right s _ (proper_select env labels false false _ _ right fine.1)) _ (proper_operator op left right _ _ _ next z)
    proper_select env labels valued tail d b (App at callee arguments result result_at) fine next z =
        let light = is_light_address (scopes env) callee in
        let made = proper_select env labels false false _ _ callee fine.1.0 in
        proper_waiting env labels _ _ arguments fine.1.1 _
        (proper_when (not light) _ (proper_unless (called_symbol callee) _ made) _
        (proper_filled env labels _ _ arguments fine.1.1 _
        (proper_when light _ made _
        (proper_moves (regs_of env (suc (suc b)) arguments) _ _
        (proper_call tail _ result (called_symbol callee) _ _ _ (regs_of env (suc (suc b)) arguments) _ (few_regs env (suc (suc b)) arguments fine.0) next z)))))
    proper_select env labels valued tail d b (Extcall at frame name arguments result result_at) fine next z =
        proper_waiting env labels _ _ arguments fine.1.1 _
        (proper_filled env labels _ _ arguments fine.1.1 _
        (proper_moves (regs_of env (suc b) arguments) _ _
        (one (p_external env (suc b) _ _ name frame result arguments fine.1.0 (few_regs env (suc b) arguments fine.0)) (proper_from_seat _ result _ next z))))
    proper_select env labels valued tail d b (Seq at elements) fine next z = proper_seq env labels _ tail _ _ elements fine next z
    proper_select env labels valued tail d b (If at condition on_true on_false) fine next z =
        let others = one (p_bare (mark.Else _ _) else_form anywhere) (proper_select env labels _ tail _ _ on_false fine.1.1 _ (one (p_bare (mark.End _) end_form anywhere) z)) in
        let both = proper_select env labels _ tail _ _ on_true fine.1.0 _ others in
        proper_test env labels _ _ condition fine.0 _ _ (proper_select env labels false false _ _ condition fine.0 _ (one (p_holds _ _) both)) both
    proper_select env labels valued tail d b (Catch at body handlers) fine next z =
        one (p_bare mark.Catch catch_form anywhere) (proper_select env _ _ tail _ _ body fine.0 _ (proper_handlers env _ _ tail _ _ _ _ handlers fine.1 _ (one (p_bare (mark.End _) end_form anywhere) z)))
    proper_select env labels valued tail d b (Exit at label_at label arguments) fine next z =
        proper_waiting env labels _ _ arguments fine _ (proper_filled env labels _ _ arguments fine _ (proper_exit (visible_label labels label) _ next z))
    proper_select env labels valued tail d b (Alloc at header_at header operands) fine next z =
        proper_waiting env labels _ _ operands fine.1.1 _
        (one (p_alloc header operands _ fine.1.0) (one (p_constant header _ fine.0) (one (p_store _ _ _ _)
        (proper_filled env labels _ _ operands fine.1.1 _ (proper_cells _ _ 0 (regs_of env (suc (suc (suc b))) operands) _ (one (p_move _ _) z))))))
    proper_select env labels valued tail d b (Load at chunk address) fine next z =
        proper_base env labels _ _ address fine _ (proper_select env labels false false _ _ address fine) _ (one (p_load chunk _ _ _) z)
    proper_select env labels valued tail d b (Store at chunk address e) fine next z =
        proper_ordered (is_left_first (scopes env) address e) _ _ (proper_base env labels _ _ address fine.0 _ (proper_select env labels false false _ _ address fine.0)) (proper_select env labels false false _ _ e fine.1) _
        (one (p_store chunk _ _ _) z)
    proper_select env labels valued tail d b (Checkbound at bound index) fine next z =
        proper_ordered (is_left_first (scopes env) bound index) _ _ (proper_select env labels false false _ _ bound fine.0)
        (proper_constant (bound_test_operand bound_test index) _ (proper_select env labels false false _ _ index fine.1)) _ (one (p_checkbound index _ _) z)
    proper_select env labels valued tail d b (Raise at e) fine next z = proper_select env labels false false _ _ e fine _ (one (p_move _ _) (one (p_raise _) z))
    proper_select env labels valued tail d b (Switch at size_at size selector cases) fine next z =
        proper_select env labels false false _ _ selector fine.1.0 _ (one (p_choice _ _) (proper_cases env labels _ tail _ _ _ _ _ cases fine.1.1 _ (one (p_bare (mark.End _) end_form anywhere) z)))
    proper_select env labels valued tail d b (Try at body name_at name handler) fine next z =
        one (p_bare (mark.Try _) try_form anywhere)
        (proper_select env (labels_within_try labels) _ false _ _ body fine.0 _
        (one (p_bare (mark.Leave _ _) leave_form anywhere) (one (p_handler _ _) (one (p_move _ _) (proper_select _ labels _ tail _ _ handler fine.1 _ (one (p_bare (mark.End _) end_form anywhere) z))))))

    proper_base : (env : List NamedRegister) (labels : List Label) (t b : ℕ) (e : Expression) → Fits (scopes env) e → (whole : Code) → Makes whole → Makes (select_base env labels t b e whole)
    proper_base env labels t b (Operator at op base (Integer at' w)) fine whole inside next z = proper_if (is_based op w) _ whole (proper_select env labels false false _ _ base fine.0) inside next z
    proper_base env labels t b e fine whole inside next z = inside next z

    proper_test : (env : List NamedRegister) (labels : List Label) (l b : ℕ) (e : Expression) → Fits (scopes env) e → (value next : List Instr) → Proper value → Proper next → Proper (select_test env labels l b e value next)
    proper_test env labels l b (Operator at op left right) fine value next v z =
        let s = operation_shape op left right in
        proper_tested (comparison (shape_op s op) (shape_right s)) _ value
        (λ t is. proper_ordered (is_left_first (scopes env) left right) _ _ (proper_left s _ (proper_select env labels false false _ _ left fine.0)) (proper_right s _ (proper_select env labels false false _ _ right fine.1)) _
        (one (p_branch op left right _ _ l t is) z))
        v
    proper_test env labels l b e fine value next v z = v

    proper_cases : (env : List NamedRegister) (labels : List Label) (valued tail : Bool) (d : Reg) (all : List ℕ) (end l b : ℕ) (cs : Cases) → CasesFit (scopes env) cs → Makes (select_cases env labels valued tail d all end l b cs)
    proper_cases env labels valued tail d all end l b NoCase fine next z = z
    proper_cases env labels valued tail d all end l b (Choose indexes body rest) fine next z =
        one (p_bare (mark.Case _ _ _) case_form anywhere) (proper_select env labels valued tail d b body fine.0 _ (proper_cases env labels valued tail d all end _ _ rest fine.1 next z))

    proper_waiting : (env : List NamedRegister) (labels : List Label) (b i : ℕ) (es : Expressions) → RowFits (scopes env) es → Makes (select_waiting env labels b i es)
    proper_waiting env labels b i NoMore fine next z = z
    proper_waiting env labels b i (More e rest) fine next z =
        proper_waiting env labels _ _ rest fine.1 _ (proper_when (not (is_light_address (scopes env) e)) _ (proper_select env labels false false _ i e fine.0) next z)

    proper_filled : (env : List NamedRegister) (labels : List Label) (b i : ℕ) (es : Expressions) → RowFits (scopes env) es → Makes (select_filled env labels b i es)
    proper_filled env labels b i NoMore fine next z = z
    proper_filled env labels b i (More e rest) fine next z =
        proper_filled env labels _ _ rest fine.1 _ (proper_when (is_light_address (scopes env) e) _ (proper_select env labels false false _ i e fine.0) next z)

    proper_bound : (env : List NamedRegister) (labels : List Label) (b : ℕ) (bs : Bindings) → BindingsFit (scopes env) bs → Makes (select_bound env labels b bs)
    proper_bound env labels b NoBinding fine next z = z
    proper_bound env labels b (Bind at name declared e rest) fine next z = proper_select env labels false false _ _ e fine.0 _ (proper_bound (bound_name env b name declared e ∷ env) labels _ rest fine.1 next z)

    proper_seq : (env : List NamedRegister) (labels : List Label) (valued tail : Bool) (d : Reg) (b : ℕ) (es : Expressions) → RowFits (scopes env) es → Makes (select_seq env labels valued tail d b es)
    proper_seq env labels valued tail d b NoMore fine next z = z
    proper_seq env labels valued tail d b (More e NoMore) fine next z = proper_select env labels valued tail d (suc b) e fine.0 next z
    proper_seq env labels valued tail d b (More e (More g rest)) fine next z = proper_select env labels false false _ _ e fine.0 _ (proper_seq env labels valued tail d _ (More g rest) fine.1 next z)

    proper_handlers : (env : List NamedRegister) (labels : List Label) (valued tail : Bool) (d : Reg) (end l b : ℕ) (hs : Handlers) → HandlersFit (scopes env) hs → Makes (select_handlers env labels valued tail d end l b hs)
    proper_handlers env labels valued tail d end l b NoHandler fine next z = z
    proper_handlers env labels valued tail d end l b (Handle at label params body rest) fine next z =
        one (p_bare (mark.With _ _) with_form anywhere)
        (proper_select _ labels valued tail d b body (subst (λ sc. Fits sc body) (sym (scopes_params (suc l) params env)) fine.0) _ (proper_handlers env labels valued tail d end _ _ rest fine.1 next z))

  proper_to_seat : (d : Reg) (n : ℕ) (result : Ret) → Makes (to_seat d n result)
  proper_to_seat d n ret.Unit next z = z
  proper_to_seat d n (ret.Comp c) next z = one (p_move d _) z

pub selected_proper : (f : FunctionTree) → FunctionFits f → AllProper (selected f).result (selected f).code
selected_proper f fits =
    let type : Ty = body_type f in
    let result = result_of type in
    let moved = first_after_colours + length f.params in
    let params = params_from moved f.params in
    let n = moved + length f.params in
    let from = suc (suc n) in
    let env = with_params f.params params [] in
    let body = subst (λ sc. Fits sc f.body) (sym (scopes_params moved f.params [])) fits.body in
    proper_moves result (seats 0 first_after_colours params) params _
    (proper_select result env [] (not (is_no_value type)) true (fresh_register n type) from f.body body _
    (proper_to_seat result (fresh_register n type) (suc n) result _ (one (p_return (suc n) result) none)))

-- Each constant of the code is a word.
pub selected_bounded : (f : FunctionTree) → FunctionFits f → BoundedCode (selected f).code
selected_bounded f fits = all_bounded (selected_proper f fits)
  where
    all_bounded : {given : Ret} {code : List Instr} → AllProper given code → BoundedCode code
    all_bounded none = tt
    all_bounded (one x xs) = (formed_bounded x.formed, all_bounded xs)

-- Parameters, operands and results are where the conventions put them.
pub selected_seated : (f : FunctionTree) → FunctionFits f → Seated (selected f)
selected_seated f fits =
    let all = selected_proper f fits in
    let params = params_from (first_after_colours + length f.params) f.params in
    let few = fits.params in
    let long = params_length (first_after_colours + length f.params) f.params in
    record {
      params = seats_in_order first_after_colours params (omega (arith, few, long));
      operands = λ i c. let p = proper_in all i c in p.operands;
      results = λ i c. let p = proper_in all i c in p.results;
    }

-- Each instruction has a form of Mach.
pub selected_formed : (f : FunctionTree) → FunctionFits f → All IsFormedInstruction (selected f).code
selected_formed f fits = all_formed (selected_proper f fits)
  where
    all_formed : {given : Ret} {code : List Instr} → AllProper given code → All IsFormedInstruction code
    all_formed none = All-nil IsFormedInstruction
    all_formed (one {i = i} {next = next} x xs) = All-cons IsFormedInstruction i next x.formed (all_formed xs)

-- No instruction writes a register twice.
pub selected_distinct : (f : FunctionTree) → FunctionFits f → All (λ (i : Instr). AreDistinct i.results) (selected f).code
selected_distinct f fits = all_distinct (selected_proper f fits)
  where
    all_distinct : {given : Ret} {code : List Instr} → AllProper given code → All (λ (i : Instr). AreDistinct i.results) code
    all_distinct none = All-nil (λ (i : Instr). AreDistinct i.results)
    all_distinct (one {i = i} {next = next} x xs) = All-cons (λ (i : Instr). AreDistinct i.results) i next x.distinct (all_distinct xs)

-- A return gives what the function is written with.
pub selected_returns : (f : FunctionTree) → FunctionFits f → (i : Instr) → Contains (selected f).code i → i.op ≡ mach.Op (op.Leaving leaving.Return) → comps i.args ≡ results_of_type (selected f).result
selected_returns f fits i c e = let p = proper_in (selected_proper f fits) i c in p.gives (ap is_return e)
