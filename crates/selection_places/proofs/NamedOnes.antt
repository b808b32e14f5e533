-- Selected code names no symbol and no external call but those that the tree names.
use Rattle.std.proofs.Common.{◌≡◌, ℕ, suc, ◌+◌, ◌⊎◌, inl, inr, length, Bool, true, false, not, cond, List, [], ◌∷◌, Option, Some, None, refl, sym, subst}
use Rattle.std.specs.Prelude.{Contains}
use Rattle.std.proofs.lemmas.Bool.{true≢false}
use Rattle.bs_words.specs.External.{External}
use Rattle.bs_words.specs.declared.operators.IntOp.{IntOp}
use Rattle.bs_words.specs.declared.operators.IntOp.TheVariants as operator
use Rattle.bs_words.specs.declared.types.Chunk.{Chunk}
use Rattle.bs_words.specs.declared.types.Ret.{Ret}
use Rattle.bs_words.specs.declared.types.Ret.TheVariants as ret
use Rattle.bs_words.specs.declared.types.Ty.{Ty}
use Rattle.cmm_tree.specs.Tree.{FunctionTree, Expression, Integer, Pointer, Symbol, Name, Nothing, Float, Let, Assign, Operator, Load, Store, Alloc, App, Extcall, Checkbound, Raise, Seq, If, Switch, Catch, Exit, Try, Expressions, NoMore, More, Bindings, NoBinding, Bind, Cases, NoCase, Choose, Handlers, NoHandler, Handle}
use Rattle.cmm_types.specs.Light.{is_light_address}
use Rattle.cmm_types.specs.Types.{Scoped, result_of, body_type, with_parameters}
use Rattle.cmm_types.proofs.Containing.{contains_none, contains_cases}
use Rattle.cmm_meaning.specs.Evaluation.{is_left_first, row_of_call}
use Rattle.mach_ir.specs.Acts.{external_row}
use Rattle.mach_ir.specs.Keeps.{NamesSymbol, its_value, calls, tail_calls, NamesExternal, calls_out, IsNamedIn}
use Rattle.mach_ir.specs.declared.mach.MachOp.{MachOp}
use Rattle.mach_ir.specs.declared.mach.MachOp.TheVariants as mach
use Rattle.mach_ir.specs.declared.op.Calling.TheVariants as calling
use Rattle.mach_ir.specs.declared.op.Callee.TheVariants as callee
use Rattle.mach_ir.specs.declared.op.External as declared
use Rattle.mach_ir.specs.declared.op.Op.TheVariants as op
use Rattle.mach_ir.specs.declared.op.Pure.TheVariants as pure
use Rattle.mach_ir.specs.declared.mach.Instr.{Instr}
use Rattle.mach_ir.specs.declared.mach.Test.{Test}
use Rattle.mach_ir.specs.declared.op.Right.{Right}
use Rattle.mach_ir.specs.declared.reg.Reg.{Reg}
use Rattle.selection_places.specs.Names.{Outside, ASymbol, ACall, Names, RowNames, BoundNames, CasesName, HandlersName, FunctionNames, FunctionCalls}
use Rattle.selection_rules.specs.Instructions as emit
use Rattle.selection_rules.specs.Select.{Code, OperandShape, InRegisters, ConstantRight, ConstantLeft, PowerRight, power_code, operator_code, callee_of, raised_name, operation_shape, shape_op, shape_right, unless_left, unless_right, NamedRegister, Label, scopes, reg_of, visible_label, move_from, move_to, moves_all, exit_to_handler, ordered, only_when, from_seat, called_symbol, unless_symbol, bound_test_operand, unless_constant, bound_test, comparison, fused_test, select_test, is_based, select_base, call_of, regs_of, select, select_waiting, select_filled, select_bound, select_seq, select_cases, select_handlers, labels_within_try, cell_stores, to_seat, selected, first_after_colours, params_from, with_params, is_no_value, fresh_register, seats}
use Rattle.selection_rules.proofs.Exits.{scopes_params, scopes_after}
use Rattle.selection_rules.proofs.Choices.{kept_when, kept_unless, kept_constant, kept_left, kept_right, kept_ordered, kept_if}

-- what names nothing
abbrev is_silent : MachOp → Bool
is_silent (mach.Op (op.Pure (pure.Symbol name))) = false
is_silent (mach.Op (op.Calling f)) = false
is_silent _ = true

module _ (Q : Outside → Type 0) where
  -- an instruction names nothing but these
  pub record Named_in (f : MachOp) : Type 0 where
    pub symbols : (name : List ℕ) → NamesSymbol name f → Q (ASymbol name)
    pub externals : (row : External) → NamesExternal row f → Q (ACall row)

  no_symbol : (f : MachOp) → is_silent f ≡ true → (name : List ℕ) → NamesSymbol name f → ⊥
  no_symbol f e name its_value = true≢false (sym e)
  no_symbol f e name calls = true≢false (sym e)
  no_symbol f e name tail_calls = true≢false (sym e)

  no_external : (f : MachOp) → is_silent f ≡ true → (row : External) → NamesExternal row f → ⊥
  no_external f e row (calls_out is) = true≢false (sym e)

  silent : {f : MachOp} → is_silent f ≡ true → Named_in f
  silent {f} e = record { symbols = λ name n. absurd (no_symbol f e name n); externals = λ row n. absurd (no_external f e row n) }

  pub data AllMade : List Instr → Type 0 where
    none : AllMade []
    one : {i : Instr} {next : List Instr} → Named_in i.op → AllMade next → AllMade (i ∷ next)

  a_symbol : {name : List ℕ} → Q (ASymbol name) → Named_in (mach.Op (op.Pure (pure.Symbol name)))
  a_symbol {name} q = record { symbols = λ n s. subst (λ z. Q (ASymbol z)) (same name n s) q; externals = λ row n. elim n [ ] }
    where
      same : (name n : List ℕ) → NamesSymbol n (mach.Op (op.Pure (pure.Symbol name))) → name ≡ n
      same name n its_value = refl

  a_call : (scope : List Scoped) {result : Ret} (e : Expression) → ((x : Outside) → Names scope e x → Q x) → Named_in
      (mach.Op (op.Calling (calling.Call (callee_of (called_symbol e)) result)))
  a_call scope {result} (Symbol at name) own = record {
    symbols = λ n s. subst (λ z. Q (ASymbol z)) (same name n s) (own (ASymbol name) refl);
    externals =
        λ row n. elim n [ ];
  }
    where
      same : (name n : List ℕ) → NamesSymbol n (mach.Op (op.Calling (calling.Call (callee.Symbol name) result))) → name ≡ n
      same name n calls = refl
  a_call scope e own = record { symbols = λ n s. elim s [ ]; externals = λ row n. elim n [ ] }

  a_tail_call : (scope : List Scoped) {result : Ret} (e : Expression) → ((x : Outside) → Names scope e x → Q x) → Named_in
      (mach.Op (op.Calling (calling.TailCall (callee_of (called_symbol e)) result)))
  a_tail_call scope {result} (Symbol at name) own = record {
    symbols = λ n s. subst (λ z. Q (ASymbol z)) (same name n s)
        (own (ASymbol name) refl);
    externals = λ row n. elim n [ ];
  }
    where
      same : (name n : List ℕ) → NamesSymbol n (mach.Op (op.Calling (calling.TailCall (callee.Symbol name) result))) → name ≡ n
      same name n tail_calls = refl
  a_tail_call scope e own = record { symbols = λ n s. elim s [ ]; externals = λ row n. elim n [ ] }

  an_external : {e : declared.External} {frame : Bool} → Q (ACall (external_row e)) → Named_in (mach.Op (op.Calling (calling.External e frame)))
  an_external {e} {frame} q = record { symbols = λ n s. elim s [ ]; externals = λ row n. subst (λ z. Q (ACall z)) (same row n) q }
    where
      same : (row : External) → NamesExternal row (mach.Op (op.Calling (calling.External e frame))) → external_row e ≡ row
      same row (calls_out is) = is

  abbrev Makes : Code → Type 0
  Makes code = (next : List Instr) → AllMade next → AllMade (code next)

  made_from : (o : Option Reg) (d : Reg) → Makes (move_from o d)
  made_from None d next z = z
  made_from (Some a) d next z = one (silent refl) z

  made_to : (a : Reg) (o : Option Reg) → Makes (move_to a o)
  made_to a None next z = z
  made_to a (Some d) next z = one (silent refl) z

  made_moves : (from to : List Reg) → Makes (moves_all from to)
  made_moves [] to next z = z
  made_moves (a ∷ from) [] next z = z
  made_moves (a ∷ from) (d ∷ to) next z = made_moves from to (emit.move a d ∷ next) (one (silent refl) z)

  made_exit : (o : Option Label) (from : List Reg) → Makes (exit_to_handler o from)
  made_exit None from next z = z
  made_exit (Some t) from next z = made_moves from t.params _ (one (silent refl) z)

  made_ordered : (b : Bool) (left right : Code) → Makes left → Makes right → Makes (ordered b left right)
  made_ordered b left right l r = kept_ordered Makes (λ x y l r next z. l (y next) (r next z)) {x = left} {y = right} b l r

  made_when : (b : Bool) (code : Code) → Makes code → Makes (only_when b code)
  made_when b code e = kept_when Makes (λ next z. z) {x = code} b e

  made_cells : (k : Chunk) (p : Reg) (i : ℕ) (rs : List Reg) → Makes (cell_stores k p i rs)
  made_cells k p i [] next z = z
  made_cells k p i (r ∷ rs) next z = one (silent refl) (made_cells k p (suc i) rs next z)

  made_constant : (r : Right) (code : Code) → Makes code → Makes (unless_constant r code)
  made_constant r code e = kept_constant Makes (λ next z. z) {x = code} r e

  made_tested : (o : Option Test) (fused : Test → List Instr) (value : List Instr) → ((t : Test) → AllMade (fused t)) → AllMade value → AllMade
      (fused_test o fused value)
  made_tested (Some t) fused value f v = f t
  made_tested None fused value f v = v

  made_if : (q : Bool) (a b : Code) → Makes a → Makes b → (next : List Instr) → AllMade next → AllMade (cond q (a next) (b next))
  made_if q a b f g = kept_if Makes {x = a} {y = b} q f g

  made_left : (s : OperandShape) (code : Code) → Makes code → Makes (unless_left s code)
  made_left s code e = kept_left Makes (λ next z. z) {x = code} s e

  made_right : (s : OperandShape) (code : Code) → Makes code → Makes (unless_right s code)
  made_right s code e = kept_right Makes (λ next z. z) {x = code} s e

  made_unless : (o : Option (List ℕ)) (code : Code) → Makes code → Makes (unless_symbol o code)
  made_unless o code e = kept_unless Makes (λ next z. z) {x = code} o e

  made_from_seat : (n : ℕ) (result : Ret) (d : Reg) → Makes (from_seat n result d)
  made_from_seat n ret.Unit d next z = z
  made_from_seat n (ret.Comp c) d next z = one (silent refl) z

  made_call : (scope : List Scoped) (tail valued : Bool) (result : Ret) (e : Expression) → ((x : Outside) → Names scope e x → Q x) → (f : Reg)
      (regs : List Reg) (n : ℕ) (d : Reg) → Makes (call_of tail valued result (called_symbol e) f regs n d)
  made_call scope true valued result e own f regs n d next z = one (a_tail_call scope e own) z
  made_call scope false valued result e own f regs n d next z = one (a_call scope e own) (made_from_seat n result d next z)

  made_power : (f : IntOp) (k : ℕ) (x y d : Reg) → Makes (power_code f k x y d)
  made_power operator.Div k x y d next z = one (silent refl) (one (silent refl) (one (silent refl) (one (silent refl) z)))
  made_power f k x y d next z = one (silent refl) (one (silent refl) (one (silent refl) (one (silent refl) (one (silent refl) (one (silent refl) z)))))

  made_operator : (s : OperandShape) (f : IntOp) (x y d : Reg) → Makes (operator_code s f x y d)
  made_operator (PowerRight k) f x y d next z = made_power f k x y d next z
  made_operator InRegisters f x y d next z = one (silent refl) z
  made_operator (ConstantRight i) f x y d next z = one (silent refl) z
  made_operator (ConstantLeft i) f x y d next z = one (silent refl) z

  mutual
    made_select : (env : List NamedRegister) (labels : List Label) (valued tail : Bool) (d : Reg) (b : ℕ) (e : Expression) →
        ((x : Outside) → Names (scopes env) e x → Q x) → Makes (select env labels valued tail d b e)
    made_select env labels valued tail d b (Integer at w) own next z = one (silent refl) z
    made_select env labels valued tail d b (Pointer at w) own next z = one (silent refl) z
    made_select env labels valued tail d b (Symbol at name) own next z = one (a_symbol (own (ASymbol name) refl)) z
    made_select env labels valued tail d b (Name at x) own next z = made_from (reg_of env x) _ next z
    made_select env labels valued tail d b (Nothing at) own next z = z
    made_select env labels valued tail d b (Float at word_at operands) own next z = z
    made_select env labels valued tail d b (Let at bindings body) own next z =
        made_bound env labels (suc b) bindings (λ x n. own x (inl n)) _
        (made_select _ labels _ tail _ _ body (λ x n. own x (inr (subst (λ sc. Names sc body x) (scopes_after env (suc b) bindings) n))) next z)
    made_select env labels valued tail d b (Assign at name_at name e) own next z = made_select env labels false false _ _ e own _
        (made_to _ (reg_of env name) next z)
    made_select env labels valued tail d b (Operator at op e g) own next z =
        let s = operation_shape op e g in
        made_ordered (is_left_first (scopes env) e g) _ _ (made_left s _ (made_select env labels false false _ _ e (λ x n. own x (inl n))))
        (made_right s _ (made_select env labels false false _ _ g (λ x n. own x (inr n)))) _
        (made_operator s op _ _ _ next z)
    made_select env labels valued tail d b (App at callee arguments result result_at) own next z =
        let light = is_light_address (scopes env) callee in
        let whom : (x : Outside) → Names (scopes env) callee x → Q x = λ x n. own x (inl n) in
        let operands : (x : Outside) → RowNames (scopes env) arguments x → Q x = λ x n. own x (inr n) in
        let made = made_select env labels false false _ _ callee whom in
        made_waiting env labels _ _ arguments operands _
        (made_when (not light) _ (made_unless (called_symbol callee) _ made) _
        (made_filled env labels _ _ arguments operands _
        (made_when light _ made _
        (made_moves (regs_of env (suc (suc b)) arguments) _ _
        (made_call (scopes env) tail _ result callee whom _ _ _ _ next z)))))
    made_select env labels valued tail d b (Extcall at frame name arguments result result_at) own next z =
        let operands : (x : Outside) → RowNames (scopes env) arguments x → Q x = λ x n. own x (inr n) in
        made_waiting env labels _ _ arguments operands _
        (made_filled env labels _ _ arguments operands _
        (made_moves (regs_of env (suc b) arguments) _ _ (one (an_external (own (ACall (row_of_call (scopes env) name arguments result)) (inl refl)))
        (made_from_seat _ result _ next z))))
    made_select env labels valued tail d b (Seq at elements) own next z = made_seq env labels _ tail _ _ elements own next z
    made_select env labels valued tail d b (If at condition e g) own next z =
        let others = one (silent refl) (made_select env labels _ tail _ _ g (λ x n. own x (inr (inr n))) _ (one (silent refl) z)) in
        let both = made_select env labels _ tail _ _ e (λ x n. own x (inr (inl n))) _ others in
        made_test env labels _ _ condition (λ x n. own x (inl n)) _ _ (made_select env labels false false _ _ condition (λ x n. own x (inl n)) _
        (one (silent refl) both)) both
    made_select env labels valued tail d b (Catch at body handlers) own next z =
        one (silent refl) (made_select env _ _ tail _ _ body (λ x n. own x (inl n)) _
        (made_handlers env _ _ tail _ _ _ _ handlers (λ x n. own x (inr n)) _ (one (silent refl) z)))
    made_select env labels valued tail d b (Exit at label_at label arguments) own next z =
        made_waiting env labels _ _ arguments own _ (made_filled env labels _ _ arguments own _ (made_exit (visible_label labels label) _ next z))
    made_select env labels valued tail d b (Alloc at header_at header operands) own next z =
        made_waiting env labels _ _ operands own _
        (one (silent refl) (one (silent refl) (one (silent refl)
        (made_filled env labels _ _ operands own _ (made_cells _ _ 0 (regs_of env (suc (suc (suc b))) operands) _ (one (silent refl) z))))))
    made_select env labels valued tail d b (Load at chunk address) own next z = made_base env labels _ _ address own _
        (made_select env labels false false _ _ address own) _ (one (silent refl) z)
    made_select env labels valued tail d b (Store at chunk address e) own next z =
        let whole : (x : Outside) → Names (scopes env) address x → Q x = λ x n. own x (inl n) in
        made_ordered (is_left_first (scopes env) address e) _ _ (made_base env labels _ _ address whole _
        (made_select env labels false false _ _ address whole)) (made_select env labels false false _ _ e (λ x n. own x (inr n))) _
        (one (silent refl) z)
    made_select env labels valued tail d b (Checkbound at e g) own next z =
        made_ordered (is_left_first (scopes env) e g) _ _ (made_select env labels false false _ _ e (λ x n. own x (inl n)))
        (made_constant (bound_test_operand bound_test g) _ (made_select env labels false false _ _ g (λ x n. own x (inr n)))) _ (one (silent refl) z)
    made_select env labels valued tail d b (Raise at e) own next z = made_select env labels false false _ _ e own _ (one (silent refl) (one (silent refl) z))
    made_select env labels valued tail d b (Switch at size_at size selector cases) own next z =
        made_select env labels false false _ _ selector (λ x n. own x (inl n)) _
        (one (silent refl) (made_cases env labels _ tail _ _ _ _ _ cases (λ x n. own x (inr n)) _ (one (silent refl) z)))
    made_select env labels valued tail d b (Try at body name_at name handler) own next z =
        one (silent refl) (made_select env (labels_within_try labels) _ false _ _ body (λ x n. own x (inl n)) _
        (one (silent refl) (one (silent refl) (one (silent refl)
        (made_select (raised_name name (suc (suc (suc b))) ∷ env) labels _ tail _ _ handler (λ x n. own x (inr n)) _ (one (silent refl) z))))))

    made_base : (env : List NamedRegister) (labels : List Label) (t b : ℕ) (e : Expression) → ((x : Outside) → Names (scopes env) e x → Q x) → (whole : Code) →
        Makes whole → Makes (select_base env labels t b e whole)
    made_base env labels t b (Operator at op base (Integer at' w)) own whole inside next z = made_if (is_based op w) _ whole
        (made_select env labels false false _ _ base (λ x n. own x (inl n))) inside next z
    made_base env labels t b e own whole inside next z = inside next z

    made_test : (env : List NamedRegister) (labels : List Label) (l b : ℕ) (e : Expression) → ((x : Outside) → Names (scopes env) e x → Q x) →
        (value next : List Instr) → AllMade value → AllMade next → AllMade (select_test env labels l b e value next)
    made_test env labels l b (Operator at op e g) own value next v z =
        let s = operation_shape op e g in
        made_tested (comparison (shape_op s op) (shape_right s)) _ value
        (λ t. made_ordered (is_left_first (scopes env) e g) _ _ (made_left s _ (made_select env labels false false _ _ e (λ x n. own x (inl n))))
        (made_right s _ (made_select env labels false false _ _ g (λ x n. own x (inr n)))) _ (one (silent refl) z))
        v
    made_test env labels l b e own value next v z = v

    made_cases : (env : List NamedRegister) (labels : List Label) (valued tail : Bool) (d : Reg) (all : List ℕ) (end l b : ℕ) (cs : Cases) →
        ((x : Outside) → CasesName (scopes env) cs x → Q x) → Makes (select_cases env labels valued tail d all end l b cs)
    made_cases env labels valued tail d all end l b NoCase own next z = z
    made_cases env labels valued tail d all end l b (Choose indexes body rest) own next z =
        one (silent refl) (made_select env labels valued tail d b body (λ x n. own x (inl n)) _
        (made_cases env labels valued tail d all end _ _ rest (λ x n. own x (inr n)) next z))

    made_waiting : (env : List NamedRegister) (labels : List Label) (b i : ℕ) (es : Expressions) → ((x : Outside) → RowNames (scopes env) es x → Q x) → Makes
        (select_waiting env labels b i es)
    made_waiting env labels b i NoMore own next z = z
    made_waiting env labels b i (More e rest) own next z =
        made_waiting env labels _ _ rest (λ x n. own x (inr n)) _ (made_when (not (is_light_address (scopes env) e)) _
        (made_select env labels false false _ i e (λ x n. own x (inl n))) next z)

    made_filled : (env : List NamedRegister) (labels : List Label) (b i : ℕ) (es : Expressions) → ((x : Outside) → RowNames (scopes env) es x → Q x) → Makes
        (select_filled env labels b i es)
    made_filled env labels b i NoMore own next z = z
    made_filled env labels b i (More e rest) own next z =
        made_filled env labels _ _ rest (λ x n. own x (inr n)) _ (made_when (is_light_address (scopes env) e) _
        (made_select env labels false false _ i e (λ x n. own x (inl n))) next z)

    made_bound : (env : List NamedRegister) (labels : List Label) (b : ℕ) (bs : Bindings) → ((x : Outside) → BoundNames (scopes env) bs x → Q x) → Makes
        (select_bound env labels b bs)
    made_bound env labels b NoBinding own next z = z
    made_bound env labels b (Bind at name declared e rest) own next z = made_select env labels false false _ _ e (λ x n. own x (inl n)) _
        (made_bound _ labels _ rest (λ x n. own x (inr n)) next z)

    made_seq : (env : List NamedRegister) (labels : List Label) (valued tail : Bool) (d : Reg) (b : ℕ) (es : Expressions) →
        ((x : Outside) → RowNames (scopes env) es x → Q x) → Makes (select_seq env labels valued tail d b es)
    made_seq env labels valued tail d b NoMore own next z = z
    made_seq env labels valued tail d b (More e NoMore) own next z = made_select env labels valued tail d (suc b) e (λ x n. own x (inl n)) next z
    made_seq env labels valued tail d b (More e (More g rest)) own next z = made_select env labels false false _ _ e (λ x n. own x (inl n)) _
        (made_seq env labels valued tail d _ (More g rest) (λ x n. own x (inr n)) next z)

    made_handlers : (env : List NamedRegister) (labels : List Label) (valued tail : Bool) (d : Reg) (end l b : ℕ) (hs : Handlers) →
        ((x : Outside) → HandlersName (scopes env) hs x → Q x) → Makes (select_handlers env labels valued tail d end l b hs)
    made_handlers env labels valued tail d end l b NoHandler own next z = z
    made_handlers env labels valued tail d end l b (Handle at label params body rest) own next z =
        one (silent refl)
        (made_select _ labels valued tail d b body (λ x n. own x (inl (subst (λ sc. Names sc body x) (scopes_params (suc l) params env) n))) _
        (made_handlers env labels valued tail d end _ _ rest (λ x n. own x (inr n)) next z))

  made_to_seat : (d : Reg) (n : ℕ) (result : Ret) → Makes (to_seat d n result)
  made_to_seat d n ret.Unit next z = z
  made_to_seat d n (ret.Comp c) next z = one (silent refl) z

  pub named_of : {code : List Instr} → AllMade code → (i : Instr) → Contains code i → Named_in i.op
  named_of none i c = absurd (contains_none i c)
  named_of (one {i = j} {next = next} x xs) i c = by (contains_cases j next i c) (named_of xs i)
    where
      by : (j ≡ i) ⊎ Contains next i → (Contains next i → Named_in i.op) → Named_in i.op
      by (inl e) others = subst (λ (k : Instr). Named_in k.op) e x
      by (inr m) others = others m

all_named : (f : FunctionTree) → AllMade (Names (with_parameters f.params []) f.body) (selected f).code
all_named f =
    let Q = Names (with_parameters f.params []) f.body in
    let type : Ty = body_type f in
    let moved = first_after_colours + length f.params in
    let params = params_from moved f.params in
    let n = moved + length f.params in
    let from = suc (suc n) in
    let env = with_params f.params params [] in
    made_moves Q (seats 0 first_after_colours params) params _
    (made_select Q env [] (not (is_no_value type)) true (fresh_register n type) from f.body
    (λ x k. subst (λ sc. Names sc f.body x) (scopes_params moved f.params []) k) _
    (made_to_seat Q (fresh_register n type) (suc n) (result_of type) _ (one (silent Q refl) none)))

-- Each symbol that selected code names is one that the tree names.
pub selected_symbols : (f : FunctionTree) (name : List ℕ) → IsNamedIn (NamesSymbol name) (selected f) → FunctionNames f name
selected_symbols f name x = let there = named_of _ (all_named f) x.instr x.among in there.symbols name x.named

-- Each external call that selected code makes is of a row of which the tree makes one.
pub selected_externals : (f : FunctionTree) (row : External) → IsNamedIn (NamesExternal row) (selected f) → FunctionCalls f row
selected_externals f row x = let there = named_of _ (all_named f) x.instr x.among in there.externals row x.named
