-- Selected code has no more tries round a place than the text, and the offset of each of its loads and stores is a word.
use Rattle.std.proofs.Common.{◌≡◌, ℕ, suc, ◌+◌, ◌*◌, ◌^◌, ◌<◌, ◌≤◌, ◌⊎◌, inl, inr, length, Bool, true, false, not, cond, ◌&&◌, List, [], ◌∷◌, Option, Some, None, All, refl, arith, max, ap, ◌∙◌}
use Rattle.std.specs.Prelude.{nat_eq}
use Rattle.std.proofs.lemmas.List.Elements.{All-nil, All-cons}
use Rattle.mach_ir.proofs.Immediates.{word_12}
use Rattle.bs_words.specs.declared.operators.IntOp.{IntOp}
use Rattle.bs_words.specs.declared.operators.IntOp.TheVariants as operator
use Rattle.bs_words.specs.declared.types.Chunk.{Chunk}
use Rattle.bs_words.specs.declared.types.Chunk.TheVariants as chunk
use Rattle.bs_words.specs.declared.types.Ret.{Ret}
use Rattle.bs_words.specs.declared.types.Ret.TheVariants as ret
use Rattle.cmm_tree.specs.Tree.{FunctionTree, Expression, Integer, Pointer, Symbol, Name, Nothing, Float, Let, Assign, Operator, Load, Store, Alloc, App, Extcall, Checkbound, Raise, Seq, If, Switch, Catch, Exit, Try, Expressions, NoMore, More, Bindings, NoBinding, Bind, Cases, NoCase, Choose, Handlers, NoHandler, Handle}
use Rattle.cmm_types.specs.Light.{is_light_address}
use Rattle.cmm_types.specs.Types.{result_of, body_type, type_of}
use Rattle.cmm_meaning.specs.Evaluation.{is_left_first}
use Rattle.mach_ir.specs.Forms.{is_immediate_12}
use Rattle.mach_ir.specs.declared.mach.Instr.{Instr}
use Rattle.mach_ir.specs.declared.mach.Mark.{Mark}
use Rattle.mach_ir.specs.declared.mach.Mark.TheVariants as mark
use Rattle.mach_ir.specs.declared.mach.MachOp.{MachOp}
use Rattle.mach_ir.specs.declared.mach.MachOp.TheVariants as mach
use Rattle.mach_ir.specs.declared.mach.Test.{Test}
use Rattle.mach_ir.specs.declared.mach.Test.TheVariants as test
use Rattle.mach_ir.specs.declared.op.Access.TheVariants as access
use Rattle.mach_ir.specs.declared.op.Op.{Op}
use Rattle.mach_ir.specs.declared.op.Pure.{Pure}
use Rattle.mach_ir.specs.declared.op.Op.TheVariants as op
use Rattle.mach_ir.specs.declared.reg.Reg.{Reg}
use Rattle.selection_rules.specs.Instructions.{bare_mark}
use Rattle.selection_rules.specs.Instructions as emit
use Rattle.selection_rules.specs.Select.{Code, OperandShape, InRegisters, ConstantRight, ConstantLeft, PowerRight, operation_shape, shape_op, shape_right, shape_args, power_code, operator_code, NamedRegister, Label, scopes, reg_of, visible_label, move_from, move_to, moves_all, exit_to_handler, from_seat, called_symbol, bound_test_operand, bound_test, comparison, select_test, is_based, is_address_sum, offset_of, header_offset, select_base, call_of, regs_of, width, width_row, width_bound, width_cases, width_handlers, select, select_waiting, select_filled, select_bound, select_seq, select_cases, select_handlers, labels_within_try, cell_stores, return_code, selected, first_after_colours, is_no_value, fresh_register, seats}
use Rattle.selection_rules.proofs.Rows.{regs_length, count_width}
use Rattle.selection_walks.proofs.Known.{value_at, params_of, env_of}
use Rattle.pass_rules.specs.Carried.{OffsetFits, TriesAtMost}
use Rattle.selection_rules.proofs.Choices.{kept_when, kept_unless, kept_constant, kept_left, kept_right, kept_tested, kept_if, kept_ordered}
use Rattle.correctness.specs.Measures.{tries, tries_in, tries_in_row, tries_in_bindings, tries_in_cases, tries_in_handlers}
use Rattle.mach_ir.specs.Acts.{drop_tries}
use Rattle.mach_ir.specs.Meaning.{tries_at}
use Rattle.mach_ir.specs.Walks.{StandsAsInstr, here, below}

-- ---- offsets of addresses

offset_if : (op : IntOp) (w : ℕ) → cond (is_based op w) w 0 < 2 ^ 64
offset_if op w = by (is_address_sum op) (is_immediate_12 w) refl (not (nat_eq w 0))
  where
    by : (a b : Bool) → is_immediate_12 w ≡ b → (c : Bool) → cond (a && (b && c)) w 0 < 2 ^ 64
    by true true e true = word_12 w e
    by true true e false = omega arith
    by true false e c = omega arith
    by false b e c = omega arith

offset_word : (e : Expression) → offset_of e < 2 ^ 64
offset_word (Operator at op base (Integer at' w)) = offset_if op w
offset_word e = omega arith

-- ---- tries

-- the most tries round a place of a code
abbrev deepest : List Instr → ℕ
deepest [] = 0
deepest (i ∷ is) = max (length (tries_at (i ∷ is))) (deepest is)

no_deeper : (code : List Instr) (i : Instr) (next : List Instr) → StandsAsInstr i next code → length (tries_at (i ∷ next)) ≤ deepest code
no_deeper [] i next s = elim s [ ]
no_deeper (j ∷ is) i next here = omega arith
no_deeper (j ∷ is) i next (below s) = let le = no_deeper is i next s in omega (arith, le)

-- ---- offsets of code

-- the offset is a word, or that of one of the first k cells of a block
abbrev IsWithin : ℕ → MachOp → Type 0
IsWithin k (mach.Op (op.Access (access.Load chunk offset))) = offset < 2 ^ 64
IsWithin k (mach.Op (op.Access (access.Store chunk offset))) = (offset < 2 ^ 64) ⊎ (offset < 8 * k)
IsWithin k _ = Unit {0}

abbrev AllWithin : ℕ → List Instr → Type 0
AllWithin k [] = Unit {0}
AllWithin k (i ∷ is) = IsWithin k i.op × AllWithin k is

-- ---- both

-- Code that is round itself alone, in at most so many tries more than are round it, and whose offsets are those of
-- addresses or of the first so many cells of a block.
record KeepsBounds (n w : ℕ) (code : Code) : Type 0 where
  same : (next : List Instr) → tries_at (code next) ≡ tries_at next
  deep : (next : List Instr) → deepest (code next) ≤ max (length (tries_at next) + n) (deepest next)
  at : (k : ℕ) → w ≤ k → (next : List Instr) → AllWithin k next → AllWithin k (code next)

b_up : {n m w v : ℕ} {x : Code} → n ≤ m → w ≤ v → KeepsBounds n w x → KeepsBounds m v x
b_up tries cells x =
    record {
      same = x.same;
      deep = λ next. let deep = x.deep next in omega (arith, deep, tries);
      at = λ k less next z. x.at k (omega (arith, cells, less)) next z;
    }

b_then : {n w : ℕ} {x y : Code} → KeepsBounds n w x → KeepsBounds n w y → KeepsBounds n w (λ next. x (y next))
b_then {n} {w} {x} {y} a b =
    record {
      same = λ next. a.same (y next) ∙ b.same next;
      deep = λ next.
          let first = a.deep (y next) in
          let second = b.deep next in
          let e : length (tries_at (y next)) ≡ length (tries_at next) = ap length (b.same next) in
          omega (arith, first, second, e);
      at = λ k le next z. a.at k le (y next) (b.at k le next z);
    }

b_none : {n w : ℕ} → KeepsBounds n w (λ next. next)
b_none = record { same = λ next. refl; deep = λ next. omega arith; at = λ k le next z. z }

-- an instruction that neither pushes nor ends a try
b_one : {n w : ℕ} (f : MachOp) (args results : List Reg) →
    ((next : List Instr) → tries_at (record { op = f; args = args; results = results } ∷ next) ≡ tries_at next) →
    ((k : ℕ) → w ≤ k → IsWithin k f) → KeepsBounds n w (λ next. record { op = f; args = args; results = results } ∷ next)
b_one f args results keeps fit =
    record {
      same = keeps;
      deep = λ next.
          let e : length (tries_at (record { op = f; args = args; results = results } ∷ next)) ≡ length (tries_at next) =
          ap length (keeps next) in
          omega (arith, e);
      at = λ k le next z. (fit k le, z);
    }

b_op : {n w : ℕ} (f : Op) (args results : List Reg) → ((k : ℕ) → w ≤ k → IsWithin k (mach.Op f)) →
    KeepsBounds n w (λ next. emit.operation_instr f args results ∷ next)
b_op f args results fit = b_one (mach.Op f) args results (λ next. refl) fit

b_pure : {n w : ℕ} (f : Pure) (args results : List Reg) → KeepsBounds n w (λ next. emit.operation_instr (op.Pure f) args results ∷ next)
b_pure f args results = b_op (op.Pure f) args results (λ k le. tt)

b_mark : {n w : ℕ} (f : Mark) (args results : List Reg) →
    ((next : List Instr) → tries_at (record { op = mach.Mark f; args = args; results = results } ∷ next) ≡ tries_at next) →
    KeepsBounds n w (λ next. record { op = mach.Mark f; args = args; results = results } ∷ next)
b_mark f args results keeps = b_one (mach.Mark f) args results keeps (λ k le. tt)

b_move : {n w : ℕ} (a d : Reg) → KeepsBounds n w (λ next. emit.move a d ∷ next)
b_move a d = b_pure _ (a ∷ []) (d ∷ [])

b_from : {n w : ℕ} (o : Option Reg) (d : Reg) → KeepsBounds n w (move_from o d)
b_from None d = b_none
b_from (Some a) d = b_move a d

b_to : {n w : ℕ} (a : Reg) (o : Option Reg) → KeepsBounds n w (move_to a o)
b_to a None = b_none
b_to a (Some d) = b_move a d

b_moves : {n w : ℕ} (from to : List Reg) → KeepsBounds n w (moves_all from to)
b_moves [] to = b_none
b_moves (a ∷ from) [] = b_none
b_moves (a ∷ from) (d ∷ to) = b_then (b_moves from to) (b_move a d)

b_exit : {n w : ℕ} (o : Option Label) (from : List Reg) → KeepsBounds n w (exit_to_handler o from)
b_exit None from = b_none
b_exit (Some t) from = b_then (b_moves from t.params) (b_mark (mark.Exit t.number t.tries) [] [] (λ next. refl))

b_cells : {n w : ℕ} (k : Chunk) (p : Reg) (i : ℕ) (rs : List Reg) → i + length rs ≤ w → KeepsBounds n w (cell_stores k p i rs)
b_cells k p i [] le = b_none
b_cells k p i (r ∷ rs) le =
    b_then (b_op (op.Access (access.Store k (8 * i))) (p ∷ r ∷ []) [] (λ j less. inr (omega (arith, le, less))))
    (b_cells k p (suc i) rs (omega (arith, le)))

b_power : {n w : ℕ} (f : IntOp) (k : ℕ) (x y d : Reg) → KeepsBounds n w (power_code f k x y d)
b_power operator.Div k x y d =
    b_then (b_pure _ (x ∷ []) (y ∷ [])) (b_then (b_pure _ (y ∷ []) (y ∷ []))
    (b_then (b_pure _ (x ∷ y ∷ []) (y ∷ [])) (b_pure _ (y ∷ []) (d ∷ []))))
b_power f k x y d =
    b_then (b_pure _ (x ∷ []) (y ∷ [])) (b_then (b_pure _ (y ∷ []) (y ∷ [])) (b_then (b_pure _ (x ∷ y ∷ []) (y ∷ []))
    (b_then (b_pure _ (y ∷ []) (y ∷ [])) (b_then (b_pure _ (y ∷ []) (y ∷ [])) (b_pure _ (x ∷ y ∷ []) (d ∷ []))))))

b_operator : {n w : ℕ} (s : OperandShape) (f : IntOp) (x y d : Reg) → KeepsBounds n w (operator_code s f x y d)
b_operator (PowerRight k) f x y d = b_power f k x y d
b_operator InRegisters f x y d = b_pure _ (x ∷ y ∷ []) (d ∷ [])
b_operator (ConstantRight i) f x y d = b_pure _ (x ∷ []) (d ∷ [])
b_operator (ConstantLeft i) f x y d = b_pure _ (y ∷ []) (d ∷ [])

b_branch : {n w : ℕ} (t : Test) (l : ℕ) (args : List Reg) → KeepsBounds n w (λ next. emit.branch t l args ∷ next)
b_branch t l args = b_mark (mark.If t l) args [] (λ next. refl)

b_given : {n w : ℕ} (at : ℕ) (result : Ret) (d : Reg) → KeepsBounds n w (from_seat at result d)
b_given at ret.Unit d = b_none
b_given at (ret.Comp c) d = b_move _ d

b_call : {n w : ℕ} (tail valued : Bool) (result : Ret) (o : Option (List ℕ)) (f : Reg) (rs : List Reg) (at : ℕ) (d : Reg) → KeepsBounds n w
    (call_of tail valued result o f rs at d)
b_call true valued result o f rs at d = b_op (op.Calling _) _ [] (λ k le. tt)
b_call false valued result o f rs at d = b_then (b_op (op.Calling _) _ _ (λ k le. tt)) (b_given at result d)

-- a try: round its body is one more than round it and its handler
b_try : {n k w : ℕ} {body handler : Code} (l end : ℕ) (y x : Reg) → KeepsBounds n w body → KeepsBounds k w handler →
    KeepsBounds (max (1 + n) k) w (λ next. bare_mark (mark.Try l)
    ∷ body (bare_mark (mark.Leave l end) ∷ emit.handler l y ∷ emit.move y x ∷ handler (bare_mark (mark.End end) ∷ next)))
b_try {n} {k} {w} {body} {handler} l end y x b h =
    record {
      same = λ next. ap (λ ts. drop_tries 1 ts) (b.same (leave next)) ∙ h.same (last next);
      deep = λ next.
          let first = b.deep (leave next) in
          let second = h.deep (last next) in
          let outer : length (tries_at (handler (last next))) ≡ length (tries_at next) = ap length (h.same (last next)) in
          let whole : length (drop_tries 1 (tries_at (body (leave next)))) ≡ length (tries_at (handler (last next))) =
          ap (λ ts. length (drop_tries 1 ts)) (b.same (leave next)) in
          omega (arith, first, second, outer, whole);
      at = λ j le next z. (tt, b.at j le (leave next) (tt, (tt, (tt, h.at j le (last next) (tt, z)))));
    }
  where
    last : List Instr → List Instr
    last next = bare_mark (mark.End end) ∷ next

    leave : List Instr → List Instr
    leave next = bare_mark (mark.Leave l end) ∷ emit.handler l y ∷ emit.move y x ∷ handler (last next)

b_end : {n w : ℕ} (end : ℕ) → KeepsBounds n w (λ next. bare_mark (mark.End end) ∷ next)
b_end end = b_mark (mark.End end) [] [] (λ next. refl)

mutual
  b_select : (env : List NamedRegister) (labels : List Label) (valued tail : Bool) (d : Reg) (b : ℕ) (e : Expression) →
      KeepsBounds (tries_in e) (width e)
      (select env labels valued tail d b e)
  b_select env labels valued tail d b (Integer at w) = b_pure _ [] _
  b_select env labels valued tail d b (Pointer at w) = b_pure _ [] _
  b_select env labels valued tail d b (Symbol at name) = b_pure _ [] _
  b_select env labels valued tail d b (Name at x) = b_from (reg_of env x) _
  b_select env labels valued tail d b (Nothing at) = b_none
  b_select env labels valued tail d b (Float at word_at operands) = b_none
  b_select env labels valued tail d b (Let at bindings body) =
      b_then (b_up (omega arith) (omega arith) (b_bound env labels (suc b) bindings))
      (b_up (omega arith) (omega arith) (b_select _ labels _ tail _ _ body))
  b_select env labels valued tail d b (Assign at name_at name e) =
      b_then (b_up (omega arith) (omega arith) (b_select env labels false false _ _ e)) (b_to _ (reg_of env name))
  b_select env labels valued tail d b (Operator at op e g) =
      let s = operation_shape op e g in
      b_then
      (kept_ordered (KeepsBounds _ _) (λ x y. b_then) (is_left_first (scopes env) e g)
      (kept_left (KeepsBounds _ _) b_none s (b_up (omega arith) (omega arith) (b_select env labels false false _ _ e)))
      (kept_right (KeepsBounds _ _) b_none s (b_up (omega arith) (omega arith) (b_select env labels false false _ _ g)))) (b_operator s op _ _ _)
  b_select env labels valued tail d b (App at callee arguments result result_at) =
      let light = is_light_address (scopes env) callee in
      let regs = regs_of env (suc (suc b)) arguments in
      b_then (b_up (omega arith) (omega arith) (b_waiting env labels _ _ arguments))
      (b_then (kept_when (KeepsBounds _ _) b_none (not light) (kept_unless (KeepsBounds _ _) b_none (called_symbol callee)
      (b_up (omega arith) (omega arith) (b_select env labels false false _ _ callee))))
      (b_then (b_up (omega arith) (omega arith) (b_filled env labels _ _ arguments))
      (b_then (kept_when (KeepsBounds _ _) b_none light (b_up (omega arith) (omega arith) (b_select env labels false false _ _ callee)))
      (b_then (b_moves regs _) (b_call tail _ result (called_symbol callee) _ _ _ _)))))
  b_select env labels valued tail d b (Extcall at frame name arguments result result_at) =
      let regs = regs_of env (suc b) arguments in
      b_then (b_up (omega arith) (omega arith) (b_waiting env labels _ _ arguments))
      (b_then (b_up (omega arith) (omega arith) (b_filled env labels _ _ arguments))
      (b_then (b_moves regs _) (b_then (b_op (op.Calling _) _ _ (λ k le. tt)) (b_given _ result _))))
  b_select env labels valued tail d b (Seq at elements) = b_up (omega arith) (omega arith) (b_seq env labels _ tail _ _ elements)
  b_select env labels valued tail d b (If at condition e g) =
      b_then (b_test env labels _ _ condition (omega arith) (omega arith)
      (b_then (b_up (omega arith) (omega arith) (b_select env labels false false _ _ condition)) (b_branch test.Holds _ _)))
      (b_then (b_up (omega arith) (omega arith) (b_select env labels _ tail _ _ e))
      (b_then (b_mark (mark.Else _ _) [] [] (λ next. refl)) (b_then (b_up (omega arith) (omega arith)
      (b_select env labels _ tail _ _ g)) (b_end _))))
  b_select env labels valued tail d b (Catch at body handlers) =
      b_then (b_mark mark.Catch [] [] (λ next. refl))
      (b_then (b_up (omega arith) (omega arith) (b_select env _ _ tail _ _ body))
      (b_then (b_up (omega arith) (omega arith) (b_handlers env _ _ tail _ _ _ _ handlers)) (b_end _)))
  b_select env labels valued tail d b (Exit at label_at label arguments) =
      b_then (b_up (omega arith) (omega arith) (b_waiting env labels _ _ arguments))
      (b_then (b_up (omega arith) (omega arith) (b_filled env labels _ _ arguments))
      (b_exit (visible_label labels label) (regs_of env (suc b) arguments)))
  b_select env labels valued tail d b (Alloc at header_at header operands) =
      let long = regs_length env (suc (suc (suc b))) operands in
      let few = count_width operands in
      b_then (b_up (omega arith) (omega arith) (b_waiting env labels _ _ operands))
      (b_then (b_op (op.Access (access.Alloc _)) [] _ (λ k le. tt)) (b_then (b_pure _ [] _)
      (b_then (b_op (op.Access (access.Store chunk.Int header_offset)) _ [] (λ k le. inl (omega arith)))
      (b_then (b_up (omega arith) (omega arith) (b_filled env labels _ _ operands))
      (b_then (b_cells _ _ 0 (regs_of env (suc (suc (suc b))) operands) (omega (arith, long, few))) (b_move _ _))))))
  b_select env labels valued tail d b (Load at chunk address) =
      b_then (b_up (omega arith) (omega arith) (b_base env labels _ _ address (b_select env labels false false _ _ address)))
      (b_op (op.Access (access.Load chunk (offset_of address))) _ _ (λ k le. offset_word address))
  b_select env labels valued tail d b (Store at chunk address e) =
      b_then
      (kept_ordered (KeepsBounds _ _) (λ x y. b_then) (is_left_first (scopes env) address e)
      (b_up (omega arith) (omega arith) (b_base env labels _ _ address (b_select env labels false false _ _ address)))
      (b_up (omega arith) (omega arith) (b_select env labels false false _ _ e)))
      (b_op (op.Access (access.Store chunk (offset_of address))) _ [] (λ k le. inl (offset_word address)))
  b_select env labels valued tail d b (Checkbound at e g) =
      b_then
      (kept_ordered (KeepsBounds _ _) (λ x y. b_then) (is_left_first (scopes env) e g)
      (b_up (omega arith) (omega arith) (b_select env labels false false _ _ e))
      (kept_constant (KeepsBounds _ _) b_none (bound_test_operand bound_test g)
      (b_up (omega arith) (omega arith) (b_select env labels false false _ _ g)))) (b_op (op.Leaving _) _ [] (λ k le. tt))
  b_select env labels valued tail d b (Raise at e) =
      b_then (b_up (omega arith) (omega arith) (b_select env labels false false _ _ e))
      (b_then (b_move _ _) (b_op (op.Leaving _) _ [] (λ k le. tt)))
  b_select env labels valued tail d b (Switch at size_at size selector cases) =
      b_then (b_up (omega arith) (omega arith) (b_select env labels false false _ _ selector))
      (b_then (b_mark (mark.Switch _) _ [] (λ next. refl)) (b_then (b_up (omega arith) (omega arith)
      (b_cases env labels _ tail _ _ _ _ _ cases)) (b_end _)))
  b_select env labels valued tail d b (Try at body name_at name handler) =
      b_try (suc b) (suc (suc b)) _ _ (b_up (omega arith) (omega arith) (b_select env (labels_within_try labels) _ false _ _ body))
      (b_up (omega arith) (omega arith) (b_select _ labels _ tail _ _ handler))

  b_base : {whole : Code} (env : List NamedRegister) (labels : List Label) (t b : ℕ) (e : Expression) →
      KeepsBounds (tries_in e) (width e) whole → KeepsBounds (tries_in e) (width e) (select_base env labels t b e whole)
  b_base env labels t b (Operator at op base (Integer at' w)) inside = kept_if (KeepsBounds _ _) (is_based op w)
      (b_up (omega arith) (omega arith) (b_select env labels false false (fresh_register t (type_of (scopes env) base)) b base)) inside
  b_base env labels t b e inside = inside

  b_test : {n w : ℕ} {value : Code} (env : List NamedRegister) (labels : List Label) (l b : ℕ) (e : Expression) → tries_in e ≤ n →
      width e ≤ w → KeepsBounds n w value → KeepsBounds n w (λ next. select_test env labels l b e (value next) next)
  b_test env labels l b (Operator at op e g) tries cells v =
      let s = operation_shape op e g in
      kept_tested (KeepsBounds _ _) (comparison (shape_op s op) (shape_right s)) _
      (λ t.
      b_then
      (kept_ordered (KeepsBounds _ _) (λ x y. b_then) (is_left_first (scopes env) e g)
      (kept_left (KeepsBounds _ _) b_none s (b_up (omega (arith, tries)) (omega (arith, cells)) (b_select env labels false false _ _ e)))
      (kept_right (KeepsBounds _ _) b_none s (b_up (omega (arith, tries)) (omega (arith, cells))
      (b_select env labels false false _ _ g)))) (b_branch t l (shape_args s _ _)))
      v
  b_test env labels l b e tries cells v = v

  b_cases : (env : List NamedRegister) (labels : List Label) (valued tail : Bool) (d : Reg) (all : List ℕ) (end l b : ℕ) (cs : Cases) →
      KeepsBounds (tries_in_cases cs) (width_cases cs) (select_cases env labels valued tail d all end l b cs)
  b_cases env labels valued tail d all end l b NoCase = b_none
  b_cases env labels valued tail d all end l b (Choose indexes body rest) =
      b_then (b_mark (mark.Case _ _ _) [] [] (λ next. refl))
      (b_then (b_up (omega arith) (omega arith) (b_select env labels valued tail d b body))
      (b_up (omega arith) (omega arith) (b_cases env labels valued tail d all end _ _ rest)))

  b_waiting : (env : List NamedRegister) (labels : List Label) (b i : ℕ) (es : Expressions) →
      KeepsBounds (tries_in_row es) (width_row es) (select_waiting env labels b i es)
  b_waiting env labels b i NoMore = b_none
  b_waiting env labels b i (More e rest) =
      b_then (b_up (omega arith) (omega arith) (b_waiting env labels _ _ rest))
      (kept_when (KeepsBounds _ _) b_none (not (is_light_address (scopes env) e))
      (b_up (omega arith) (omega arith) (b_select env labels false false _ i e)))

  b_filled : (env : List NamedRegister) (labels : List Label) (b i : ℕ) (es : Expressions) →
      KeepsBounds (tries_in_row es) (width_row es) (select_filled env labels b i es)
  b_filled env labels b i NoMore = b_none
  b_filled env labels b i (More e rest) =
      b_then (b_up (omega arith) (omega arith) (b_filled env labels _ _ rest))
      (kept_when (KeepsBounds _ _) b_none (is_light_address (scopes env) e)
      (b_up (omega arith) (omega arith) (b_select env labels false false _ i e)))

  b_bound : (env : List NamedRegister) (labels : List Label) (b : ℕ) (bs : Bindings) →
      KeepsBounds (tries_in_bindings bs) (width_bound bs) (select_bound env labels b bs)
  b_bound env labels b NoBinding = b_none
  b_bound env labels b (Bind at name declared e rest) =
      b_then (b_up (omega arith) (omega arith) (b_select env labels false false _ _ e))
      (b_up (omega arith) (omega arith) (b_bound _ labels _ rest))

  b_seq : (env : List NamedRegister) (labels : List Label) (valued tail : Bool) (d : Reg) (b : ℕ) (es : Expressions) →
      KeepsBounds (tries_in_row es) (width_row es) (select_seq env labels valued tail d b es)
  b_seq env labels valued tail d b NoMore = b_none
  b_seq env labels valued tail d b (More e NoMore) = b_up (omega arith) (omega arith) (b_select env labels valued tail d (suc b) e)
  b_seq env labels valued tail d b (More e (More g rest)) =
      b_then (b_up (omega arith) (omega arith) (b_select env labels false false _ _ e))
      (b_up (omega arith) (omega arith) (b_seq env labels valued tail d _ (More g rest)))

  b_handlers : (env : List NamedRegister) (labels : List Label) (valued tail : Bool) (d : Reg) (end l b : ℕ) (hs : Handlers) →
      KeepsBounds (tries_in_handlers hs) (width_handlers hs) (select_handlers env labels valued tail d end l b hs)
  b_handlers env labels valued tail d end l b NoHandler = b_none
  b_handlers env labels valued tail d end l b (Handle at label params body rest) =
      b_then (b_mark (mark.With _ _) [] [] (λ next. refl))
      (b_then (b_up (omega arith) (omega arith) (b_select _ labels valued tail d b body))
      (b_up (omega arith) (omega arith) (b_handlers env labels valued tail d end _ _ rest)))

no_tries : (d : Reg) (n : ℕ) (result : Ret) → (deepest (return_code d n result) ≡ 0) × (tries_at (return_code d n result) ≡ [])
no_tries d n ret.Unit = (refl, refl)
no_tries d n (ret.Comp c) = (refl, refl)

ends_within : (k : ℕ) (d : Reg) (n : ℕ) (result : Ret) → AllWithin k (return_code d n result)
ends_within k d n ret.Unit = (tt, tt)
ends_within k d n (ret.Comp c) = (tt, (tt, tt))

all_fit : (k : ℕ) → k < 2 ^ 60 → (code : List Instr) → AllWithin k code → All (λ (i : Instr). OffsetFits i.op) code
all_fit k narrow [] z = All-nil (λ (i : Instr). OffsetFits i.op)
all_fit k narrow (i ∷ is) z = All-cons (λ (i : Instr). OffsetFits i.op) i is (by i.op z.0) (all_fit k narrow is z.1)
  where
    by : (f : MachOp) → IsWithin k f → OffsetFits f
    by (mach.Op (op.Access (access.Load chunk offset))) w = w
    by (mach.Op (op.Access (access.Store chunk offset))) (inl less) = less
    by (mach.Op (op.Access (access.Store chunk offset))) (inr less) = omega (arith, less, narrow)
    by (mach.Op (op.Access (access.Alloc blocks))) w = tt
    by (mach.Op (op.Pure f)) w = tt
    by (mach.Op (op.Calling f)) w = tt
    by (mach.Op (op.Leaving f)) w = tt
    by (mach.Mark f) w = tt

-- all the code but the return
selected_keeps : (f : FunctionTree) → KeepsBounds (tries f) (width f.body)
    (λ next. moves_all (seats 0 first_after_colours (params_of f)) (params_of f)
    (select (env_of f) [] (not (is_no_value (body_type f))) true (fresh_register (value_at f) (body_type f)) (suc (suc (value_at f))) f.body next))
selected_keeps f =
    b_then (b_moves (seats 0 first_after_colours (params_of f)) (params_of f))
    (b_select (env_of f) [] (not (is_no_value (body_type f))) true (fresh_register (value_at f) (body_type f)) (suc (suc (value_at f))) f.body)

-- No more tries are round a place of selected code than are round one of the text.
pub selected_tries : (f : FunctionTree) → TriesAtMost (selected f) (tries f)
selected_tries f i next s =
    let d = fresh_register (value_at f) (body_type f) in
    let end = no_tries d (suc (value_at f)) (result_of (body_type f)) in
    let flat = end.0 in
    let none : length (tries_at (return_code d (suc (value_at f)) (result_of (body_type f)))) ≡ 0 = ap length end.1 in
    let keeps = selected_keeps f in
    let deep = keeps.deep (return_code d (suc (value_at f)) (result_of (body_type f))) in
    let at = no_deeper (selected f).code i next s in
    omega (arith, flat, none, deep, at)

-- The offset of each load and of each store is a word.
pub selected_offsets : (f : FunctionTree) → width f.body < 2 ^ 60 → All (λ (i : Instr). OffsetFits i.op) (selected f).code
selected_offsets f narrow =
    let d = fresh_register (value_at f) (body_type f) in
    let keeps = selected_keeps f in
    all_fit (width f.body) narrow (selected f).code
    (keeps.at (width f.body) (omega arith) (return_code d (suc (value_at f)) (result_of (body_type f)))
    (ends_within (width f.body) d (suc (value_at f)) (result_of (body_type f))))
