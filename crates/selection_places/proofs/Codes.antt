-- Selected code has that shape, where the registers of its own are of a set.
use Rattle.std.proofs.Common.{◌≡◌, ℕ, suc, ◌+◌, length, Bool, true, false, not, cond, List, [], ◌∷◌, ◌++◌, Option, Some, None, refl, arith}
use Rattle.std.specs.Prelude.{bytes_eq}
use Rattle.bs_words.specs.declared.operators.IntOp.{IntOp}
use Rattle.bs_words.specs.declared.operators.IntOp.TheVariants as operator
use Rattle.bs_words.specs.declared.types.Chunk.{Chunk}
use Rattle.bs_words.specs.declared.types.Comp.TheVariants as comp
use Rattle.bs_words.specs.declared.types.Ret.{Ret}
use Rattle.bs_words.specs.declared.types.Ret.TheVariants as ret
use Rattle.bs_words.specs.declared.types.Ty.{Ty}
use Rattle.bs_words.specs.declared.types.Ty.TheVariants as ty
use Rattle.cmm_tree.specs.Tree.{LabelTree, same_label, is_bare, Parameter, Expression, Integer, Pointer, Symbol, Name, Nothing, Float, Let, Assign, Operator, Load, Store, Alloc, App, Extcall, Checkbound, Raise, Seq, If, Switch, Catch, Exit, Try, Expressions, NoMore, More, Bindings, NoBinding, Bind, Cases, NoCase, Choose, Handlers, NoHandler, Handle}
use Rattle.cmm_types.specs.Light.{is_light_address}
use Rattle.cmm_types.specs.Types.{type_of}
use Rattle.cmm_meaning.specs.Evaluation.{is_left_first}
use Rattle.mach_ir.specs.declared.mach.Instr.{Instr}
use Rattle.mach_ir.specs.declared.mach.Test.{Test}
use Rattle.mach_ir.specs.declared.op.Right.{Right}
use Rattle.mach_ir.specs.declared.op.Right.TheVariants as right
use Rattle.mach_ir.specs.declared.reg.Reg.{Reg}
use Rattle.selection_rules.specs.Instructions.{right_regs}
use Rattle.selection_rules.specs.Select.{Code, OperandShape, InRegisters, ConstantRight, ConstantLeft, PowerRight, operation_shape, shape_op, shape_right, shape_args, unless_left, unless_right, power_code, operator_code, NamedRegister, Label, scopes, reg_of, visible_label, move_from, move_to, moves_all, exit_to_handler, ordered, only_when, seat, result_seat, from_seat, called_symbol, unless_symbol, bound_test_operand, unless_constant, bound_test, comparison, fused_test, select_test, is_based, base_of, select_base, call_of, callee_regs, inner_dest, inner_valued, regs_of, count_cases, width, width_bound, width_labels, bound_name, env_after, raised_name, select, select_waiting, select_filled, select_bound, select_seq, select_cases, select_handlers, labels_within_try, unless_bare_mark, in_handlers, labels_from, cell_stores, params_from, with_params, fresh_register, seats, return_code}
use Rattle.cmm_tree.specs.Measures.{count_of}
use Rattle.selection_rules.proofs.Choices.{kept_when, kept_unless, kept_constant, kept_left, kept_right, kept_ordered}
use Rattle.selection_places.proofs.Sets.{Role, Plain, New, Seated, left, right as in_right, it, Listed}
use Rattle.selection_places.proofs.Owned.{dropped, kept, kept_of, Either, LabelsOwn, Own, BaseOwn, RowOwn, BoundOwn, SeqOwn, CasesOwn, HandlersOwn}
use Rattle.selection_places.proofs.Coded as coded
use Rattle.selection_places.proofs.Coded.{Member, later, Each, none, one, each_map, each_append, Reads, reads_plain, reads_new, ReadsSeats, reads, reads_seat, Gives, gives_none, gives_one, Coded, ends, plain, fills, empties, asks, handles, allocs, coded_more, seats_apart}

-- the registers of seats that are emptied last first
abbrev pub onto : List Reg → List Reg → List Reg
onto [] so_far = so_far
onto (s ∷ rest) so_far = onto rest (s ∷ so_far)

module _ (Q : Role → Reg → Type 0) where
  abbrev pub Codes : Code → Type 0
  Codes code = (P : List Reg) (next : List Instr) → Coded Q [] P next → Coded Q [] P (code next)

  abbrev pub Within : (Role → Reg → Type 0) → Type 0
  Within A = (t : Role) (r : Reg) → A t r → Q t r

  pub data EnvFine : List NamedRegister → Type 0 where
    no_names : EnvFine []
    named : {x : NamedRegister} {env : List NamedRegister} → Q Plain x.reg → EnvFine env → EnvFine (x ∷ env)

  pub data LabelsFine : List Label → Type 0 where
    no_labels : LabelsFine []
    labelled : {t : Label} {labels : List Label} → Each (Q Plain) t.params → LabelsFine labels → LabelsFine (t ∷ labels)

  -- a register that a value of this type goes to
  abbrev pub Wants : Ty → Reg → Type 0
  Wants ty.NoValue d = Unit {0}
  Wants type d = Q Plain d

  wants_type : (type : Ty) {d : Reg} → Q Plain d → Wants type d
  wants_type ty.NoValue q = tt
  wants_type type q = q

  -- the value of an expression; an exit has none
  abbrev pub WantsOf : List NamedRegister → Expression → Reg → Type 0
  WantsOf env (Exit at label_at label arguments) d = Unit {0}
  WantsOf env e d = Wants (type_of (scopes env) e) d

  pub wants_any : (env : List NamedRegister) (e : Expression) {d : Reg} → Q Plain d → WantsOf env e d
  wants_any env (Exit at label_at label arguments) q = tt
  wants_any env e q = wants_type (type_of (scopes env) e) q

  kept_wants : (type : Ty) (b : ℕ) → Within (Listed Plain (kept type b)) → Wants type (fresh_register b type)
  kept_wants ty.NoValue b own = tt
  kept_wants type b own = own Plain _ (left (it refl refl))

  kept_of_wants : (env : List NamedRegister) (b : ℕ) (e : Expression) → Within (Listed Plain (kept_of env b e)) → WantsOf env e (fresh_register b (type_of (scopes env) e))
  kept_of_wants env b (Exit at label_at label arguments) own = tt
  kept_of_wants env b e own = kept_wants (type_of (scopes env) e) b own

  inner_plain : (type : Ty) (b : ℕ) (d : Reg) → Within (Listed Plain (dropped type b)) → Wants type d → Q Plain (inner_dest type b d)
  inner_plain ty.NoValue b d own w = own Plain _ (left (it refl refl))
  inner_plain type b d own w = w

  pub listed : (u : Role) (rs : List Reg) → Within (Listed u rs) → Each (Q u) rs
  listed u [] own = none
  listed u (r ∷ rs) own = one (own u r (left (it refl refl))) (listed u rs (λ t q i. own t q (in_right i)))

  a_plain : {P : List Reg} {r : Reg} → Q Plain r → Each (Reads Q P) (r ∷ [])
  a_plain q = one (reads_plain q) none

  two_plain : {P : List Reg} {r s : Reg} → Q Plain r → Q Plain s → Each (Reads Q P) (r ∷ s ∷ [])
  two_plain q p = one (reads_plain q) (one (reads_plain p) none)

  -- ---- scopes

  data RegFine : Option Reg → Type 0 where
    no_reg : RegFine None
    a_reg : {r : Reg} → Q Plain r → RegFine (Some r)

  reg_fine : {env : List NamedRegister} → EnvFine env → (x : List ℕ) → RegFine (reg_of env x)
  reg_fine no_names x = no_reg
  reg_fine (named {x = n} {env = env} q rest) x = by (bytes_eq n.scoped.name x) (reg_fine rest x)
    where
      by : (b : Bool) → RegFine (reg_of env x) → RegFine (cond b (Some n.reg) (reg_of env x))
      by true others = a_reg q
      by false others = others

  data LabelFine : Option Label → Type 0 where
    no_label : LabelFine None
    a_label : {t : Label} → Each (Q Plain) t.params → LabelFine (Some t)

  label_fine : {labels : List Label} → LabelsFine labels → (l : LabelTree) → LabelFine (visible_label labels l)
  label_fine no_labels l = no_label
  label_fine (labelled {t = t} {labels = labels} q rest) l = by (same_label l t.label) (label_fine rest l)
    where
      by : (b : Bool) → LabelFine (visible_label labels l) → LabelFine (cond b (Some t) (visible_label labels l))
      by true others = a_label q
      by false others = others

  labels_append : {xs ys : List Label} → LabelsFine xs → LabelsFine ys → LabelsFine (xs ++ ys)
  labels_append no_labels y = y
  labels_append (labelled x xs) y = labelled x (labels_append xs y)

  labels_deeper : {labels : List Label} → LabelsFine labels → LabelsFine (labels_within_try labels)
  labels_deeper no_labels = no_labels
  labels_deeper (labelled x xs) = labelled x (labels_deeper xs)

  labels_inside : {labels : List Label} → LabelsFine labels → LabelsFine (in_handlers labels)
  labels_inside no_labels = no_labels
  labels_inside (labelled {t = t} {labels = labels} x xs) = by (is_bare t.label) (labels_inside xs)
    where
      by : (b : Bool) → LabelsFine (in_handlers labels) → LabelsFine (unless_bare_mark b t (in_handlers labels))
      by true others = others
      by false others = labelled x others

  labels_own : (b : ℕ) (hs : Handlers) → Within (LabelsOwn b hs) → LabelsFine (labels_from b hs)
  labels_own b NoHandler own = no_labels
  labels_own b (Handle at label params body rest) own =
      labelled (listed Plain (params_from (suc b) params) (λ t r i. own t r (left i))) (labels_own (suc b + length params) rest (λ t r i. own t r (in_right i)))

  pub params_env : (env : List NamedRegister) (params : List Parameter) (rs : List Reg) → Each (Q Plain) rs → EnvFine env → EnvFine (with_params params rs env)
  params_env env [] rs q fine = fine
  params_env env (p ∷ params) [] q fine = fine
  params_env env (p ∷ params) (r ∷ rs) (one q qs) fine = params_env _ params rs qs (named q fine)

  bound_env : (env : List NamedRegister) (b : ℕ) (bs : Bindings) → Within (BoundOwn env b bs) → EnvFine env → EnvFine (env_after env b bs)
  bound_env env b NoBinding own fine = fine
  bound_env env b (Bind at name declared e rest) own fine =
      bound_env (bound_name env b name declared e ∷ env) (suc (b + width e)) rest (λ t r i. own t r (in_right (in_right i)))
      (named (own Plain _ (left (it refl refl))) fine)

  -- ---- pieces

  codes_from : {o : Option Reg} {d : Reg} → RegFine o → Q Plain d → Codes (move_from o d)
  codes_from no_reg q P next z = z
  codes_from (a_reg a) q P next z = plain (a_plain a) (one q none) refl z

  codes_to : {o : Option Reg} {a : Reg} → Q Plain a → RegFine o → Codes (move_to a o)
  codes_to q no_reg P next z = z
  codes_to q (a_reg d) P next z = plain (a_plain q) (one d none) refl z

  codes_moves : {from to : List Reg} → Each (Q Plain) from → Each (Q Plain) to → Codes (moves_all from to)
  codes_moves none to P next z = z
  codes_moves (one a as') none P next z = z
  codes_moves (one a as') (one d ds) P next z = codes_moves as' ds P _ (plain (a_plain a) (one d none) refl z)

  codes_exit : {o : Option Label} {from : List Reg} → LabelFine o → Each (Q Plain) from → Codes (exit_to_handler o from)
  codes_exit no_label from P next z = z
  codes_exit (a_label to) from P next z = codes_moves from to P _ (plain none none refl z)

  codes_cells : (k : Chunk) (p : Reg) (i : ℕ) {rs : List Reg} → Each (Q Plain) rs → (P : List Reg) (next : List Instr) → Reads Q P p → Coded Q [] P next →
      Coded Q [] P (cell_stores k p i rs next)
  codes_cells k p i none P next q z = z
  codes_cells k p i (one r rs) P next q z = plain (one q (one (reads_plain r) none)) none refl (codes_cells k p (suc i) rs P next q z)

  codes_ordered : (b : Bool) (x y : Code) → Codes x → Codes y → Codes (ordered b x y)
  codes_ordered b x y l r = kept_ordered Codes (λ x y l r P next z. l P (y next) (r P next z)) {x = x} {y = y} b l r

  codes_when : (b : Bool) (code : Code) → Codes code → Codes (only_when b code)
  codes_when b code e = kept_when Codes (λ P next z. z) {x = code} b e

  codes_constant : (r : Right) (code : Code) → Codes code → Codes (unless_constant r code)
  codes_constant r code e = kept_constant Codes (λ P next z. z) {x = code} r e

  codes_tested : {P : List Reg} (o : Option Test) (fused : Test → List Instr) (value : List Instr) → ((t : Test) → Coded Q [] P (fused t)) →
      Coded Q [] P value → Coded Q [] P (fused_test o fused value)
  codes_tested (Some t) fused value f v = f t
  codes_tested None fused value f v = v

  codes_left : (s : OperandShape) (code : Code) → Codes code → Codes (unless_left s code)
  codes_left s code e = kept_left Codes (λ P next z. z) {x = code} s e

  codes_right : (s : OperandShape) (code : Code) → Codes code → Codes (unless_right s code)
  codes_right s code e = kept_right Codes (λ P next z. z) {x = code} s e

  codes_unless : (o : Option (List ℕ)) (code : Code) → Codes code → Codes (unless_symbol o code)
  codes_unless o code e = kept_unless Codes (λ P next z. z) {x = code} o e

  shape_plain : {P : List Reg} {x y : Reg} (s : OperandShape) → Q Plain x → Q Plain y → Each (Reads Q P) (shape_args s x y)
  shape_plain InRegisters x y = two_plain x y
  shape_plain (ConstantRight i) x y = a_plain x
  shape_plain (ConstantLeft i) x y = a_plain y
  shape_plain (PowerRight k) x y = two_plain x y

  codes_power : (f : IntOp) (k : ℕ) {x y d : Reg} → Q Plain x → Q Plain y → Q Plain d → Codes (power_code f k x y d)
  codes_power operator.Div k x y d P next z =
      plain (a_plain x) (one y none) refl (plain (a_plain y) (one y none) refl
      (plain (two_plain x y) (one y none) refl (plain (a_plain y) (one d none) refl z)))
  codes_power f k x y d P next z =
      plain (a_plain x) (one y none) refl (plain (a_plain y) (one y none) refl (plain (two_plain x y) (one y none) refl
      (plain (a_plain y) (one y none) refl (plain (a_plain y) (one y none) refl (plain (two_plain x y) (one d none) refl z)))))

  codes_operator : (s : OperandShape) (f : IntOp) {x y d : Reg} → Q Plain x → Q Plain y → Q Plain d → Codes (operator_code s f x y d)
  codes_operator (PowerRight k) f x y d P next z = codes_power f k x y d P next z
  codes_operator InRegisters f x y d P next z = plain (two_plain x y) (one d none) refl z
  codes_operator (ConstantRight i) f x y d P next z = plain (a_plain x) (one d none) refl z
  codes_operator (ConstantLeft i) f x y d P next z = plain (a_plain y) (one d none) refl z

  right_plain : {P : List Reg} {x y : Reg} (r : Right) → Q Plain x → Q Plain y → Each (Reads Q P) (x ∷ right_regs r y)
  right_plain right.Register x y = two_plain x y
  right_plain (right.Constant w) x y = a_plain x

  -- ---- seats

  members : (rs : List Reg) → Each (λ r. Member r rs) rs
  members [] = none
  members (r ∷ rs) = one (coded.first refl) (each_map (λ q m. later m) (members rs))

  seat_reads : {P : List Reg} {rs : List Reg} → Each (Q Seated) rs → (S : List Reg) → Each (λ r. Member r S) rs → Each (ReadsSeats Q P S) rs
  seat_reads none S none = none
  seat_reads (one q qs) S (one m ms) = one (reads_seat q m) (seat_reads qs S ms)

  all_seats : {P : List Reg} (rs : List Reg) → Each (Q Seated) rs → Each (ReadsSeats Q P rs) rs
  all_seats rs q = seat_reads q rs (members rs)

  -- the operands of a call go to their seats
  codes_seated : (i n : ℕ) (rs : List Reg) → Each (Q Plain) rs → Each (Q Seated) (seats i n rs) → (P : List Reg) (next : List Instr) → Coded Q
      (seats i n rs) P next → Coded Q [] P (moves_all rs (seats i n rs) next)
  codes_seated i n [] q s P next z = z
  codes_seated i n (r ∷ rs) (one q qs) (one s ss) P next z =
      codes_seated (suc i) (suc n) rs qs ss P _ (fills (reads_plain q) s (seats_apart i n r.comp (suc i) (suc n) rs (omega arith)) z)

  codes_given : (n : ℕ) (result : Ret) {d : Reg} → Each (Q Seated) (result_seat n result) → Q Plain d → (P : List Reg) (next : List Instr) →
      Coded Q [] P next → Coded Q (result_seat n result) P (from_seat n result d next)
  codes_given n ret.Unit none q P next z = z
  codes_given n (ret.Comp c) (one s none) q P next z = empties s q z

  gives_result : (n : ℕ) (result : Ret) {i : Instr} → Each (Q Seated) (result_seat n result) → i.results ≡ result_seat n result → Gives Q i
      (result_seat n result)
  gives_result n ret.Unit none e = gives_none e
  gives_result n (ret.Comp c) (one s none) e = gives_one e s

  callee_plain : {P S : List Reg} (o : Option (List ℕ)) {f : Reg} → Q Plain f → Each (ReadsSeats Q P S) (callee_regs o f)
  callee_plain (Some name) q = none
  callee_plain None q = one (reads (reads_plain q)) none

  codes_call : (tail valued : Bool) (result : Ret) (o : Option (List ℕ)) {f d : Reg} (S : List Reg) (n : ℕ) → Q Plain f → Each (Q Seated) S → Each
      (Q Seated) (result_seat n result) → Q Plain d →
      (P : List Reg) (next : List Instr) → Coded Q [] P next → Coded Q S P (call_of tail valued result o f S n d next)
  codes_call true valued result o S n f s g d P next z = asks (each_append (callee_plain o f) (all_seats S s)) (gives_none refl) refl z
  codes_call false valued result o S n f s g d P next z = asks (each_append (callee_plain o f) (all_seats S s)) (gives_result n result g refl) refl
      (codes_given n result g d P next z)

  mutual
    pub codes_select : (env : List NamedRegister) (labels : List Label) (valued tail : Bool) (d : Reg) (b : ℕ) (e : Expression) → Within (Own env b e) →
        EnvFine env → LabelsFine labels → WantsOf env e d → Codes (select env labels valued tail d b e)
    codes_select env labels valued tail d b (Integer at w) own names ls wants P next z = plain none
        (one (inner_plain (type_of (scopes env) (Integer at w)) b d own wants) none) refl z
    codes_select env labels valued tail d b (Pointer at w) own names ls wants P next z = plain none
        (one (inner_plain (type_of (scopes env) (Pointer at w)) b d own wants) none) refl z
    codes_select env labels valued tail d b (Symbol at name) own names ls wants P next z = plain none
        (one (inner_plain (type_of (scopes env) (Symbol at name)) b d own wants) none) refl z
    codes_select env labels valued tail d b (Name at x) own names ls wants P next z = codes_from (reg_fine names x)
        (inner_plain (type_of (scopes env) (Name at x)) b d own wants) P next z
    codes_select env labels valued tail d b (Nothing at) own names ls wants P next z = z
    codes_select env labels valued tail d b (Float at word_at operands) own names ls wants P next z = z
    codes_select env labels valued tail d b (Let at bindings body) own names ls wants P next z =
        let type = type_of (scopes env) (Let at bindings body) in
        let d' = inner_plain type b d (λ t r i. own t r (left i)) wants in
        let bound : Within (BoundOwn env (suc b) bindings) = λ t r i. own t r (in_right (left i)) in
        codes_bound env labels (suc b) bindings bound names ls P _
        (codes_select (env_after env (suc b) bindings) labels (inner_valued valued type) tail _ (suc b + width_bound bindings) body
        (λ t r i. own t r (in_right (in_right i))) (bound_env env (suc b) bindings bound names) ls
        (wants_any (env_after env (suc b) bindings) body d') P next z)
    codes_select env labels valued tail d b (Assign at name_at name e) own names ls wants P next z =
        let t = own Plain _ (left (it refl refl)) in
        codes_select env labels false false _ (suc (suc b)) e (λ t r i. own t r (in_right i)) names ls (wants_any env e t) P _
        (codes_to t (reg_fine names name) P next z)
    codes_select env labels valued tail d b (Operator at op e g) own names ls wants P next z =
        let s = operation_shape op e g in
        let type = type_of (scopes env) (Operator at op e g) in
        let d' = inner_plain type b d (λ t r i. own t r (left i)) wants in
        let x = own Plain _ (in_right (left (it refl refl))) in
        let y = own Plain _ (in_right (in_right (left (it refl refl)))) in
        codes_ordered (is_left_first (scopes env) e g) _ _
        (codes_left s _ (codes_select env labels false false _ (suc (suc (suc b))) e (λ t r i. own t r (in_right (in_right (in_right (left i))))) names ls
        (wants_any env e x)))
        (codes_right s _ (codes_select env labels false false _ (suc (suc (suc b)) + width e) g
        (λ t r i. own t r (in_right (in_right (in_right (in_right i))))) names ls (wants_any env g y))) P _
        (codes_operator s op x y d' P next z)
    codes_select env labels valued tail d b (App at callee arguments result result_at) own names ls wants P next z =
        let type = type_of (scopes env) (App at callee arguments result result_at) in
        let row = suc (suc b) in
        let seated = row + count_of arguments in
        let given = seated + count_of arguments in
        let base = suc given in
        let light = is_light_address (scopes env) callee in
        let d' = inner_plain type b d (λ t r i. own t r (left i)) wants in
        let f = own Plain _ (in_right (left (it refl refl))) in
        let regs : Within (Listed Plain (regs_of env row arguments)) = λ t r i. own t r (in_right (in_right (left i))) in
        let places = listed Seated (seats 0 seated (regs_of env row arguments)) (λ t r i. own t r (in_right (in_right (in_right (left i))))) in
        let gives = listed Seated (result_seat given result) (λ t r i. own t r (in_right (in_right (in_right (in_right (left i)))))) in
        let code = codes_select env labels false false _ base callee (λ t r i. own t r
        (in_right (in_right (in_right (in_right (in_right (left i))))))) names ls (wants_any env callee f) in
        let operands : Within (RowOwn env (base + width callee) arguments) = λ t r i. own t r
        (in_right (in_right (in_right (in_right (in_right (in_right i)))))) in
        codes_waiting env labels row (base + width callee) arguments operands regs names ls P _
        (codes_when (not light) _ (codes_unless (called_symbol callee) _ code) P _
        (codes_filled env labels row (base + width callee) arguments operands regs names ls P _
        (codes_when light _ code P _
        (codes_seated 0 seated (regs_of env row arguments) (listed Plain (regs_of env row arguments) regs) places P _
        (codes_call tail (inner_valued valued type) result (called_symbol callee) (seats 0 seated (regs_of env row arguments)) given f places gives d' P next z)))))
    codes_select env labels valued tail d b (Extcall at frame name arguments result result_at) own names ls wants P next z =
        let type = type_of (scopes env) (Extcall at frame name arguments result result_at) in
        let row = suc b in
        let seated = row + count_of arguments in
        let given = seated + count_of arguments in
        let d' = inner_plain type b d (λ t r i. own t r (left i)) wants in
        let regs : Within (Listed Plain (regs_of env row arguments)) = λ t r i. own t r (in_right (left i)) in
        let places = listed Seated (seats 0 seated (regs_of env row arguments)) (λ t r i. own t r (in_right (in_right (left i)))) in
        let gives = listed Seated (result_seat given result) (λ t r i. own t r (in_right (in_right (in_right (left i))))) in
        let operands : Within (RowOwn env (suc given) arguments) = λ t r i. own t r (in_right (in_right (in_right (in_right i)))) in
        codes_waiting env labels row (suc given) arguments operands regs names ls P _
        (codes_filled env labels row (suc given) arguments operands regs names ls P _
        (codes_seated 0 seated (regs_of env row arguments) (listed Plain (regs_of env row arguments) regs) places P _
        (asks (all_seats (seats 0 seated (regs_of env row arguments)) places) (gives_result given result gives refl) refl
        (codes_given given result gives d' P next z))))
    codes_select env labels valued tail d b (Seq at elements) own names ls wants P next z =
        let type = type_of (scopes env) (Seq at elements) in
        let d' = inner_plain type b d (λ t r i. own t r (left i)) wants in
        codes_seq env labels (inner_valued valued type) tail _ (suc b) elements (λ t r i. own t r (in_right i)) names ls d' P next z
    codes_select env labels valued tail d b (If at condition e g) own names ls wants P next z =
        let type = type_of (scopes env) (If at condition e g) in
        let d' = inner_plain type b d (λ t r i. own t r (left i)) wants in
        let x = own Plain _ (in_right (left (it refl refl))) in
        let base = suc (suc (suc (suc b))) in
        let test : Within (Own env base condition) = λ t r i. own t r (in_right (in_right (left i))) in
        let others = plain none none refl (codes_select env labels (inner_valued valued type) tail _ (base + width condition + width e) g
        (λ t r i. own t r (in_right (in_right (in_right (in_right i))))) names ls (wants_any env g d') P _ (plain none none refl z)) in
        let both = codes_select env labels (inner_valued valued type) tail _ (base + width condition) e
        (λ t r i. own t r (in_right (in_right (in_right (left i))))) names ls (wants_any env e d') P _ others in
        codes_test env labels (suc (suc b)) base condition test names ls P _ _
        (codes_select env labels false false _ base condition test names ls (wants_any env condition x) P _ (plain (a_plain x) none refl both)) both
    codes_select env labels valued tail d b (Catch at body handlers) own names ls wants P next z =
        let type = type_of (scopes env) (Catch at body handlers) in
        let d' = inner_plain type b d (λ t r i. own t r (left i)) wants in
        let base = suc (suc b) + width_labels handlers in
        let params : Within (LabelsOwn (suc (suc b)) handlers) = λ t r i. own t r (in_right (left i)) in
        let inner = labels_own (suc (suc b)) handlers params in
        plain none none refl
        (codes_select env _ (inner_valued valued type) tail _ base body (λ t r i. own t r (in_right (in_right (left i)))) names (labels_append inner ls)
        (wants_any env body d') P _
        (codes_handlers env _ (inner_valued valued type) tail _ (suc b) (suc (suc b)) (base + width body) handlers
        (λ t r i. own t r (in_right (in_right (in_right i)))) params names (labels_append (labels_inside inner) ls) d' P _ (plain none none refl z)))
    codes_select env labels valued tail d b (Exit at label_at label arguments) own names ls wants P next z =
        let regs : Within (Listed Plain (regs_of env (suc b) arguments)) = λ t r i. own t r (left i) in
        let operands : Within (RowOwn env (suc b + count_of arguments) arguments) = λ t r i. own t r (in_right i) in
        codes_waiting env labels (suc b) (suc b + count_of arguments) arguments operands regs names ls P _
        (codes_filled env labels (suc b) (suc b + count_of arguments) arguments operands regs names ls P _
        (codes_exit (label_fine ls label) (listed Plain (regs_of env (suc b) arguments) regs) P next z))
    codes_select env labels valued tail d b (Alloc at header_at header operands) own names ls wants P next z =
        let type = type_of (scopes env) (Alloc at header_at header operands) in
        let d' = inner_plain type b d (λ t r i. own t r (left i)) wants in
        let row = suc (suc (suc b)) in
        let base = row + count_of operands in
        let p : Reg = fresh_register (suc b) ty.Val in
        let new : Q New (fresh_register (suc b) ty.Val) = own New _ (in_right (left (it refl refl))) in
        let q = own Plain (fresh_register (suc (suc b)) ty.Int) (in_right (in_right (left (it refl refl)))) in
        let regs : Within (Listed Plain (regs_of env row operands)) = λ t r i. own t r (in_right (in_right (in_right (left i)))) in
        let cells : Within (RowOwn env base operands) = λ t r i. own t r (in_right (in_right (in_right (in_right i)))) in
        let there : Reads Q (p ∷ P) p = reads_new new (coded.first refl) in
        codes_waiting env labels row base operands cells regs names ls P _
        (allocs new refl
        (plain none (one q none) refl
        (plain (one there (one (reads_plain q) none)) none refl
        (codes_filled env labels row base operands cells regs names ls (p ∷ P) _
        (codes_cells _ p 0 (listed Plain (regs_of env row operands) regs) (p ∷ P) _ there
        (plain (one there none) (one d' none) refl (coded_more Q (λ r m. later m) z)))))))
    codes_select env labels valued tail d b (Load at chunk address) own names ls wants P next z =
        let type = type_of (scopes env) (Load at chunk address) in
        let d' = inner_plain type b d (λ t r i. own t r (left i)) wants in
        let x = own Plain _ (in_right (left (it refl refl))) in
        codes_base env labels (suc b) (suc (suc b)) address x (λ t r i. own t r (in_right (in_right i))) names ls
        (λ inside v. codes_select env labels false false _ (suc (suc b)) address inside names ls (wants_any env address v)) P _
        (plain (a_plain x) (one d' none) refl z)
    codes_select env labels valued tail d b (Store at chunk address e) own names ls wants P next z =
        let x = own Plain _ (left (it refl refl)) in
        let y = own Plain _ (in_right (left (it refl refl))) in
        codes_ordered (is_left_first (scopes env) address e) _ _
        (codes_base env labels (suc b) (suc (suc (suc b))) address x (λ t r i. own t r (in_right (in_right (left i)))) names ls
        (λ inside v. codes_select env labels false false _ (suc (suc (suc b))) address inside names ls (wants_any env address v)))
        (codes_select env labels false false _ (suc (suc (suc b)) + width address) e (λ t r i. own t r (in_right (in_right (in_right i)))) names ls
        (wants_any env e y)) P _
        (plain (two_plain x y) none refl z)
    codes_select env labels valued tail d b (Checkbound at e g) own names ls wants P next z =
        let x = own Plain _ (left (it refl refl)) in
        let y = own Plain _ (in_right (left (it refl refl))) in
        codes_ordered (is_left_first (scopes env) e g) _ _
        (codes_select env labels false false _ (suc (suc (suc b))) e (λ t r i. own t r (in_right (in_right (left i)))) names ls (wants_any env e x))
        (codes_constant (bound_test_operand bound_test g) _ (codes_select env labels false false _ (suc (suc (suc b)) + width e) g
        (λ t r i. own t r (in_right (in_right (in_right i)))) names ls (wants_any env g y))) P _
        (plain (right_plain (bound_test_operand bound_test g) x y) none refl z)
    codes_select env labels valued tail d b (Raise at e) own names ls wants P next z =
        let x = own Plain _ (left (it refl refl)) in
        let y = own Seated (seat 0 (suc (suc b)) comp.Val) (in_right (left (it refl refl))) in
        codes_select env labels false false _ (suc (suc (suc b))) e (λ t r i. own t r (in_right (in_right i))) names ls (wants_any env e x) P _
        (fills (reads_plain x) y none (asks (one (reads_seat y (coded.first refl)) none) (gives_none refl) refl z))
    codes_select env labels valued tail d b (Switch at size_at size selector cases) own names ls wants P next z =
        let type = type_of (scopes env) (Switch at size_at size selector cases) in
        let d' = inner_plain type b d (λ t r i. own t r (left i)) wants in
        let x = own Plain _ (in_right (left (it refl refl))) in
        let base = suc (suc (suc b)) + count_cases cases in
        codes_select env labels false false _ base selector (λ t r i. own t r (in_right (in_right (left i)))) names ls (wants_any env selector x) P _
        (plain (a_plain x) none refl
        (codes_cases env labels (inner_valued valued type) tail _ _ (suc (suc b)) (suc (suc (suc b))) (base + width selector) cases
        (λ t r i. own t r (in_right (in_right (in_right i)))) names ls d' P _ (plain none none refl z)))
    codes_select env labels valued tail d b (Try at body name_at name handler) own names ls wants P next z =
        let type = type_of (scopes env) (Try at body name_at name handler) in
        let d' = inner_plain type b d (λ t r i. own t r (left i)) wants in
        let x = own Plain (fresh_register (suc (suc (suc b))) ty.Val) (in_right (left (it refl refl))) in
        let y = own Seated (seat 0 (suc (suc (suc (suc b)))) comp.Val) (in_right (in_right (left (it refl refl)))) in
        let base = suc (suc (suc (suc (suc b)))) in
        plain none none refl
        (codes_select env (labels_within_try labels) (inner_valued valued type) false _ base body (λ t r i. own t r (in_right (in_right (in_right (left i))))) names
        (labels_deeper ls) (wants_any env body d') P _
        (plain none none refl
        (handles y
        (empties y x
        (codes_select (raised_name name (suc (suc (suc b))) ∷ env) labels (inner_valued valued type) tail _ (base + width body) handler
        (λ t r i. own t r (in_right (in_right (in_right (in_right i))))) (named x names) ls
        (wants_any (raised_name name (suc (suc (suc b))) ∷ env) handler d') P _ (plain none none refl z))))))

    codes_base : (env : List NamedRegister) (labels : List Label) (t b : ℕ) (e : Expression) → Q Plain (fresh_register t (type_of (scopes env) (base_of e))) → Within
        (BaseOwn env b e (Own env b e)) → EnvFine env → LabelsFine labels →
        (Within (Own env b e) → Q Plain (fresh_register t (type_of (scopes env) e)) → Codes (select env labels false false (fresh_register t (type_of (scopes env) e)) b e)) →
        Codes (select_base env labels t b e (select env labels false false (fresh_register t (type_of (scopes env) e)) b e))
    codes_base env labels t b (Operator at op base (Integer at' w)) q own names ls whole P next z =
        by (is_based op w) (λ own q. codes_select env labels false false _ b base own names ls (wants_any env base q)) q own
      where
        by : (c : Bool) → (Within (Own env b base) → Q Plain (fresh_register t (type_of (scopes env) base)) → Codes
            (select env labels false false (fresh_register t (type_of (scopes env) base)) b base)) → Q Plain
            (fresh_register t (type_of (scopes env) (cond c base (Operator at op base (Integer at' w))))) → Within
            (Either c (Own env b base) (Own env b (Operator at op base (Integer at' w)))) →
            Coded Q [] P (cond c (select env labels false false (fresh_register t (type_of (scopes env) base)) b base next)
            (select env labels false false (fresh_register t (type_of (scopes env) (Operator at op base (Integer at' w)))) b
            (Operator at op base (Integer at' w)) next))
        by true inner q own = inner own q P next z
        by false inner q own = whole own q P next z
    codes_base env labels t b e q own names ls whole P next z = whole own q P next z

    codes_test : (env : List NamedRegister) (labels : List Label) (l b : ℕ) (e : Expression) → Within (Own env b e) → EnvFine env → LabelsFine labels →
        (P : List Reg) (value next : List Instr) → Coded Q [] P value → Coded Q [] P next → Coded Q [] P (select_test env labels l b e value next)
    codes_test env labels l b (Operator at op e g) own names ls P value next v z =
        let s = operation_shape op e g in
        let x = own Plain _ (in_right (left (it refl refl))) in
        let y = own Plain _ (in_right (in_right (left (it refl refl)))) in
        codes_tested (comparison (shape_op s op) (shape_right s)) _ value
        (λ t. codes_ordered (is_left_first (scopes env) e g) _ _
        (codes_left s _ (codes_select env labels false false _ (suc (suc (suc b))) e (λ t r i. own t r (in_right (in_right (in_right (left i))))) names ls
        (wants_any env e x)))
        (codes_right s _ (codes_select env labels false false _ (suc (suc (suc b)) + width e) g
        (λ t r i. own t r (in_right (in_right (in_right (in_right i))))) names ls (wants_any env g y))) P _
        (plain (shape_plain s x y) none refl z))
        v
    codes_test env labels l b e own names ls P value next v z = v

    codes_cases : (env : List NamedRegister) (labels : List Label) (valued tail : Bool) (d : Reg) (all : List ℕ) (end l b : ℕ) (cs : Cases) → Within
        (CasesOwn env b cs) → EnvFine env → LabelsFine labels → Q Plain d → Codes (select_cases env labels valued tail d all end l b cs)
    codes_cases env labels valued tail d all end l b NoCase own names ls q P next z = z
    codes_cases env labels valued tail d all end l b (Choose indexes body rest) own names ls q P next z =
        plain none none refl
        (codes_select env labels valued tail d b body (λ t r i. own t r (left i)) names ls (wants_any env body q) P _
        (codes_cases env labels valued tail d all end (suc l) (b + width body) rest (λ t r i. own t r (in_right i)) names ls q P next z))

    codes_waiting : (env : List NamedRegister) (labels : List Label) (b i : ℕ) (es : Expressions) → Within (RowOwn env i es) → Within
        (Listed Plain (regs_of env b es)) → EnvFine env → LabelsFine labels → Codes (select_waiting env labels b i es)
    codes_waiting env labels b i NoMore own regs names ls P next z = z
    codes_waiting env labels b i (More e rest) own regs names ls P next z =
        codes_waiting env labels (suc b) (i + width e) rest (λ t r i. own t r (in_right i)) (λ t r i. regs t r (in_right i)) names ls P _
        (codes_when (not (is_light_address (scopes env) e)) _ (codes_select env labels false false _ i e (λ t r i. own t r (left i)) names ls
        (wants_any env e (regs Plain _ (left (it refl refl))))) P next z)

    codes_filled : (env : List NamedRegister) (labels : List Label) (b i : ℕ) (es : Expressions) → Within (RowOwn env i es) → Within
        (Listed Plain (regs_of env b es)) → EnvFine env → LabelsFine labels → Codes (select_filled env labels b i es)
    codes_filled env labels b i NoMore own regs names ls P next z = z
    codes_filled env labels b i (More e rest) own regs names ls P next z =
        codes_filled env labels (suc b) (i + width e) rest (λ t r i. own t r (in_right i)) (λ t r i. regs t r (in_right i)) names ls P _
        (codes_when (is_light_address (scopes env) e) _ (codes_select env labels false false _ i e (λ t r i. own t r (left i)) names ls
        (wants_any env e (regs Plain _ (left (it refl refl))))) P next z)

    codes_bound : (env : List NamedRegister) (labels : List Label) (b : ℕ) (bs : Bindings) → Within (BoundOwn env b bs) → EnvFine env → LabelsFine labels → Codes
        (select_bound env labels b bs)
    codes_bound env labels b NoBinding own names ls P next z = z
    codes_bound env labels b (Bind at name declared e rest) own names ls P next z =
        let x = own Plain _ (left (it refl refl)) in
        codes_select env labels false false _ (suc b) e (λ t r i. own t r (in_right (left i))) names ls (wants_any env e x) P _
        (codes_bound (bound_name env b name declared e ∷ env) labels (suc (b + width e)) rest (λ t r i. own t r (in_right (in_right i)))
        (named x names) ls P next z)

    codes_seq : (env : List NamedRegister) (labels : List Label) (valued tail : Bool) (d : Reg) (b : ℕ) (es : Expressions) → Within (SeqOwn env b es) →
        EnvFine env → LabelsFine labels → Q Plain d → Codes (select_seq env labels valued tail d b es)
    codes_seq env labels valued tail d b NoMore own names ls q P next z = z
    codes_seq env labels valued tail d b (More e NoMore) own names ls q P next z =
        codes_select env labels valued tail d (suc b) e (λ t r i. own t r (in_right (left i))) names ls (wants_any env e q) P next z
    codes_seq env labels valued tail d b (More e (More g rest)) own names ls q P next z =
        codes_select env labels false false _ (suc b) e (λ t r i. own t r (in_right (left i))) names ls (kept_of_wants env b e (λ t r i. own t r (left i))) P _
        (codes_seq env labels valued tail d (suc (b + width e)) (More g rest) (λ t r i. own t r (in_right (in_right i))) names ls q P next z)

    codes_handlers : (env : List NamedRegister) (labels : List Label) (valued tail : Bool) (d : Reg) (end l b : ℕ) (hs : Handlers) → Within
        (HandlersOwn env l b hs) → Within (LabelsOwn l hs) → EnvFine env → LabelsFine labels → Q Plain d →
        Codes (select_handlers env labels valued tail d end l b hs)
    codes_handlers env labels valued tail d end l b NoHandler own params names ls q P next z = z
    codes_handlers env labels valued tail d end l b (Handle at label ps body rest) own params names ls q P next z =
        let inner = with_params ps (params_from (suc l) ps) env in
        plain none none refl
        (codes_select inner labels valued tail d b body (λ t r i. own t r (left i))
        (params_env env ps (params_from (suc l) ps) (listed Plain (params_from (suc l) ps) (λ t r i. params t r (left i))) names) ls
        (wants_any inner body q) P _
        (codes_handlers env labels valued tail d end (suc l + length ps) (b + width body) rest (λ t r i. own t r (in_right i))
        (λ t r i. params t r (in_right i)) names ls q P next z))

  -- ---- the whole

  -- the parameters leave their seats
  pub codes_entry : (from to S P : List Reg) → Each (Q Seated) from → Each (Q Plain) to → length from ≡ length to → (next : List Instr) → Coded Q S P next →
      Coded Q (onto from S) P (moves_all from to next)
  codes_entry [] to S P s q e next z = z
  codes_entry (x ∷ from) [] S P s q e next z = absurd (omega (arith, e))
  codes_entry (x ∷ from) (y ∷ to) S P (one s ss) (one q qs) e next z = codes_entry from to (x ∷ S) P ss qs (omega (arith, e)) _ (empties s q z)

  pub codes_returns : (n : ℕ) (result : Ret) {d : Reg} → Q Plain d → Each (Q Seated) (result_seat n result) → Coded Q [] [] (return_code d n result)
  codes_returns n ret.Unit q none = asks none (gives_none refl) refl ends
  codes_returns n (ret.Comp c) q (one s none) = fills (reads_plain q) s none (asks (one (reads_seat s (coded.first refl)) none) (gives_none refl) refl ends)
