-- Selected code gives a number once: each label is that of one mark, and the register of each new block that of one
-- allocation.
use Rattle.std.proofs.Common.{◌≡◌, ℕ, suc, ◌+◌, ◌<◌, ◌≤◌, Bool, true, false, not, ◌&&◌, ◌||◌, ◌⊎◌, inl, inr, ⊎_elim, List, [], ◌∷◌, Option, Some, None, refl, sym, ◌∙◌, arith, le_refl}
use Rattle.std.specs.Prelude.{nat_eq, length}
use Rattle.std.proofs.lemmas.Bool.{true≢false, cases_Bool, eqb-true, and_parts, or_left, or_right}
use Rattle.cmm_tree.specs.Tree.{FunctionTree, Expression, Integer, Pointer, Symbol, Name, Nothing, Float, Let, Assign, Operator, Load, Store, Alloc, App, Extcall, Checkbound, Raise, Seq, If, Switch, Catch, Exit, Try, Expressions, NoMore, More, Bindings, NoBinding, Bind, Cases, NoCase, Choose, Handlers, NoHandler, Handle}
use Rattle.bs_words.specs.declared.operators.IntOp.{IntOp}
use Rattle.bs_words.specs.declared.operators.IntOp.TheVariants.{AddA, Div}
use Rattle.bs_words.specs.declared.types.Ret.{Ret}
use Rattle.bs_words.specs.declared.types.Ret.TheVariants as ret
use Rattle.bs_words.specs.declared.types.Chunk.{Chunk}
use Rattle.cmm_types.specs.Light.{is_light, is_light_operator, is_light_address}
use Rattle.cmm_types.specs.Types.{Scoped, type_of, body_type, result_of}
use Rattle.cmm_meaning.specs.Evaluation.{is_left_first}
use Rattle.mach_ir.specs.declared.reg.Reg.{Reg}
use Rattle.mach_ir.specs.declared.op.Access.TheVariants as access
use Rattle.mach_ir.specs.declared.op.Op.TheVariants as op
use Rattle.mach_ir.specs.declared.mach.MachOp.{MachOp}
use Rattle.mach_ir.specs.declared.mach.MachOp.TheVariants as mach
use Rattle.mach_ir.specs.Meaning.{has_label, is_handler_of}
use Rattle.mach_laws.specs.Expand.{Ending, all, more}
use Rattle.std.proofs.Math.Bool.{or-false}
use Rattle.mach_ir.specs.declared.mach.Instr.{Instr}
use Rattle.selection_rules.specs.Select.{OperandShape, InRegisters, ConstantRight, ConstantLeft, PowerRight, operation_shape, shape_op, shape_right, power_code, operator_code, NamedRegister, Label, scopes, fresh_register, reg_of, visible_label, move_from, move_to, moves_all, exit_to_handler, ordered, only_when, seats, from_seat, to_seat, first_after_colours, params_from, called_symbol, unless_symbol, bound_test_operand, bound_test, comparison, select_test, is_based, select_base, call_of, count_cases, width_cases, select_cases, cell_stores, regs_of, width, width_row, width_bound, width_labels, width_handlers, select, select_waiting, select_filled, select_bound, select_seq, select_handlers, selected, with_params, is_no_value}
use Rattle.cmm_tree.specs.Measures.{count_of}
use Rattle.selection_rules.specs.Instructions as emit
use Rattle.selection_rules.proofs.Choices.{kept_when, kept_unless, kept_constant, kept_left, kept_right, kept_tested, kept_if, kept_ordered}

-- ---- the numbers that an instruction gives

-- the label of a mark, or of a handler
abbrev pub marks : ℕ → MachOp → Bool
marks l op = is_handler_of l op || has_label l op

abbrev pub labelled : ℕ → Instr → Bool
labelled l i = marks l i.op

-- an allocation
abbrev pub is_alloc : MachOp → Bool
is_alloc (mach.Op (op.Access (access.Alloc blocks))) = true
is_alloc _ = false

abbrev writes : ℕ → List Reg → Bool
writes l [] = false
writes l (r ∷ rs) = nat_eq r.number l

-- an allocation that writes the register of this number
abbrev pub makes : ℕ → Instr → Bool
makes l i = is_alloc i.op && writes l i.results

-- a label, or the register of a new block: selection counts both by one number
abbrev gives : ℕ → Instr → Bool
gives l i = makes l i || labelled l i

-- ---- once

-- no instruction of this code gives that number
pub data NoMark (given : ℕ → Instr → Bool) (l : ℕ) : List Instr → Type 0 where
  none : NoMark given l []
  one : {i : Instr} {is : List Instr} → given l i ≡ false → NoMark given l is → NoMark given l (i ∷ is)

-- no number is given twice
pub data Distinct (given : ℕ → Instr → Bool) : List Instr → Type 0 where
  nil : Distinct given []
  cons : {i : Instr} {is : List Instr} → ((l : ℕ) → given l i ≡ true → NoMark given l is) → Distinct given is → Distinct given (i ∷ is)

pub no_mark_in : {given : ℕ → Instr → Bool} {l : ℕ} {i : Instr} {rest code : List Instr} → Ending (i ∷ rest) code → NoMark given l code →
    given l i ≡ true → ⊥
no_mark_in all (one e n) m = true≢false (sym m ∙ e)
no_mark_in (more x) (one e n) m = no_mark_in x n m

-- of what gives a number, some
module _ (every some : ℕ → Instr → Bool) (is_given : (l : ℕ) (i : Instr) → some l i ≡ true → every l i ≡ true) where
  none_of_some : {l : ℕ} {code : List Instr} → NoMark every l code → NoMark some l code
  none_of_some none = none
  none_of_some {l} (one {i = i} e n) =
      one (⊎_elim (λ s. absurd (true≢false (sym (is_given l i s) ∙ e))) (λ s. s) (cases_Bool (some l i))) (none_of_some n)

  some_once : {code : List Instr} → Distinct every code → Distinct some code
  some_once nil = nil
  some_once (cons {i = i} apart d) = cons (λ l e. none_of_some (apart l (is_given l i e))) (some_once d)

label_given : (l : ℕ) (i : Instr) → labelled l i ≡ true → gives l i ≡ true
label_given l i = or_right (makes l i) (labelled l i)

making_given : (l : ℕ) (i : Instr) → makes l i ≡ true → gives l i ≡ true
making_given l i = or_left (makes l i) (labelled l i)

-- code that gives numbers of a set alone, each once
record Marks (In : ℕ → Type 0) (code : List Instr → List Instr) : Type 0 where
  distinct : (next : List Instr) → Distinct gives next → ((l : ℕ) → In l → NoMark gives l next) → Distinct gives (code next)
  outside : (l : ℕ) (next : List Instr) → (In l → ⊥) → NoMark gives l next → NoMark gives l (code next)

pub record Range (lo hi l : ℕ) : Type 0 where
  pub from : lo ≤ l
  pub to : l < hi

wider : {A B : ℕ → Type 0} {code : List Instr → List Instr} → ((l : ℕ) → A l → B l) → Marks A code → Marks B code
wider f m = record { distinct = λ next d c. m.distinct next d (λ l a. c l (f l a)); outside = λ l next un n. m.outside l next (λ a. un (f l a)) n }

seq : {A B : ℕ → Type 0} {x y : List Instr → List Instr} → Marks A x → Marks B y → ((l : ℕ) → A l → B l → ⊥) → Marks (λ l. A l ⊎ B l) (λ next. x (y next))
seq {A} {B} {x} {y} a b apart =
    record {
      distinct = λ next d c. a.distinct (y next) (b.distinct next d (λ l z. c l (inr z))) (λ l z. b.outside l next (λ q. apart l z q) (c l (inl z)));
      outside = λ l next un n. a.outside l (y next) (λ z. un (inl z)) (b.outside l next (λ z. un (inr z)) n);
    }

-- one part after another, in a range that holds both
both_in : {lo hi a b c d : ℕ} {x y : List Instr → List Instr} → Marks (Range a b) x → Marks (Range c d) y → (b ≤ c) ⊎ (d ≤ a) → lo ≤ a → b ≤ hi → lo ≤ c →
    d ≤ hi → Marks (Range lo hi) (λ next. x (y next))
both_in {lo} {hi} {a} {b} {c} {d} m n apart la bh lc dh =
    wider (λ l z. ⊎_elim (λ r. record { from = let f = r.from in omega (arith, f, la); to = let t = r.to in omega (arith, t, bh) })
    (λ r. record { from = let f = r.from in omega (arith, f, lc); to = let t = r.to in omega (arith, t, dh) }) z)
    (seq m n (λ l p q. ⊎_elim (λ le. let t = p.to in let f = q.from in omega (arith, t, f, le))
    (λ le. let t = q.to in let f = p.from in omega (arith, t, f, le)) apart))

widen : {lo hi a b : ℕ} {x : List Instr → List Instr} → lo ≤ a → b ≤ hi → Marks (Range a b) x → Marks (Range lo hi) x
widen la bh m = wider (λ l r. record { from = let f = r.from in omega (arith, f, la); to = let t = r.to in omega (arith, t, bh) }) m

-- code that gives none
abbrev Quiet : (List Instr → List Instr) → Type 0
Quiet code = Marks (λ l. ⊥) code

quiet_in : {A : ℕ → Type 0} {code : List Instr → List Instr} → Quiet code → Marks A code
quiet_in m = wider (λ l z. absurd z) m

then_quiet : {A : ℕ → Type 0} {x y : List Instr → List Instr} → Marks A x → Quiet y → Marks A (λ next. x (y next))
then_quiet m q = wider (λ l z. ⊎_elim (λ a. a) (λ n. absurd n) z) (seq m q (λ l a n. n))

quiet_then : {A : ℕ → Type 0} {x y : List Instr → List Instr} → Quiet x → Marks A y → Marks A (λ next. x (y next))
quiet_then q m = wider (λ l z. ⊎_elim (λ n. absurd n) (λ a. a) z) (seq q m (λ l n a. n))

unmarked : (i : Instr) → ((l : ℕ) → gives l i ≡ false) → Quiet (λ next. i ∷ next)
unmarked i no' = record { distinct = λ next d c. cons (λ l e. absurd (true≢false (sym e ∙ no' l))) d; outside = λ l next un n. one (no' l) n }

-- an instruction that gives one
marked : (n : ℕ) (i : Instr) → ((l : ℕ) → gives l i ≡ nat_eq n l) → Marks (Range n (suc n)) (λ next. i ∷ next)
marked n i is =
    record {
      distinct = λ next d c. cons (λ l e. c l (in_range l (eqb-true n l (sym (is l) ∙ e)))) d;
      outside = λ l next un m. one (⊎_elim (λ e. absurd (un (in_range l (eqb-true n l (sym (is l) ∙ e))))) (λ e. e) (cases_Bool (gives l i))) m;
    }
  where
    in_range : (l : ℕ) → n ≡ l → Range n (suc n) l
    in_range l e = record { from = omega (arith, e); to = omega (arith, e) }

nothing_marked : Quiet (λ next. next)
nothing_marked = record { distinct = λ next d c. d; outside = λ l next un n. n }

no_marks : {A : ℕ → Type 0} → Marks A (λ next. next)
no_marks = quiet_in nothing_marked

from_quiet : (o : Option Reg) (d : Reg) → Quiet (move_from o d)
from_quiet None d = nothing_marked
from_quiet (Some a) d = unmarked (emit.move a d) (λ l. refl)

to_quiet : (a : Reg) (o : Option Reg) → Quiet (move_to a o)
to_quiet a None = nothing_marked
to_quiet a (Some d) = unmarked (emit.move a d) (λ l. refl)

moves_quiet : (from to : List Reg) → Quiet (moves_all from to)
moves_quiet [] to = nothing_marked
moves_quiet (a ∷ from) [] = nothing_marked
moves_quiet (a ∷ from) (d ∷ to) = then_quiet (moves_quiet from to) (unmarked (emit.move a d) (λ l. refl))

exit_quiet : (o : Option Label) (from : List Reg) → Quiet (exit_to_handler o from)
exit_quiet None from = nothing_marked
exit_quiet (Some t) from = then_quiet (moves_quiet from t.params) (unmarked _ (λ l. refl))

cells_quiet : (k : Chunk) (p : Reg) (i : ℕ) (rs : List Reg) → Quiet (cell_stores k p i rs)
cells_quiet k p i [] = nothing_marked
cells_quiet k p i (r ∷ rs) = then_quiet (unmarked _ (λ l. refl)) (cells_quiet k p (suc i) rs)

from_seat_quiet : (n : ℕ) (result : Ret) (d : Reg) → Quiet (from_seat n result d)
from_seat_quiet n ret.Unit d = nothing_marked
from_seat_quiet n (ret.Comp c) d = unmarked _ (λ l. refl)

call_quiet : (tail valued : Bool) (result : Ret) (o : Option (List ℕ)) (f : Reg) (regs : List Reg) (n : ℕ) (d : Reg) → Quiet
    (call_of tail valued result o f regs n d)
call_quiet true valued result o f regs n d = unmarked _ (λ l. refl)
call_quiet false valued result o f regs n d = then_quiet (unmarked _ (λ l. refl)) (from_seat_quiet n result d)

ordered_marks : {a b c d lo hi : ℕ} {x y : List Instr → List Instr} (first_after_colours : Bool) → Marks (Range a b) x → Marks (Range c d) y → b ≤ c → lo ≤ a → b ≤ hi →
    lo ≤ c → d ≤ hi → Marks (Range lo hi) (ordered first_after_colours x y)
ordered_marks true m n le la bh lc dh = both_in m n (inl le) la bh lc dh
ordered_marks false m n le la bh lc dh = both_in n m (inr le) lc dh la bh

power_quiet : (f : IntOp) (k : ℕ) (x y d : Reg) → Quiet (power_code f k x y d)
power_quiet Div k x y d = then_quiet (unmarked _ (λ l. refl)) (then_quiet (unmarked _ (λ l. refl))
    (then_quiet (unmarked _ (λ l. refl)) (unmarked _ (λ l. refl))))
power_quiet f k x y d =
    then_quiet (unmarked _ (λ l. refl)) (then_quiet (unmarked _ (λ l. refl)) (then_quiet (unmarked _ (λ l. refl))
    (then_quiet (unmarked _ (λ l. refl)) (then_quiet (unmarked _ (λ l. refl)) (unmarked _ (λ l. refl))))))

operator_quiet : (s : OperandShape) (f : IntOp) (x y d : Reg) → Quiet (operator_code s f x y d)
operator_quiet (PowerRight k) f x y d = power_quiet f k x y d
operator_quiet InRegisters f x y d = unmarked _ (λ l. refl)
operator_quiet (ConstantRight i) f x y d = unmarked _ (λ l. refl)
operator_quiet (ConstantLeft i) f x y d = unmarked _ (λ l. refl)

-- ---- light operands

light_quiet : (env : List NamedRegister) (labels : List Label) (valued tail : Bool) (d : Reg) (b : ℕ) (e : Expression) → is_light (scopes env) e ≡ true → Quiet
    (select env labels valued tail d b e)
light_quiet env labels valued tail d b (Integer at w) light = unmarked _ (λ l. refl)
light_quiet env labels valued tail d b (Symbol at w) light = unmarked _ (λ l. refl)
light_quiet env labels valued tail d b (Name at x) light = from_quiet (reg_of env x) _
light_quiet env labels valued tail d b (Operator at op left right) light =
    let both = (and_parts (is_light_operator op) (is_light (scopes env) left && is_light (scopes env) right) light).1 in
    then_quiet
    (kept_ordered Quiet (λ x y. then_quiet) (is_left_first (scopes env) left right)
    (kept_left (Marks _) no_marks (operation_shape op left right) (light_quiet env labels false false _ _ left
    (and_parts (is_light (scopes env) left) (is_light (scopes env) right) both).0))
    (kept_right (Marks _) no_marks (operation_shape op left right) (light_quiet env labels false false _ _ right
    (and_parts (is_light (scopes env) left) (is_light (scopes env) right) both).1)))
    (operator_quiet (operation_shape op left right) op _ _ _)
light_quiet env labels valued tail d b (Pointer at w) light = absurd (true≢false (sym light))
light_quiet env labels valued tail d b (Nothing at) light = absurd (true≢false (sym light))
light_quiet env labels valued tail d b (Float at q es) light = absurd (true≢false (sym light))
light_quiet env labels valued tail d b (Let at bs body) light = absurd (true≢false (sym light))
light_quiet env labels valued tail d b (Assign at q x e) light = absurd (true≢false (sym light))
light_quiet env labels valued tail d b (Load at k e) light = absurd (true≢false (sym light))
light_quiet env labels valued tail d b (Store at k e g) light = absurd (true≢false (sym light))
light_quiet env labels valued tail d b (Alloc at q h es) light = absurd (true≢false (sym light))
light_quiet env labels valued tail d b (App at e es r q) light = absurd (true≢false (sym light))
light_quiet env labels valued tail d b (Extcall at frame x es r q) light = absurd (true≢false (sym light))
light_quiet env labels valued tail d b (Checkbound at e g) light = absurd (true≢false (sym light))
light_quiet env labels valued tail d b (Raise at e) light = absurd (true≢false (sym light))
light_quiet env labels valued tail d b (Seq at es) light = absurd (true≢false (sym light))
light_quiet env labels valued tail d b (If at e g h) light = absurd (true≢false (sym light))
light_quiet env labels valued tail d b (Switch at q n e cs) light = absurd (true≢false (sym light))
light_quiet env labels valued tail d b (Catch at e hs) light = absurd (true≢false (sym light))
light_quiet env labels valued tail d b (Exit at q l es) light = absurd (true≢false (sym light))
light_quiet env labels valued tail d b (Try at e q x g) light = absurd (true≢false (sym light))

pub address_is_light : (sc : List Scoped) (e : Expression) → is_light_address sc e ≡ true → is_light sc e ≡ true
address_is_light sc (Operator at AddA left right) light = light
address_is_light sc e light = absurd (true≢false (sym light))

light_when : (env : List NamedRegister) (labels : List Label) (d : Reg) (b : ℕ) (e : Expression) (q : Bool) → is_light_address (scopes env) e ≡ q → Quiet
    (only_when q (select env labels false false d b e))
light_when env labels d b e true is = light_quiet env labels false false d b e (address_is_light (scopes env) e is)
light_when env labels d b e false is = nothing_marked

filled_quiet : (env : List NamedRegister) (labels : List Label) (b i : ℕ) (es : Expressions) → Quiet (select_filled env labels b i es)
filled_quiet env labels b i NoMore = nothing_marked
filled_quiet env labels b i (More e rest) = then_quiet (filled_quiet env labels (suc b) (i + width e) rest)
    (light_when env labels _ i e (is_light_address (scopes env) e) refl)

abbrev pub row_sum : Expressions → ℕ
row_sum NoMore = 0
row_sum (More e rest) = width e + row_sum rest

pub row_width : (es : Expressions) → count_of es + row_sum es ≡ width_row es
row_width NoMore = refl
row_width (More e rest) = let further = row_width rest in omega (arith, further)

apart_left : {a b c d l : ℕ} → b ≤ c → Range a b l → Range c d l → ⊥
apart_left le p q = let t = p.to in let f = q.from in omega (arith, t, f, le)

apart_right : {a b c d l : ℕ} → d ≤ a → Range a b l → Range c d l → ⊥
apart_right le p q = let t = q.to in let f = p.from in omega (arith, t, f, le)

inside : {lo hi a b l : ℕ} → lo ≤ a → b ≤ hi → Range a b l → Range lo hi l
inside la bh r = let f = r.from in let t = r.to in record { from = omega (arith, f, la); to = omega (arith, t, bh) }

-- the callee of a call, before the operands that have waited where it is no light address, and else after them
callee_marks : {lo hi : ℕ} (env : List NamedRegister) (labels : List Label) (f : Reg) (callee : Expression) (base row i : ℕ) (arguments : Expressions)
    (light : Bool) (o : Option (List ℕ)) → is_light_address (scopes env) callee ≡ light →
    Marks (Range lo hi) (select env labels false false f base callee) →
    Marks (Range lo hi)
    (λ next. only_when (not light) (unless_symbol o (select env labels false false f base callee))
    (select_filled env labels row i arguments (only_when light (select env labels false false f base callee) next)))
callee_marks env labels f callee base row i arguments true o is m = quiet_in
    (then_quiet (filled_quiet env labels row i arguments) (light_quiet env labels false false f base callee (address_is_light (scopes env) callee is)))
callee_marks env labels f callee base row i arguments false o is m = then_quiet (kept_unless (Marks _) no_marks o m) (filled_quiet env labels row i arguments)

mutual
  marks_select : (env : List NamedRegister) (labels : List Label) (valued tail : Bool) (d : Reg) (b : ℕ) (e : Expression) → Marks (Range b (b + width e))
      (select env labels valued tail d b e)
  marks_select env labels valued tail d b (Integer at w) = quiet_in (unmarked _ (λ l. refl))
  marks_select env labels valued tail d b (Pointer at w) = quiet_in (unmarked _ (λ l. refl))
  marks_select env labels valued tail d b (Symbol at w) = quiet_in (unmarked _ (λ l. refl))
  marks_select env labels valued tail d b (Name at x) = quiet_in (from_quiet (reg_of env x) _)
  marks_select env labels valued tail d b (Nothing at) = quiet_in nothing_marked
  marks_select env labels valued tail d b (Let at bindings body) =
      both_in (marks_bound env labels (suc b) bindings) (marks_select _ labels _ tail _ (suc b + width_bound bindings) body)
      (inl (le_refl (suc b + width_bound bindings))) (omega arith) (omega arith) (omega arith) (omega arith)
  marks_select env labels valued tail d b (Assign at q x e) = then_quiet
      (widen (omega arith) (omega arith) (marks_select env labels false false _ (suc (suc b)) e)) (to_quiet _ (reg_of env x))
  marks_select env labels valued tail d b (Operator at op left right) =
      then_quiet
      (ordered_marks (is_left_first (scopes env) left right) (kept_left (Marks _) no_marks (operation_shape op left right)
      (marks_select env labels false false _ (suc (suc (suc b))) left))
      (kept_right (Marks _) no_marks (operation_shape op left right) (marks_select env labels false false _ (suc (suc (suc b)) + width left) right))
      (le_refl (suc (suc (suc b)) + width left)) (omega arith) (omega arith) (omega arith) (omega arith))
      (operator_quiet (operation_shape op left right) op _ _ _)
  marks_select env labels valued tail d b (App at callee arguments result result_at) =
      let row = suc (suc b) in
      let base = suc (row + count_of arguments + count_of arguments) in
      let sum = row_width arguments in
      then_quiet
      (both_in (marks_waiting env labels row (base + width callee) arguments)
      (callee_marks env labels _ callee base row (base + width callee) arguments (is_light_address (scopes env) callee) (called_symbol callee) refl
      (marks_select env labels false false _ base callee))
      (inr (le_refl (base + width callee))) (omega arith) (omega (arith, sum)) (omega arith) (omega (arith, sum)))
      (then_quiet (moves_quiet (regs_of env row arguments) _) (call_quiet tail _ result (called_symbol callee) _ _ _ _))
  marks_select env labels valued tail d b (Extcall at frame name arguments result result_at) =
      let given = suc b + count_of arguments + count_of arguments in
      let sum = row_width arguments in
      then_quiet (widen (omega arith) (omega (arith, sum)) (marks_waiting env labels (suc b) (suc given) arguments))
      (then_quiet (filled_quiet env labels (suc b) (suc given) arguments)
      (then_quiet (moves_quiet (regs_of env (suc b) arguments) _) (then_quiet (unmarked _ (λ l. refl)) (from_seat_quiet _ result _))))
  marks_select env labels valued tail d b (Seq at elements) = widen (omega arith) (omega arith) (marks_seq env labels _ tail _ (suc b) elements)
  marks_select env labels valued tail d b (If at condition on_true on_false) =
      let base = suc (suc (suc (suc b))) in
      let mc = marks_test env labels _ base condition _ (then_quiet (marks_select env labels false false _ base condition) (unmarked _ (λ l. refl))) in
      let mt = marks_select env labels _ tail _ (base + width condition) on_true in
      let mf = marks_select env labels _ tail _ (base + width condition + width on_true) on_false in
      let ml = marked (suc (suc b)) _ (λ l. refl) in
      let me = marked (suc (suc (suc b))) _ (λ l. refl) in
      wider
      (λ l z. ⊎_elim (inside (omega arith) (omega arith)) (λ z. ⊎_elim (inside (omega arith) (omega arith)) (λ z. ⊎_elim (inside (omega arith) (omega arith)) (λ z. ⊎_elim (inside (omega arith) (omega arith)) (inside (omega arith) (omega arith)) z) z) z) z)
      (seq mc
      (seq mt
      (seq ml
      (seq mf me (λ l p q. apart_right (omega arith) p q))
      (λ l p q. ⊎_elim (λ q. apart_left (omega arith) p q) (λ q. apart_left (omega arith) p q) q))
      (λ l p q. ⊎_elim (λ q. apart_right (omega arith) p q) (λ q. ⊎_elim (λ q. apart_left (omega arith) p q) (λ q. apart_right (omega arith) p q) q) q))
      (λ l p q. ⊎_elim (λ q. apart_left (omega arith) p q) (λ q. ⊎_elim (λ q. apart_right (omega arith) p q) (λ q. ⊎_elim (λ q. apart_left (omega arith) p q) (λ q. apart_right (omega arith) p q) q) q) q))
  marks_select env labels valued tail d b (Catch at body handlers) =
      let base = suc (suc b) + width_labels handlers in
      let mh = marks_handlers env _ _ tail _ (suc b) (suc (suc b)) (base + width body) handlers (omega arith) in
      let mb = marks_select env _ _ tail _ base body in
      let me = marked (suc b) _ (λ l. refl) in
      quiet_then (unmarked _ (λ l. refl))
      (wider (λ l z. ⊎_elim (inside (omega arith) (omega arith)) (λ z. ⊎_elim (λ z. ⊎_elim (inside (omega arith) (omega arith)) (inside (omega arith) (omega arith)) z) (inside (omega arith) (omega arith)) z) z)
      (seq mb
      (seq mh me (λ l p q. ⊎_elim (λ p. apart_right (omega arith) p q) (λ p. apart_right (omega arith) p q) p))
      (λ l p q. ⊎_elim (λ q. ⊎_elim (λ q. apart_right (omega arith) p q) (λ q. apart_left (omega arith) p q) q) (λ q. apart_right (omega arith) p q) q)))
  marks_select env labels valued tail d b (Exit at q label arguments) =
      let sum = row_width arguments in
      then_quiet (widen (omega arith) (omega (arith, sum)) (marks_waiting env labels (suc b) (suc b + count_of arguments) arguments))
      (then_quiet (filled_quiet env labels (suc b) (suc b + count_of arguments) arguments) (exit_quiet (visible_label labels label) _))
  marks_select env labels valued tail d b (Float at q es) = quiet_in nothing_marked
  marks_select env labels valued tail d b (Alloc at q h operands) =
      let row = suc (suc (suc b)) in
      let sum = row_width operands in
      both_in (marks_waiting env labels row (row + count_of operands) operands)
      (then_quiet (marked (suc b) _ (λ l. or-false (nat_eq (suc b) l))) (then_quiet (unmarked _ (λ l. refl)) (then_quiet (unmarked _ (λ l. refl))
      (then_quiet (filled_quiet env labels row (row + count_of operands) operands)
      (then_quiet (cells_quiet _ _ 0 (regs_of env row operands)) (unmarked _ (λ l. refl)))))))
      (inr (omega arith)) (omega arith) (omega (arith, sum)) (omega arith) (omega (arith, sum))
  marks_select env labels valued tail d b (Load at k e) =
      then_quiet (widen (omega arith) (omega arith) (marks_base env labels _ (suc (suc b)) e _ (marks_select env labels false false _ (suc (suc b)) e)))
      (unmarked _ (λ l. refl))
  marks_select env labels valued tail d b (Raise at e) =
      then_quiet (widen (omega arith) (omega arith) (marks_select env labels false false _ (suc (suc (suc b))) e))
      (then_quiet (unmarked _ (λ l. refl)) (unmarked _ (λ l. refl)))
  marks_select env labels valued tail d b (Store at k left right) =
      then_quiet
      (ordered_marks (is_left_first (scopes env) left right) (marks_base env labels _ (suc (suc (suc b))) left _
      (marks_select env labels false false _ (suc (suc (suc b))) left)) (marks_select env labels false false _ (suc (suc (suc b)) + width left) right)
      (le_refl (suc (suc (suc b)) + width left)) (omega arith) (omega arith) (omega arith) (omega arith))
      (unmarked _ (λ l. refl))
  marks_select env labels valued tail d b (Checkbound at left right) =
      then_quiet
      (ordered_marks (is_left_first (scopes env) left right) (marks_select env labels false false _ (suc (suc (suc b))) left)
      (kept_constant (Marks _) no_marks (bound_test_operand bound_test right) (marks_select env labels false false _ (suc (suc (suc b)) + width left) right))
      (le_refl (suc (suc (suc b)) + width left)) (omega arith) (omega arith) (omega arith) (omega arith))
      (unmarked _ (λ l. refl))
  marks_select env labels valued tail d b (Switch at q n e cs) =
      let base = suc (suc (suc b)) + count_cases cs in
      let mc = marks_cases env labels _ tail _ _ (suc (suc b)) (suc (suc (suc b))) (base + width e) cs (omega arith) in
      let ms = marks_select env labels false false _ base e in
      let me = marked (suc (suc b)) _ (λ l. refl) in
      wider (λ l z. ⊎_elim (inside (omega arith) (omega arith)) (λ z. ⊎_elim (λ z. ⊎_elim (inside (omega arith) (omega arith)) (inside (omega arith) (omega arith)) z) (inside (omega arith) (omega arith)) z) z)
      (seq ms
      (quiet_then (unmarked _ (λ l. refl))
      (seq mc me (λ l p q. ⊎_elim (λ p. apart_right (omega arith) p q) (λ p. apart_right (omega arith) p q) p)))
      (λ l p q. ⊎_elim (λ q. ⊎_elim (λ q. apart_right (omega arith) p q) (λ q. apart_left (omega arith) p q) q) (λ q. apart_right (omega arith) p q) q))
  marks_select env labels valued tail d b (Try at e q x g) =
      let base = suc (suc (suc (suc (suc b)))) in
      let mb = marks_select env _ _ false _ base e in
      let mh = marks_select _ labels _ tail _ (base + width e) g in
      let ml = marked (suc b) _ (λ l. or-false (nat_eq (suc b) l)) in
      let me = marked (suc (suc b)) _ (λ l. refl) in
      quiet_then (unmarked _ (λ l. refl))
      (wider
      (λ l z. ⊎_elim (inside (omega arith) (omega arith)) (λ z. ⊎_elim (inside (omega arith) (omega arith)) (λ z. ⊎_elim (inside (omega arith) (omega arith)) (inside (omega arith) (omega arith)) z) z) z)
      (seq mb
      (quiet_then (unmarked _ (λ l. refl))
      (seq ml
      (quiet_then (unmarked _ (λ l. refl)) (seq mh me (λ l p q. apart_right (omega arith) p q)))
      (λ l p q. ⊎_elim (λ q. apart_left (omega arith) p q) (λ q. apart_left (omega arith) p q) q)))
      (λ l p q. ⊎_elim (λ q. apart_right (omega arith) p q) (λ q. ⊎_elim (λ q. apart_left (omega arith) p q) (λ q. apart_right (omega arith) p q) q) q)))

  marks_base : (env : List NamedRegister) (labels : List Label) (t b : ℕ) (e : Expression) (whole : List Instr → List Instr) → Marks (Range b (b + width e)) whole →
      Marks (Range b (b + width e)) (select_base env labels t b e whole)
  marks_base env labels t b (Operator at op base (Integer at' w)) whole m =
      kept_if (Marks _) (is_based op w) (widen (omega arith) (omega arith) (marks_select env labels false false (fresh_register t (type_of (scopes env) base)) b base)) m
  marks_base env labels t b e whole m = m

  marks_test : (env : List NamedRegister) (labels : List Label) (l b : ℕ) (e : Expression) (value : List Instr → List Instr) → Marks (Range b (b + width e)) value →
      Marks (Range b (b + width e)) (λ next. select_test env labels l b e (value next) next)
  marks_test env labels l b (Operator at op left right) value v =
      let s = operation_shape op left right in
      kept_tested (Marks _) (comparison (shape_op s op) (shape_right s)) _
      (λ t. then_quiet
      (ordered_marks (is_left_first (scopes env) left right) (kept_left (Marks _) no_marks s (marks_select env labels false false _ (suc (suc (suc b))) left))
      (kept_right (Marks _) no_marks s (marks_select env labels false false _ (suc (suc (suc b)) + width left) right))
      (le_refl (suc (suc (suc b)) + width left)) (omega arith) (omega arith) (omega arith) (omega arith))
      (unmarked _ (λ l. refl)))
      v
  marks_test env labels l b e value v = v

  marks_cases : (env : List NamedRegister) (labels : List Label) (valued tail : Bool) (d : Reg) (places : List ℕ) (end l i : ℕ) (cs : Cases) → l + count_cases cs ≤ i →
      Marks (λ n. Range l (l + count_cases cs) n ⊎ Range i (i + width_cases cs) n) (select_cases env labels valued tail d places end l i cs)
  marks_cases env labels valued tail d places end l i NoCase le = quiet_in nothing_marked
  marks_cases env labels valued tail d places end l i (Choose indexes body rest) le =
      let mr = marks_cases env labels valued tail d places end (suc l) (i + width body) rest (omega (arith, le)) in
      let ml = marked l _ (λ n. refl) in
      let mb = marks_select env labels valued tail d i body in
      wider
      (λ n z. ⊎_elim (λ r. inl (inside (omega arith) (omega arith) r)) (λ z. ⊎_elim (λ r. inr (inside (omega arith) (omega arith) r)) (λ z. ⊎_elim (λ r. inl (inside (omega arith) (omega arith) r)) (λ r. inr (inside (omega arith) (omega arith) r)) z) z) z)
      (seq ml
      (seq mb mr (λ n p q. ⊎_elim (λ q. apart_right (omega (arith, le)) p q) (λ q. apart_left (omega arith) p q) q))
      (λ n p q. ⊎_elim (λ q. apart_left (omega (arith, le)) p q) (λ q. ⊎_elim (λ q. apart_left (omega arith) p q) (λ q. apart_left (omega (arith, le)) p q) q) q))

  marks_waiting : (env : List NamedRegister) (labels : List Label) (b i : ℕ) (es : Expressions) → Marks (Range i (i + row_sum es)) (select_waiting env labels b i es)
  marks_waiting env labels b i NoMore = quiet_in nothing_marked
  marks_waiting env labels b i (More e rest) =
      both_in (marks_waiting env labels (suc b) (i + width e) rest) (kept_when (Marks _) no_marks (not (is_light_address (scopes env) e))
      (marks_select env labels false false _ i e)) (inr (le_refl (i + width e)))
      (omega arith) (omega arith) (omega arith) (omega arith)

  marks_bound : (env : List NamedRegister) (labels : List Label) (b : ℕ) (bs : Bindings) → Marks (Range b (b + width_bound bs)) (select_bound env labels b bs)
  marks_bound env labels b NoBinding = quiet_in nothing_marked
  marks_bound env labels b (Bind at x declared e rest) =
      both_in (marks_select env labels false false _ (suc b) e) (marks_bound _ labels (suc (b + width e)) rest) (inl (omega arith)) (omega arith)
      (omega arith) (omega arith) (omega arith)

  marks_seq : (env : List NamedRegister) (labels : List Label) (valued tail : Bool) (d : Reg) (b : ℕ) (es : Expressions) → Marks (Range b (b + width_row es))
      (select_seq env labels valued tail d b es)
  marks_seq env labels valued tail d b NoMore = quiet_in nothing_marked
  marks_seq env labels valued tail d b (More e NoMore) = widen (omega arith) (omega arith) (marks_select env labels valued tail d (suc b) e)
  marks_seq env labels valued tail d b (More e (More g rest)) =
      both_in (marks_select env labels false false _ (suc b) e) (marks_seq env labels valued tail d (suc (b + width e)) (More g rest)) (inl (omega arith))
      (omega arith) (omega arith) (omega arith) (omega arith)

  marks_handlers : (env : List NamedRegister) (labels : List Label) (valued tail : Bool) (d : Reg) (end l i : ℕ) (hs : Handlers) → l + width_labels hs ≤ i →
      Marks (λ n. Range l (l + width_labels hs) n ⊎ Range i (i + width_handlers hs) n) (select_handlers env labels valued tail d end l i hs)
  marks_handlers env labels valued tail d end l i NoHandler le = quiet_in nothing_marked
  marks_handlers env labels valued tail d end l i (Handle at label params body rest) le =
      let mr = marks_handlers env labels valued tail d end (suc l + length params) (i + width body) rest (omega (arith, le)) in
      let ml = marked l _ (λ n. refl) in
      let mb = marks_select _ labels valued tail d i body in
      wider
      (λ n z. ⊎_elim (λ r. inl (inside (omega arith) (omega arith) r)) (λ z. ⊎_elim (λ r. inr (inside (omega arith) (omega arith) r)) (λ z. ⊎_elim (λ r. inl (inside (omega arith) (omega arith) r)) (λ r. inr (inside (omega arith) (omega arith) r)) z) z) z)
      (seq ml
      (seq mb mr (λ n p q. ⊎_elim (λ q. apart_right (omega (arith, le)) p q) (λ q. apart_left (omega arith) p q) q))
      (λ n p q. ⊎_elim (λ q. apart_left (omega (arith, le)) p q) (λ q. ⊎_elim (λ q. apart_left (omega arith) p q) (λ q. apart_left (omega (arith, le)) p q) q) q))

returns_quiet : (d : Reg) (n : ℕ) (result : Ret) → Quiet (to_seat d n result)
returns_quiet d n ret.Unit = nothing_marked
returns_quiet d n (ret.Comp c) = unmarked _ (λ l. refl)

abbrev body_start : FunctionTree → ℕ
body_start f = suc (suc (first_after_colours + length f.params + length f.params))

whole_marks : (f : FunctionTree) → Marks (Range (body_start f) (body_start f + width f.body))
    (λ next. moves_all (seats 0 first_after_colours (params_from (first_after_colours + length f.params) f.params)) (params_from (first_after_colours + length f.params) f.params)
    (select (with_params f.params (params_from (first_after_colours + length f.params) f.params) []) [] (not (is_no_value (body_type f))) true
    (fresh_register (first_after_colours + length f.params + length f.params) (body_type f)) (body_start f) f.body
    (to_seat (fresh_register (first_after_colours + length f.params + length f.params) (body_type f)) (suc (first_after_colours + length f.params + length f.params))
    (result_of (body_type f)) next)))
whole_marks f =
    quiet_then (moves_quiet (seats 0 first_after_colours (params_from (first_after_colours + length f.params) f.params)) (params_from (first_after_colours + length f.params) f.params))
    (then_quiet (marks_select _ [] _ true _ _ f.body) (returns_quiet _ _ (result_of (body_type f))))

once : (f : FunctionTree) → Distinct gives (selected f).code
once f = let whole = whole_marks f in whole.distinct _ (cons (λ l e. absurd (true≢false (sym e))) nil) (λ l r. one refl none)

-- Each label of selected code is marked once.
pub selected_once : (f : FunctionTree) → Distinct labelled (selected f).code
selected_once f = some_once gives labelled label_given (once f)

-- No register of a new block is written by two allocations.
pub selected_makes_once : (f : FunctionTree) → Distinct makes (selected f).code
selected_makes_once f = some_once gives makes making_given (once f)

-- Each label of selected code is below the number of its labels.
pub selected_below : (f : FunctionTree) (l : ℕ) → (l < (selected f).labels → ⊥) → NoMark labelled l (selected f).code
selected_below f l above = let whole = whole_marks f in none_of_some gives labelled label_given (whole.outside l _ (λ r. above r.to) (one refl none))
