-- Each instruction of selected code has a form of Mach, and its operands and results are where the conventions put them.
use Rattle.std.proofs.Common.{◌≡◌, ℕ, zero, suc, ◌+◌, ◌/◌, ◌<◌, ◌≤◌, Bool, true, false, cond, nat_le, leb-true, List, [], ◌∷◌, ◌++◌, length, drop, Option, Some, None, refl, sym, ap, ◌∙◌, subst, arith}
use Rattle.std.specs.Prelude.{◌≢◌, ◌==◌, nat_lt, nat_eq, ◌^◌, slice_index_or}
use Rattle.std.proofs.Math.Seq.{drop-cons}
use Rattle.std.proofs.lemmas.Bool.{true≢false, lt-ltb, and_parts}
use Rattle.std.proofs.lemmas.List.Elements.{All-nil, All-cons}
use Rattle.bs_words.specs.declared.operators.IntOp.{IntOp}
use Rattle.bs_words.specs.declared.operators.IntOp.TheVariants as operator
use Rattle.bs_words.specs.declared.types.Chunk.{Chunk}
use Rattle.bs_words.specs.declared.types.Comp.{Comp}
use Rattle.bs_words.specs.declared.types.Comp.TheVariants as comp
use Rattle.bs_words.specs.declared.types.Loc.{Loc}
use Rattle.bs_words.specs.declared.types.Loc.TheVariants as loc
use Rattle.bs_words.specs.declared.types.Ret.{Ret}
use Rattle.bs_words.specs.declared.types.Ret.TheVariants as ret
use Rattle.bs_words.specs.declared.types.Ty.{Ty}
use Rattle.bs_words.specs.declared.types.Ty.TheVariants as ty
use Rattle.cmm_tree.specs.Tree.{Expression, Integer, Expressions, NoMore, More}
use Rattle.cmm_types.specs.Faults.{row_length, is_header}
use Rattle.cmm_types.specs.Types.{type_of, is_address, comp_of_argument}
use Rattle.cmm_meaning.specs.Evaluation.{comps_of_arguments}
use Rattle.mach_ir.specs.Formed.{comps, IsFormedInstruction, formed_op, formed_mark, MarkHasForm, if_form, switch_form, handler_form, AreDistinct}
use Rattle.mach_ir.specs.Forms.{IsBlock, is_immediate, IsRight, a_register, a_constant, by_symbol, by_register, IsTested, holds, signed, unsigned, results_of_type, HasForm, copies, constant, symbol, operates, loads, stores, allocates, calls, tail_calls, calls_out, checks, raises, returns}
use Rattle.mach_ir.specs.Seats.{argument_locations, result_locations, operand_seats, result_seats, mach_operand_seats, mach_result_seats, places_of, AreSeated, anywhere, in_order, after_first, InOrder, AfterFirst}
use Rattle.mach_ir.specs.declared.blocks.NewBlock.{NewBlock}
use Rattle.mach_ir.specs.declared.mach.Instr.{Instr}
use Rattle.mach_ir.specs.declared.mach.Mark.{Mark}
use Rattle.mach_ir.specs.declared.mach.MachOp.{MachOp}
use Rattle.mach_ir.specs.declared.mach.MachOp.TheVariants as mach
use Rattle.mach_ir.specs.declared.mach.Test.{Test}
use Rattle.mach_ir.specs.declared.mach.Test.TheVariants as test
use Rattle.mach_ir.specs.declared.op.Calling.TheVariants as calling
use Rattle.mach_ir.specs.declared.op.External as declared
use Rattle.mach_ir.specs.declared.op.Pure.TheVariants as pure
use Rattle.mach_ir.specs.declared.op.Callee.TheVariants as callee
use Rattle.mach_ir.specs.declared.op.Leaving.TheVariants as leaving
use Rattle.mach_ir.specs.declared.op.Op.{Op}
use Rattle.mach_ir.specs.declared.op.Op.TheVariants as op
use Rattle.mach_ir.specs.declared.op.Right.{Right}
use Rattle.mach_ir.specs.declared.op.Right.TheVariants as right
use Rattle.mach_ir.specs.declared.reg.Reg.{Reg}
use Rattle.selection_rules.proofs.Commuting.{IsExponent, no_power, power, exponents}
use Rattle.selection_laws.specs.Fits.{IsWord, NoAddress}
use Rattle.selection_rules.specs.Instructions.{bare_mark, right_regs}
use Rattle.selection_rules.specs.Instructions as emit
use Rattle.selection_rules.specs.Select.{Immediate, exponent_if, exponent_from, shift_by, immediate_if, immediate_of, commuted, right_immediate, if_commuted, left_immediate, power_of, power_shape, OperandShape, InRegisters, ConstantRight, ConstantLeft, PowerRight, shape, operation_shape, shape_op, shape_right, shape_args, bound_test_operand, bound_test, comparison, NamedRegister, scopes, seat, seats, result_seat, callee_of, callee_regs, regs_of, comp_of_type}
use Rattle.cmm_tree.specs.Measures.{count_of}
use Rattle.selection_rules.proofs.Rows.{row_count}
use Rattle.std.proofs.lemmas.Option.{none-some}
use Rattle.mach_laws.proofs.Among.{none_distinct}

abbrev pub is_return : MachOp → Bool
is_return (mach.Op (op.Leaving leaving.Return)) = true
is_return _ = false

-- what is to hold of an instruction of a function that is written with this result
pub record IsProper (given : Ret) (i : Instr) : Type 0 where
  pub formed : IsFormedInstruction i
  pub distinct : AreDistinct i.results
  pub operands : AreSeated (mach_operand_seats i.op) (places_of i.args)
  pub results : AreSeated (mach_result_seats i.op) (places_of i.results)
  pub gives : is_return i.op ≡ true → comps i.args ≡ results_of_type given

one_distinct : (d : Reg) → AreDistinct (d ∷ [])
one_distinct d i j e below within = absurd (omega arith)

-- ---- places that the convention fixes

pub record Begins (ls places : List Loc) : Type 0 where
  pub more : List Loc
  pub whole : ls ++ more ≡ places

seats_begin : (i n : ℕ) (rs : List Reg) → i + length rs ≤ 16 → Begins (places_of (seats i n rs)) (drop i argument_locations)
seats_begin i n [] few = record { more = drop i argument_locations; whole = refl }
seats_begin i n (r ∷ rs) few =
    let others = seats_begin (suc i) (suc n) rs (omega (arith, few)) in
    record { more = others.more; whole = ap (λ ls. slice_index_or argument_locations i loc.Unset ∷ ls) others.whole ∙ sym (drop-cons argument_locations i loc.Unset (omega (arith, few))) }

pub seats_in_order : (n : ℕ) (rs : List Reg) → length rs ≤ 16 → AreSeated (InOrder argument_locations) (places_of (seats 0 n rs))
seats_in_order n rs few = let b = seats_begin 0 n rs (omega (arith, few)) in in_order b.more b.whole

seats_after_first : (l : Loc) (n : ℕ) (rs : List Reg) → length rs ≤ 16 → AreSeated (AfterFirst argument_locations) (l ∷ places_of (seats 0 n rs))
seats_after_first l n rs few = let b = seats_begin 0 n rs (omega (arith, few)) in after_first b.more b.whole

result_seated : (n : ℕ) (result : Ret) → AreSeated (InOrder result_locations) (places_of (result_seat n result))
result_seated n ret.Unit = in_order result_locations refl
result_seated n (ret.Comp c) = in_order [] refl

result_distinct : (n : ℕ) (result : Ret) → AreDistinct (result_seat n result)
result_distinct n ret.Unit = none_distinct
result_distinct n (ret.Comp c) = one_distinct (seat 0 n c)

result_comps : (n : ℕ) (result : Ret) → comps (result_seat n result) ≡ results_of_type result
result_comps n ret.Unit = refl
result_comps n (ret.Comp c) = refl

seats_comps : (i n : ℕ) (rs : List Reg) → comps (seats i n rs) ≡ comps rs
seats_comps i n [] = refl
seats_comps i n (r ∷ rs) = ap (λ cs. r.comp ∷ cs) (seats_comps (suc i) (suc n) rs)

-- ---- immediates

exponent_below : (n k w : ℕ) (e : ℕ) → exponent_from n k w ≡ Some e → e < k + n
unfolding exponent_from
exponent_below zero k w e is = absurd (none-some e is)
exponent_below (suc n) k w e is = by (nat_eq (2 ^ k) w) (exponent_below n (suc k) w e) is
  where
    same : Some k ≡ Some e → k ≡ e
    same is = cc

    by : (b : Bool) → (exponent_from n (suc k) w ≡ Some e → e < suc k + n) → exponent_if b k (exponent_from n (suc k) w) ≡ Some e → e < k + suc n
    by true others is = let s = same is in omega (arith, s)
    by false others is = let less = others is in omega (arith, less)

pub data Suits : Option Immediate → Type 0 where
  no_immediate : Suits None
  suits : {i : Immediate} → is_immediate i.op i.word ≡ true → Suits (Some i)

shift_suits : (o : Option ℕ) → ((e : ℕ) → o ≡ Some e → e < 64) → Suits (shift_by o)
shift_suits None below = no_immediate
shift_suits (Some k) below = suits (less k (below k refl))
  where
    less : (k : ℕ) → k < 64 → nat_lt k 64 ≡ true
    less k l = lt-ltb k 64 l

if_suits : (f : IntOp) (w : ℕ) (b : Bool) → is_immediate f w ≡ b → Suits (immediate_if b f w)
if_suits f w true e = suits e
if_suits f w false e = no_immediate

immediate_suits : (f : IntOp) (w : ℕ) → Suits (immediate_of f w)
immediate_suits operator.Mul w = shift_suits (exponent_from 64 0 w) (λ e is. exponent_below 64 0 w e is)
immediate_suits f w = if_suits f w (is_immediate f w) refl

right_suits : (f : IntOp) (e : Expression) → Suits (right_immediate f e)
right_suits f (Integer at w) = immediate_suits f w
right_suits f e = no_immediate

commuted_suits : (o : Option IntOp) (w : ℕ) → Suits (if_commuted o w)
commuted_suits None w = no_immediate
commuted_suits (Some f) w = immediate_suits f w

left_suits : (f : IntOp) (e : Expression) → Suits (left_immediate f e)
left_suits f (Integer at w) = commuted_suits (commuted f) w
left_suits f e = no_immediate

-- the components of the operands of an operator, where they are by its shape
record ShapeForm (s : OperandShape) (f : IntOp) (x y : Reg) : Type 0 where
  left : Comp
  rest : List Comp
  is : left ∷ rest ≡ comps (shape_args s x y)
  fits : IsRight (shape_op s f) (shape_right s) rest

shape_forms : (f : IntOp) (x y : Reg) (r l : Option Immediate) → Suits r → Suits l → ShapeForm (shape r l) f x y
shape_forms f x y (Some i) l (suits e) z = record { left = x.comp; rest = []; is = refl; fits = a_constant e }
shape_forms f x y None (Some i) no_immediate (suits e) = record { left = y.comp; rest = []; is = refl; fits = a_constant e }
shape_forms f x y None None no_immediate no_immediate = record { left = x.comp; rest = y.comp ∷ []; is = refl; fits = a_register }

power_form : (f : IntOp) (x y : Reg) (o : Option ℕ) → ShapeForm (power_shape o) f x y
power_form f x y (Some k) = record { left = x.comp; rest = y.comp ∷ []; is = refl; fits = a_register }
power_form f x y None = record { left = x.comp; rest = y.comp ∷ []; is = refl; fits = a_register }

shape_form : (f : IntOp) (left e : Expression) (x y : Reg) → ShapeForm (operation_shape f left e) f x y
shape_form operator.Div left e x y = power_form operator.Div x y (power_of e)
shape_form operator.Mod left e x y = power_form operator.Mod x y (power_of e)
shape_form f left e x y = shape_forms f x y (right_immediate f e) (left_immediate f left) (right_suits f e) (left_suits f left)

-- the exponent of a power by which an operator divides
pub data ShortPower : OperandShape → Type 0 where
  in_registers : ShortPower InRegisters
  constant_right : {i : Immediate} → ShortPower (ConstantRight i)
  constant_left : {i : Immediate} → ShortPower (ConstantLeft i)
  short_power : {k : ℕ} → 1 ≤ k → k < 64 → ShortPower (PowerRight k)

shape_short : (r l : Option Immediate) → ShortPower (shape r l)
shape_short (Some i) l = constant_right
shape_short None (Some i) = constant_left
shape_short None None = in_registers

power_short : {w : ℕ} {o : Option ℕ} → IsExponent 1 63 w o → ShortPower (power_shape o)
power_short no_power = in_registers
power_short (power le less e) = short_power le (omega (arith, less))

of_power : (e : Expression) → ShortPower (power_shape (power_of e))
of_power (Integer at w) = power_short (exponents 1 63 62 1 w (omega arith) (omega arith))
of_power e = in_registers

pub short_shape : (f : IntOp) (left e : Expression) → ShortPower (operation_shape f left e)
short_shape operator.Div left e = of_power e
short_shape operator.Mod left e = of_power e
short_shape f left e = shape_short (right_immediate f e) (left_immediate f left)

comparison_tested : (f : IntOp) (r : Right) (left : Comp) (rest : List Comp) → IsRight f r rest → (t : Test) → comparison f r ≡ Some t → IsTested t (left ∷ rest)
comparison_tested (operator.Cmp f) r left rest is t e = subst (λ t. IsTested t (left ∷ rest)) (same (test.Signed f r) t e) (signed is)
  where
    same : (t u : Test) → Some t ≡ Some u → t ≡ u
    same t u e = cc
comparison_tested (operator.CmpU f) r left rest is t e = subst (λ t. IsTested t (left ∷ rest)) (same (test.Unsigned f r) t e) (unsigned is)
  where
    same : (t u : Test) → Some t ≡ Some u → t ≡ u
    same t u e = cc
comparison_tested f r left rest is t e = absurd (none-some t e)

shape_tested : {s : OperandShape} {f : IntOp} {x y : Reg} → ShapeForm s f x y → (t : Test) → comparison (shape_op s f) (shape_right s) ≡ Some t → IsTested t (comps (shape_args s x y))
shape_tested {s} {f} form t e = subst (λ cs. IsTested t cs) form.is (comparison_tested (shape_op s f) (shape_right s) form.left form.rest form.fits t e)

-- the index of a bound test
right_form : (f : IntOp) (e : Expression) (y : Reg) → IsRight f (bound_test_operand f e) (comps (right_regs (bound_test_operand f e) y))
right_form f (Integer at w) y = by (is_immediate f w) refl
  where
    by : (b : Bool) → is_immediate f w ≡ b → IsRight f (cond b (right.Constant w) right.Register) (comps (right_regs (cond b (right.Constant w) right.Register) y))
    by true e = a_constant e
    by false e = a_register
right_form f e y = a_register

-- ---- blocks

header_cells : (header cells : ℕ) → is_header header cells ≡ true → cells ≤ 256
header_cells header cells e =
    let small = (and_parts (nat_le 1 cells) _ (and_parts (header / 1024 == cells) _ e).1).1 in
    leb-true cells 256 (and_parts (nat_le cells 256) _ small).0

-- ---- arguments of external calls

outer_comp : (t : Ty) → is_address t ≡ false → comp_of_type t ≡ comp_of_argument t
outer_comp ty.Addr e = absurd (true≢false e)
outer_comp t e = refl

outer_comps : (env : List NamedRegister) (b : ℕ) (es : Expressions) → NoAddress (scopes env) es → comps (regs_of env b es) ≡ comps_of_arguments (scopes env) es
outer_comps env b NoMore none = refl
outer_comps env b (More e rest) none =
    let t = type_of (scopes env) e in
    ap (λ c. c ∷ comps (regs_of env (suc b) rest)) (outer_comp t none.0) ∙ ap (λ cs. comp_of_argument t ∷ cs) (outer_comps env (suc b) rest none.1)

-- ---- instructions

module _ {given : Ret} where
  an_op : {f : Op} {args results : List Reg} → HasForm f (comps args) (comps results) → AreDistinct results → AreSeated (operand_seats f) (places_of args) → AreSeated (result_seats f) (places_of results) → is_return (mach.Op f) ≡ false →
      IsProper given (emit.operation_instr f args results)
  an_op form distinct operands results other = record { formed = formed_op form; distinct = distinct; operands = operands; results = results; gives = λ e. absurd (true≢false (sym e ∙ other)) }

  a_mark : {f : Mark} {args : List Reg} → MarkHasForm f (comps args) [] → AreSeated (mach_result_seats (mach.Mark f)) [] → IsProper given (record { op = mach.Mark f; args = args; results = [] })
  a_mark form results = record { formed = formed_mark form; distinct = none_distinct; operands = anywhere; results = results; gives = λ e. absurd (true≢false (sym e)) }

  pub p_move : (a d : Reg) → IsProper given (emit.move a d)
  p_move a d = an_op copies (one_distinct d) anywhere anywhere refl

  pub p_constant : (w : ℕ) (d : Reg) → IsWord w → IsProper given (emit.constant w d)
  p_constant w d word = an_op (constant word) (one_distinct d) anywhere anywhere refl

  pub p_symbol : (name : List ℕ) (d : Reg) → IsProper given (emit.symbol name d)
  p_symbol name d = an_op symbol (one_distinct d) anywhere anywhere refl

  pub p_operator : (f : IntOp) (left e : Expression) (x y d : Reg) → IsProper given (emit.operator (shape_op (operation_shape f left e) f) (shape_right (operation_shape f left e)) (shape_args (operation_shape f left e) x y) d)
  p_operator f left e x y d =
      let form = shape_form f left e x y in
      let s = operation_shape f left e in
      an_op (subst (λ cs. HasForm (op.Pure (pure.Operator (shape_op s f) (shape_right s))) cs (d.comp ∷ [])) form.is (operates form.fits)) (one_distinct d) anywhere anywhere refl

  pub p_shift : (f : IntOp) (k : ℕ) (x d : Reg) → is_immediate f k ≡ true → IsProper given (emit.operator f (right.Constant k) (x ∷ []) d)
  p_shift f k x d e = an_op (operates (a_constant e)) (one_distinct d) anywhere anywhere refl

  pub p_registers : (f : IntOp) (x y d : Reg) → IsProper given (emit.operator f right.Register (x ∷ y ∷ []) d)
  p_registers f x y d = an_op (operates a_register) (one_distinct d) anywhere anywhere refl

  pub p_branch : (f : IntOp) (left e : Expression) (x y : Reg) (l : ℕ) (t : Test) → comparison (shape_op (operation_shape f left e) f) (shape_right (operation_shape f left e)) ≡ Some t → IsProper given (emit.branch t l (shape_args (operation_shape f left e) x y))
  p_branch f left e x y l t is = a_mark (if_form (shape_tested (shape_form f left e x y) t is)) anywhere

  pub p_load : (k : Chunk) (offset : ℕ) (x d : Reg) → IsProper given (emit.load k offset x d)
  p_load k offset x d = an_op loads (one_distinct d) anywhere anywhere refl

  pub p_store : (k : Chunk) (offset : ℕ) (x y : Reg) → IsProper given (emit.store k offset x y)
  p_store k offset x y = an_op stores none_distinct anywhere anywhere refl

  pub p_alloc : (header : ℕ) (operands : Expressions) (d : Reg) → is_header header (row_length operands) ≡ true → IsProper given (emit.alloc (record { header = header; cells = count_of operands }) d)
  p_alloc header operands d e =
      let count = row_count operands in
      let few = header_cells header (row_length operands) e in
      let block : NewBlock = record { header = header; cells = count_of operands } in
      an_op (allocates (not_empty block) (All-cons IsBlock block [] (subst (λ n. is_header header n ≡ true) count e) (All-nil IsBlock)) (omega (arith, count, few)) refl) (one_distinct d) anywhere anywhere refl
    where
      not_empty : (b : NewBlock) → b ∷ [] ≢ []
      not_empty b e = cc

  pub p_call : (result : Ret) (o : Option (List ℕ)) (f : Reg) (n k : ℕ) (rs : List Reg) → length rs ≤ 16 → IsProper given (emit.call (callee_of o) result (callee_regs o f ++ seats 0 n rs) (result_seat k result))
  p_call result (Some name) f n k rs few =
      an_op (subst (λ cs. HasForm (op.Calling (calling.Call (callee.Symbol name) result)) (comps (seats 0 n rs)) cs) (sym (result_comps k result)) (calls (comps (seats 0 n rs)) by_symbol)) (result_distinct k result) (seats_in_order n rs few) (result_seated k result) refl
  p_call result None f n k rs few =
      an_op (subst (λ cs. HasForm (op.Calling (calling.Call callee.Register result)) (f.comp ∷ comps (seats 0 n rs)) cs) (sym (result_comps k result)) (calls (comps (seats 0 n rs)) by_register)) (result_distinct k result) (seats_after_first f.loc n rs few) (result_seated k result) refl

  pub p_tail_call : (result : Ret) (o : Option (List ℕ)) (f : Reg) (n : ℕ) (rs : List Reg) → length rs ≤ 16 → IsProper given (emit.tail_call (callee_of o) result (callee_regs o f ++ seats 0 n rs))
  p_tail_call result (Some name) f n rs few = an_op (tail_calls (comps (seats 0 n rs)) by_symbol) none_distinct (seats_in_order n rs few) (in_order result_locations refl) refl
  p_tail_call result None f n rs few = an_op (tail_calls (comps (seats 0 n rs)) by_register) none_distinct (seats_after_first f.loc n rs few) (in_order result_locations refl) refl

  pub p_external : (env : List NamedRegister) (b n k : ℕ) (name : List ℕ) (frame : Bool) (result : Ret) (es : Expressions) → NoAddress (scopes env) es → length (regs_of env b es) ≤ 16 →
      IsProper given (emit.external_instruction name (comps_of_arguments (scopes env) es) result frame (seats 0 n (regs_of env b es)) (result_seat k result))
  p_external env b n k name frame result es none few =
      let given_comps = seats_comps 0 n (regs_of env b es) ∙ outer_comps env b es none in
      let row : declared.External = record { name = name; params = comps_of_arguments (scopes env) es; result = result } in
      let form : HasForm (op.Calling (calling.External row frame)) (comps_of_arguments (scopes env) es) (results_of_type result) = calls_out in
      an_op (subst (λ cs. HasForm (op.Calling (calling.External row frame)) cs (comps (result_seat k result))) (sym given_comps) (subst (λ cs. HasForm (op.Calling (calling.External row frame)) (comps_of_arguments (scopes env) es) cs) (sym (result_comps k result)) form))
      (result_distinct k result) (seats_in_order n (regs_of env b es) few) (result_seated k result) refl

  pub p_checkbound : (e : Expression) (x y : Reg) → IsProper given (emit.checkbound_instr (bound_test_operand bound_test e) x y)
  p_checkbound e x y = an_op (checks (right_form bound_test e y)) none_distinct anywhere anywhere refl

  pub p_raise : (n : ℕ) → IsProper given (emit.raising (seat 0 n comp.Val))
  p_raise n = an_op raises none_distinct (in_order [] refl) anywhere refl

  pub p_handler : (l n : ℕ) → IsProper given (emit.handler l (seat 0 n comp.Val))
  p_handler l n = record { formed = formed_mark handler_form; distinct = one_distinct (seat 0 n comp.Val); operands = anywhere; results = in_order [] refl; gives = λ e. absurd (true≢false (sym e)) }

  pub p_holds : (l : ℕ) (x : Reg) → IsProper given (emit.branch test.Holds l (x ∷ []))
  p_holds l x = a_mark (if_form holds) anywhere

  pub p_choice : (ls : List ℕ) (x : Reg) → IsProper given (emit.choose ls x)
  p_choice ls x = a_mark switch_form anywhere

  pub p_bare : (f : Mark) → MarkHasForm f [] [] → AreSeated (mach_result_seats (mach.Mark f)) [] → IsProper given (bare_mark f)
  p_bare f form results = a_mark form results

pub p_return : (n : ℕ) (result : Ret) → IsProper result (emit.give_back (result_seat n result))
p_return n result =
    record {
      formed = formed_op (subst (λ cs. HasForm (op.Leaving leaving.Return) cs []) (sym (result_comps n result)) (returns result));
      distinct = none_distinct;
      operands = result_seated n result;
      results = anywhere;
      gives = λ e. result_comps n result;
    }
