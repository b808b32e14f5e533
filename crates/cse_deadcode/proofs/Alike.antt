-- Operators that compute the same are the same.
use Rattle.std.proofs.Common.{◌≡◌, ◌∙◌, ℕ, ◌≤◌, true, false, List, [], ◌∷◌, length, get_or, Option, Some, None, slice_get, refl, sym, ap, arith}
use Rattle.std.proofs.lemmas.Cmp.{tied_itself}
use Rattle.std.proofs.lemmas.List.{length-map}
use Rattle.std.specs.List.{Contains}
use Rattle.std.specs.Option.{option_map, option_cmp}
use Rattle.std.specs.Ordering.{is_eq, nat_cmp, ordering_then}
use Rattle.std.specs.declared.cmp.Ordering.{Ordering}
use Rattle.std.specs.declared.cmp.Ordering.TheVariants.{Less, Equal, Greater}
use Rattle.bs_words.specs.declared.operators.CmpOp.TheVariants as compare
use Rattle.bs_words.specs.declared.operators.IntOp.{IntOp}
use Rattle.bs_words.specs.declared.operators.IntOp.TheVariants as operator
use Rattle.bs_words.specs.declared.types.Comp.{Comp}
use Rattle.bs_words.proofs.Lists.{first_in, later_in, same_some}
use Rattle.mach_ir.specs.Forms as form
use Rattle.mach_ir.specs.Forms.{HasForm, IsRight, a_register, a_constant}
use Rattle.mach_ir.specs.Formed.{comps, IsFormedInstruction, formed_op, formed_mark}
use Rattle.mach_ir.specs.declared.op.Op.TheVariants as op
use Rattle.mach_ir.specs.declared.op.Pure.TheVariants as pure
use Rattle.mach_ir.specs.declared.op.Right.{Right}
use Rattle.mach_ir.specs.declared.op.Right.TheVariants as right
use Rattle.mach_ir.specs.declared.reg.Reg.{Reg}
use Rattle.mach_ir.specs.declared.mach.Instr.{Instr}
use Rattle.mach_ir.specs.declared.mach.MachOp.{MachOp}
use Rattle.mach_ir.specs.declared.mach.MachOp.TheVariants as mach
use Rattle.cse_repeat_rules.specs.Repeated.{is_operator}
use Rattle.cse_deadcode.specs.contracts.events.EventOrd.TheImpl.Laws as law
use Rattle.cse_deadcode.specs.declared.events.Computed.{Computed}
use Rattle.cse_deadcode.specs.declared.events.Event.{Event}
use Rattle.cse_deadcode.specs.declared.events.Event.TheVariants as event
use Rattle.cse_deadcode.specs.Events.{rank_of_operator, constant_of_right, computation}
use Rattle.cse_deadcode.specs.Times.{is_same}
use Rattle.cse_deadcode.proofs.Noting.{equal_numbers}
use Rattle.bs_words.proofs.Truths.{not_both}

-- ---- operators by their ranks

abbrev operators : List IntOp
operators =
    operator.Add ∷ operator.Sub ∷ operator.Mul ∷ operator.Mulh ∷ operator.Div ∷ operator.Mod ∷ operator.And ∷ operator.Or
    ∷ operator.Xor ∷ operator.Shl ∷ operator.Shr ∷ operator.Sar ∷ operator.AddV ∷ operator.AddA ∷ operator.Cmp compare.Eq
    ∷ operator.Cmp compare.Ne ∷ operator.Cmp compare.Lt ∷ operator.Cmp compare.Le ∷ operator.Cmp compare.Gt
    ∷ operator.Cmp compare.Ge ∷ operator.CmpU compare.Eq ∷ operator.CmpU compare.Ne ∷ operator.CmpU compare.Lt
    ∷ operator.CmpU compare.Le ∷ operator.CmpU compare.Gt ∷ operator.CmpU compare.Ge ∷ []

abbrev operator_at : ℕ → IntOp
operator_at n = get_or operators n operator.Add

at_rank : (f : IntOp) → operator_at (rank_of_operator f) ≡ f
at_rank operator.Add = refl
at_rank operator.Sub = refl
at_rank operator.Mul = refl
at_rank operator.Mulh = refl
at_rank operator.Div = refl
at_rank operator.Mod = refl
at_rank operator.And = refl
at_rank operator.Or = refl
at_rank operator.Xor = refl
at_rank operator.Shl = refl
at_rank operator.Shr = refl
at_rank operator.Sar = refl
at_rank operator.AddV = refl
at_rank operator.AddA = refl
at_rank (operator.Cmp compare.Eq) = refl
at_rank (operator.Cmp compare.Ne) = refl
at_rank (operator.Cmp compare.Lt) = refl
at_rank (operator.Cmp compare.Le) = refl
at_rank (operator.Cmp compare.Gt) = refl
at_rank (operator.Cmp compare.Ge) = refl
at_rank (operator.CmpU compare.Eq) = refl
at_rank (operator.CmpU compare.Ne) = refl
at_rank (operator.CmpU compare.Lt) = refl
at_rank (operator.CmpU compare.Le) = refl
at_rank (operator.CmpU compare.Gt) = refl
at_rank (operator.CmpU compare.Ge) = refl

same_operator : (f g : IntOp) → rank_of_operator f ≡ rank_of_operator g → f ≡ g
same_operator f g e = sym (at_rank f) ∙ ap operator_at e ∙ at_rank g

-- ---- what is computed

first_equal : (a b : Ordering) → is_eq (ordering_then a b) ≡ true → is_eq a ≡ true
first_equal Less b e = absurd (not_both false e refl)
first_equal Equal b e = refl
first_equal Greater b e = absurd (not_both false e refl)

second_equal : (a b : Ordering) → is_eq (ordering_then a b) ≡ true → is_eq b ≡ true
second_equal Less b e = absurd (not_both false e refl)
second_equal Equal b e = e
second_equal Greater b e = absurd (not_both false e refl)

same_number : (a b : Option ℕ) → is_eq (option_cmp nat_cmp a b) ≡ true → a ≡ b
same_number None None e = refl
same_number None (Some b) e = absurd (not_both false e refl)
same_number (Some a) None e = absurd (not_both false e refl)
same_number (Some a) (Some b) e = ap Some (equal_numbers a b e)

record SameParts (c d : Computed) : Type 0 where
  operator : rank_of_operator c.operator.operator ≡ rank_of_operator d.operator.operator
  constant : c.constant ≡ d.constant
  left : c.left ≡ d.left
  right : c.right ≡ d.right

same_parts : (c d : Computed) → is_same (event.Computes c) (event.Computes d) ≡ true → SameParts c d
same_parts c d e =
    let rest : is_eq (ordering_then (option_cmp nat_cmp c.constant d.constant) (ordering_then (option_cmp nat_cmp c.left d.left) (option_cmp nat_cmp c.right d.right))) ≡ true =
    second_equal (nat_cmp (rank_of_operator c.operator.operator) (rank_of_operator d.operator.operator)) _ e in
    let last : is_eq (ordering_then (option_cmp nat_cmp c.left d.left) (option_cmp nat_cmp c.right d.right)) ≡ true =
    second_equal (option_cmp nat_cmp c.constant d.constant) _ rest in
    record {
      operator = equal_numbers _ _ (first_equal (nat_cmp (rank_of_operator c.operator.operator) (rank_of_operator d.operator.operator)) _ e);
      constant = same_number c.constant d.constant (first_equal (option_cmp nat_cmp c.constant d.constant) _ rest);
      left = same_number c.left d.left (first_equal (option_cmp nat_cmp c.left d.left) _ last);
      right = same_number c.right d.right (second_equal (option_cmp nat_cmp c.left d.left) _ last);
    }

pub same_itself : (e : Event) → is_same e e ≡ true
same_itself e = ap is_eq (tied_itself law.total-law e)

same_right : (a b : Right) → constant_of_right a ≡ constant_of_right b → a ≡ b
same_right right.Register right.Register e = refl
same_right right.Register (right.Constant w) e = absurd (none w e)
  where
    none : (w : ℕ) → None ≡ Some w → ⊥
    none w e = cc
same_right (right.Constant w) right.Register e = absurd (none w e)
  where
    none : (w : ℕ) → Some w ≡ None → ⊥
    none w e = cc
same_right (right.Constant v) (right.Constant w) e = ap right.Constant (inside v w e)
  where
    inside : (v w : ℕ) → Some v ≡ Some w → v ≡ w
    inside v w e = cc

-- ---- operands

abbrev pub number_at : List Reg → ℕ → Option ℕ
number_at rs k = option_map (λ (r : Reg). r.number) (slice_get rs k)

abbrev pub AreTold : List Reg → List Reg → Type 0
AreTold xs ys = (r q : Reg) → Contains xs r → Contains ys q → r.number ≡ q.number → r ≡ q

none_some : (n : ℕ) → None ≡ Some n → ⊥
none_some n e = cc

some_none : (n : ℕ) → Some n ≡ None → ⊥
some_none n e = cc

same_one : (xs ys : List Reg) → length xs ≤ 1 → length ys ≤ 1 → AreTold xs ys → number_at xs 0 ≡ number_at ys 0 → xs ≡ ys
same_one [] [] a b t e = refl
same_one [] (y ∷ ys) a b t e = absurd (none_some y.number e)
same_one (x ∷ xs) [] a b t e = absurd (some_none x.number e)
same_one (x ∷ []) (y ∷ []) a b t e = ap (λ r. r ∷ []) (t x y (first_in x []) (first_in y []) (same_some x.number y.number e))
same_one (x ∷ []) (y ∷ z ∷ ys) a b t e = absurd (omega (arith, b))
same_one (x ∷ w ∷ xs) ys a b t e = absurd (omega (arith, a))

two : (x y : Reg) (xs ys : List Reg) → x ≡ y → xs ≡ ys → x ∷ xs ≡ y ∷ ys
two x y xs ys e h = cc

pub same_two : (xs ys : List Reg) → length xs ≤ 2 → length ys ≤ 2 → AreTold xs ys → number_at xs 0 ≡ number_at ys 0 →
    number_at xs 1 ≡ number_at ys 1 → xs ≡ ys
same_two [] [] a b t e h = refl
same_two [] (y ∷ ys) a b t e h = absurd (none_some y.number e)
same_two (x ∷ xs) [] a b t e h = absurd (some_none x.number e)
same_two (x ∷ xs) (y ∷ ys) a b t e h =
    let few : length xs ≤ 1 = omega (arith, a) in
    let less : length ys ≤ 1 = omega (arith, b) in
    two x y xs ys (t x y (first_in x xs) (first_in y ys) (same_some x.number y.number e))
    (same_one xs ys few less (λ r q c d. t r q (later_in x r xs c) (later_in y q ys d)) h)

-- ---- operators

pub record OperatorShape (i : Instr) : Type 0 where
  pub f : IntOp
  pub r : Right
  pub is : i.op ≡ mach.Op (op.Pure (pure.Operator f r))
  pub few : length i.args ≤ 2
  pub result : Reg
  pub results : i.results ≡ result ∷ []

few_right : (f : IntOp) (r : Right) (cs : List Comp) → IsRight f r cs → length cs ≤ 1
few_right f r cs a_register = omega arith
few_right f r cs (a_constant e) = omega arith

few_operands : (f : IntOp) (r : Right) (cs ds : List Comp) → HasForm (op.Pure (pure.Operator f r)) cs ds → length cs ≤ 2
few_operands f r cs ds (form.operates {rest = rest} h) = let few = few_right f r rest h in omega (arith, few)

one_result : (f : IntOp) (r : Right) (cs ds : List Comp) → HasForm (op.Pure (pure.Operator f r)) cs ds → length ds ≡ 1
one_result f r cs ds (form.operates h) = refl

pub one_of : (rs : List Reg) → length rs ≡ 1 → (r : Reg) × (rs ≡ r ∷ [])
one_of [] e = absurd (omega (arith, e))
one_of (r ∷ []) e = (r, refl)
one_of (r ∷ q ∷ rs) e = absurd (omega (arith, e))

pub operator_shape : {i : Instr} → IsFormedInstruction i → is_operator i.op ≡ true → OperatorShape i
operator_shape (formed_op {f = op.Pure (pure.Operator f r)} {args = args} {results = results} h) e =
    let few : length (comps args) ≤ 2 = few_operands f r (comps args) (comps results) h in
    let many : length (comps args) ≡ length args = length-map args (λ (r : Reg). r.comp) in
    let one : length results ≡ 1 = sym (length-map results (λ (r : Reg). r.comp)) ∙ one_result f r (comps args) (comps results) h in
    let o = one_of results one in
    record { f = f; r = r; is = refl; few = omega (arith, few, many); result = o.0; results = o.1 }
operator_shape (formed_op {f = op.Pure (pure.Copy kind)} h) e = absurd (not_both false e refl)
operator_shape (formed_op {f = op.Pure (pure.Constant w)} h) e = absurd (not_both false e refl)
operator_shape (formed_op {f = op.Pure (pure.Symbol name)} h) e = absurd (not_both false e refl)
operator_shape (formed_op {f = op.Access f} h) e = absurd (not_both false e refl)
operator_shape (formed_op {f = op.Calling f} h) e = absurd (not_both false e refl)
operator_shape (formed_op {f = op.Leaving f} h) e = absurd (not_both false e refl)
operator_shape (formed_mark h) e = absurd (not_both false e refl)

abbrev pub operator_of : IntOp → Right → MachOp
operator_of f r = mach.Op (op.Pure (pure.Operator f r))

pub record Alike (f g : IntOp) (r q : Right) (xs ys : List Reg) : Type 0 where
  pub same_op : operator_of f r ≡ operator_of g q
  pub same_args : xs ≡ ys

pub alike : (f g : IntOp) (r q : Right) (xs ys : List Reg) → length xs ≤ 2 → length ys ≤ 2 → AreTold xs ys →
    is_same (event.Computes (computation f r xs)) (event.Computes (computation g q ys)) ≡ true → Alike f g r q xs ys
alike f g r q xs ys a b t e =
    let p = same_parts (computation f r xs) (computation g q ys) e in
    record {
      same_op = ap (λ f. operator_of f r) (same_operator f g p.operator) ∙ ap (operator_of g) (same_right r q p.constant);
      same_args = same_two xs ys a b t p.left p.right;
    }
