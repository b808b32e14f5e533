-- What selected code adds to the code after it, by some measure, and how such code is put together.
use Rattle.std.proofs.Common.{◌≡◌, ℕ, ◌+◌, ◌≤◌, Bool, true, false, not, cond, List, Option, Some, None, refl, arith}
use Rattle.cmm_tree.specs.Measures.{total, row_total}
use Rattle.cmm_tree.specs.Tree.{Expression, Expressions, NoMore, More}
use Rattle.cmm_types.specs.Light.{is_light_address}
use Rattle.mach_ir.specs.declared.mach.Instr.{Instr}
use Rattle.mach_ir.specs.declared.mach.Test.{Test}
use Rattle.mach_ir.specs.declared.op.Right.{Right}
use Rattle.mach_ir.specs.declared.op.Right.TheVariants as right
use Rattle.selection_rules.specs.Select.{Code, OperandShape, InRegisters, ConstantRight, ConstantLeft, PowerRight, unless_left, unless_right, ordered, only_when, unless_symbol, unless_constant, fused_test, NamedRegister, scopes}

-- ---- operands in two parts

abbrev pub part : Bool → ℕ → ℕ
part true n = n
part false n = 0

pub part_both : (b : Bool) (n : ℕ) → part (not b) n + part b n ≡ n
part_both true n = omega arith
part_both false n = omega arith

module _ (f : Expression → ℕ) where
  abbrev pub sum_of : Expressions → ℕ
  sum_of NoMore = 0
  sum_of (More e rest) = f e + sum_of rest

  -- of the operands that do not wait, and of those that do
  abbrev pub now_of : List NamedRegister → Expressions → ℕ
  now_of env NoMore = 0
  now_of env (More e rest) = part (not (is_light_address (scopes env) e)) (f e) + now_of env rest

  abbrev pub later_of : List NamedRegister → Expressions → ℕ
  later_of env NoMore = 0
  later_of env (More e rest) = part (is_light_address (scopes env) e) (f e) + later_of env rest

  pub in_parts : (env : List NamedRegister) (es : Expressions) → now_of env es + later_of env es ≡ sum_of es
  in_parts env NoMore = refl
  in_parts env (More e rest) =
      let here = part_both (is_light_address (scopes env) e) (f e) in
      let others = in_parts env rest in
      omega (arith, here, others)

pub sum_total : (own : Expression → ℕ) (es : Expressions) → sum_of (total own) es ≡ row_total own es
sum_total own NoMore = refl
sum_total own (More e rest) = let others = sum_total own rest in omega (arith, others)

-- ---- code

-- code that adds no more than so much
pub record Adds (size : List Instr → ℕ) (n : ℕ) (code : Code) : Type 0 where
  pub at : (next : List Instr) → size (code next) ≤ n + size next

module _ {size : List Instr → ℕ} where
  pub up : {n k : ℕ} {x : Code} → n ≤ k → Adds size n x → Adds size k x
  up le w = record { at = λ next. let here = w.at next in omega (arith, here, le) }

  pub then : {n k : ℕ} {x y : Code} → Adds size n x → Adds size k y → Adds size (n + k) (λ next. x (y next))
  then {n} {k} {x} {y} a b = record { at = λ next. let first = a.at (y next) in let second = b.at next in omega (arith, first, second) }

  pub none : Adds size 0 (λ next. next)
  none = record { at = λ next. omega arith }

  no_more : {n : ℕ} → Adds size n (λ next. next)
  no_more = record { at = λ next. omega arith }

  pub in_order : {x y : Code} {n k : ℕ} (b : Bool) → Adds size n x → Adds size k y → Adds size (n + k) (ordered b x y)
  in_order true p q = then p q
  in_order {n = n} {k = k} false p q = up (swap n k) (then q p)
    where
      swap : (n k : ℕ) → k + n ≤ n + k
      swap n k = omega arith

  pub when : {code : Code} (b : Bool) (n : ℕ) → Adds size n code → Adds size (part b n) (only_when b code)
  when true n e = e
  when false n e = no_more

  pub unless : {code : Code} {n : ℕ} (o : Option (List ℕ)) → Adds size n code → Adds size n (unless_symbol o code)
  unless (Some name) e = no_more
  unless None e = e

  pub constant : {code : Code} {n : ℕ} (r : Right) → Adds size n code → Adds size n (unless_constant r code)
  constant right.Register e = e
  constant (right.Constant w) e = no_more

  pub left : {code : Code} {n : ℕ} (s : OperandShape) → Adds size n code → Adds size n (unless_left s code)
  left InRegisters e = e
  left (ConstantRight i) e = e
  left (ConstantLeft i) e = no_more
  left (PowerRight k) e = e

  pub right_of : {code : Code} {n : ℕ} (s : OperandShape) → Adds size n code → Adds size n (unless_right s code)
  right_of InRegisters e = e
  right_of (ConstantRight i) e = no_more
  right_of (ConstantLeft i) e = e
  right_of (PowerRight k) e = no_more

  pub fused : {value : Code} {n : ℕ} (o : Option Test) (one : Test → Code) → ((t : Test) → Adds size n (one t)) → Adds size n value →
      Adds size n (λ next. fused_test o (λ t. one t next) (value next))
  fused (Some t) one f v = f t
  fused None one f v = v

  pub either : {x y : Code} {n : ℕ} (q : Bool) → Adds size n x → Adds size n y → Adds size n (λ next. cond q (x next) (y next))
  either true a b = a
  either false a b = b
