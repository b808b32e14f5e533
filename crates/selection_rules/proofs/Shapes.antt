-- Two operands of an operator, of which one may be a constant that needs no register.
use Rattle.std.proofs.Common.{◌≡◌, ℕ, ◌^◌, ◌<◌, ◌≤◌, Bool, true, false, List, [], ◌∷◌, Option, Some, None, refl, sym, ap, ◌∙◌, subst, arith}
use Rattle.std.proofs.lemmas.Bool.{true≢false}
use Rattle.bs_words.specs.Memory.{Memory}
use Rattle.bs_words.specs.Operators.{apply}
use Rattle.bs_words.specs.declared.operators.IntOp.{IntOp}
use Rattle.bs_words.specs.declared.types.Comp.TheVariants as comp
use Rattle.bs_words.specs.declared.operators.IntOp.TheVariants as operators
use Rattle.bs_words.specs.declared.values.Value.{Value}
use Rattle.bs_words.specs.declared.values.Value.TheVariants as value
use Rattle.cmm_tree.specs.Tree.{Expression, Integer}
use Rattle.cmm_types.specs.Types.{type_of}
use Rattle.cmm_meaning.specs.Evaluation.{is_left_first}
use Rattle.cmm_meaning.specs.State.{Here}
use Rattle.meaning_laws.specs.Does.{Leaves, Does}
use Rattle.meaning_laws.specs.Interaction.{Part, with_value, both, does}
use Rattle.mach_ir.specs.Acts.{truth_of, as_condition}
use Rattle.mach_ir.specs.Runs.{ActivationSetting, Continues}
use Rattle.mach_ir.specs.Meaning.{File, values, with_held}
use Rattle.mach_ir.specs.declared.reg.Reg.{Reg}
use Rattle.mach_ir.specs.declared.mach.Instr.{Instr}
use Rattle.mach_ir.specs.declared.mach.Mach.{Mach}
use Rattle.mach_ir.specs.declared.mach.Test.{Test}
use Rattle.mach_ir.specs.declared.mach.Test.TheVariants as test
use Rattle.mach_ir.specs.declared.op.Right.TheVariants as right
use Rattle.selection_rules.specs.Select.{NamedRegister, Label, scopes, fresh_register, ordered, width, Immediate, if_commuted, left_immediate, right_immediate, OperandShape, InRegisters, ConstantRight, ConstantLeft, PowerRight, power_of, power_shape, shape, operation_shape, shape_op, shape_right, shape_args, unless_left, unless_right, comparison, select}
use Rattle.selection_rules.specs.Follow.{text_setting, FollowsText}
use Rattle.selection_rules.proofs.Files.{Holds, Under, Stands}
use Rattle.selection_rules.proofs.Parts.{Placed, Within, Lower, Stable, stable_inner, at, Level, Outs}
use Rattle.selection_rules.proofs.Operands.{Selected, operand, two, ready_at}
use Rattle.selection_rules.proofs.Constants.{constant_operand}
use Rattle.selection_rules.proofs.Commuting.{IsExponent, no_power, power, exponents, Means, Meant, no_immediate, means, immediate_means, Commutes, MayCommute, does_not, commutes, commuting}

-- the same with the constant on the left
pub record MeansLeft (op : IntOp) (w : ℕ) (i : Immediate) : Type 0 where
  pub is : (s : List ℕ) (v : Value) → apply op s (value.Word w) v ≡ apply i.op s v (value.Word i.word)

-- an operator that divides
pub data IsDivision : IntOp → Type 0 where
  is_div : IsDivision operators.Div
  is_mod : IsDivision operators.Mod

-- what the shape of two operands comes to
pub data ShapeView (op : IntOp) : Expression → Expression → OperandShape → Type 0 where
  in_registers : {left e : Expression} → ShapeView op left e InRegisters
  constant_right : {left : Expression} {place w : ℕ} {i : Immediate} → Means op w i → ShapeView op left (Integer place w) (ConstantRight i)
  constant_left : {e : Expression} {place w : ℕ} {i : Immediate} → MeansLeft op w i → ShapeView op (Integer place w) e (ConstantLeft i)
  power_right : {left : Expression} {place w k : ℕ} → IsDivision op → 1 ≤ k → k < 63 → 2 ^ k ≡ w → ShapeView op left (Integer place w) (PowerRight k)

data LeftView (op : IntOp) : Expression → Option Immediate → Type 0 where
  no_left : {e : Expression} → LeftView op e None
  a_left : {place w : ℕ} {i : Immediate} → MeansLeft op w i → LeftView op (Integer place w) (Some i)

data RightView (op : IntOp) : Expression → Option Immediate → Type 0 where
  no_right : {e : Expression} → RightView op e None
  a_right : {place w : ℕ} {i : Immediate} → Means op w i → RightView op (Integer place w) (Some i)

right_meant : {op : IntOp} (place w : ℕ) {o : Option Immediate} → Meant op w o → RightView op (Integer place w) o
right_meant place w no_immediate = no_right
right_meant place w (means m) = a_right m

right_of_shape : (op : IntOp) (e : Expression) → RightView op e (right_immediate op e)
right_of_shape op (Integer place w) = right_meant place w (immediate_means op w)
right_of_shape op e = no_right

left_then : {op other : IntOp} (place w : ℕ) {o : Option Immediate} → Commutes op other → Meant other w o → LeftView op (Integer place w) o
left_then place w c no_immediate = no_left
left_then place w c (means m) = a_left (record { is = λ s v. c.is s w v ∙ m.is s v })

left_meant : {op : IntOp} (place w : ℕ) {o : Option IntOp} → MayCommute op o → LeftView op (Integer place w) (if_commuted o w)
left_meant place w does_not = no_left
left_meant place w (commutes {other = other} c) = left_then place w c (immediate_means other w)

left_of_shape : (op : IntOp) (e : Expression) → LeftView op e (left_immediate op e)
left_of_shape op (Integer place w) = left_meant place w (commuting op)
left_of_shape op e = no_left

shape_views : {op : IntOp} {left e : Expression} {r l : Option Immediate} → RightView op e r → LeftView op left l → ShapeView op left e (shape r l)
shape_views (a_right m) l = constant_right m
shape_views no_right (a_left m) = constant_left m
shape_views no_right no_left = in_registers

power_shapes : {op : IntOp} (left : Expression) (place w : ℕ) {o : Option ℕ} → IsDivision op → IsExponent 1 63 w o → ShapeView op left (Integer place w) (power_shape o)
power_shapes left place w z no_power = in_registers
power_shapes left place w z (power le less e) = power_right z le less e

power_view : {op : IntOp} (left e : Expression) → IsDivision op → ShapeView op left e (power_shape (power_of e))
power_view left (Integer place w) z = power_shapes left place w z (exponents 1 63 62 1 w (omega arith) (omega arith))
power_view left e z = in_registers

pub shape_view : (op : IntOp) (left e : Expression) → ShapeView op left e (operation_shape op left e)
shape_view operators.Div left e = power_view left e is_div
shape_view operators.Mod left e = power_view left e is_mod
shape_view op left e = shape_views (right_of_shape op e) (left_of_shape op left)

-- where the operands are; the register beside a power of two takes any word
pub data Operands (op : IntOp) (x y : Reg) (f : File) : OperandShape → Value → Value → Type 0 where
  both_stand : {v w : Value} → Holds x v f → Holds y w f → Operands op x y f InRegisters v w
  left_stands : {v : Value} {w : ℕ} {i : Immediate} → Means op w i → Holds x v f → Operands op x y f (ConstantRight i) v (value.Word w)
  right_stands : {v : Value} {w : ℕ} {i : Immediate} → MeansLeft op w i → Holds y v f → Operands op x y f (ConstantLeft i) (value.Word w) v
  a_power : {v : Value} {w k : ℕ} → IsDivision op → 1 ≤ k → k < 63 → 2 ^ k ≡ w → y.comp ≡ comp.Int → Holds x v f → Operands op x y f (PowerRight k) v (value.Word w)

-- the values that the operation reads, where it is one
abbrev pub shape_values : OperandShape → Value → Value → List Value
shape_values InRegisters v w = v ∷ w ∷ []
shape_values (ConstantRight i) v w = v ∷ []
shape_values (ConstantLeft i) v w = w ∷ []
shape_values (PowerRight k) v w = v ∷ w ∷ []

pub one_value : {x : Reg} {v : Value} {f : File} → Holds x v f → values f (x ∷ []) ≡ Some (v ∷ [])
one_value h = ap (λ o. with_held o (Some [])) h.is

pub two_values : {x y : Reg} {v w : Value} {f : File} → Holds x v f → Holds y w f → values f (x ∷ y ∷ []) ≡ Some (v ∷ w ∷ [])
two_values {x} {y} {v} {w} {f} hv hw =
    ap (λ o. with_held o (with_held (f y.number) (Some []))) hv.is ∙ ap (λ o. with_held (Some (record { comp = x.comp; value = v })) (with_held o (Some []))) hw.is

-- the test says what the comparison gives
pub record Says (op : IntOp) (s : OperandShape) (t : Test) : Type 0 where
  pub is : {x y : Reg} {f : File} {v w : Value} (z : List ℕ) → Operands op x y f s v w → truth_of z t (shape_values s v w) ≡ as_condition z (apply op z v w)
  pub reads : {x y : Reg} {f : File} {v w : Value} → Operands op x y f s v w → values f (shape_args s x y) ≡ Some (shape_values s v w)

pub data Compared (op : IntOp) (s : OperandShape) : Option Test → Type 0 where
  no_comparison : Compared op s None
  compares : {t : Test} → Says op s t → Compared op s (Some t)

signed_one : (z : List ℕ) (i : Immediate) (t : Test) (v : Value) → comparison i.op (right.Constant i.word) ≡ Some t → truth_of z t (v ∷ []) ≡ as_condition z (apply i.op z v (value.Word i.word))
signed_one z i t v e = by i.op e
  where
    by : (o : IntOp) → comparison o (right.Constant i.word) ≡ Some t → truth_of z t (v ∷ []) ≡ as_condition z (apply o z v (value.Word i.word))
    by (operators.Cmp q) e = let same : test.Signed q (right.Constant i.word) ≡ t = cc in subst (λ u. truth_of z u (v ∷ []) ≡ as_condition z (apply (operators.Cmp q) z v (value.Word i.word))) same refl
    by (operators.CmpU q) e = let same : test.Unsigned q (right.Constant i.word) ≡ t = cc in subst (λ u. truth_of z u (v ∷ []) ≡ as_condition z (apply (operators.CmpU q) z v (value.Word i.word))) same refl
    by o e = absurd (cc)

both_one : (z : List ℕ) (op : IntOp) (t : Test) (v w : Value) → comparison op right.Register ≡ Some t → truth_of z t (v ∷ w ∷ []) ≡ as_condition z (apply op z v w)
both_one z (operators.Cmp q) t v w e = let same : test.Signed q right.Register ≡ t = cc in subst (λ u. truth_of z u (v ∷ w ∷ []) ≡ as_condition z (apply (operators.Cmp q) z v w)) same refl
both_one z (operators.CmpU q) t v w e = let same : test.Unsigned q right.Register ≡ t = cc in subst (λ u. truth_of z u (v ∷ w ∷ []) ≡ as_condition z (apply (operators.CmpU q) z v w)) same refl
both_one z o t v w e = absurd (cc)

says : (op : IntOp) (s : OperandShape) (t : Test) → comparison (shape_op s op) (shape_right s) ≡ Some t →
    {x y : Reg} {f : File} {v w : Value} (z : List ℕ) → Operands op x y f s v w → truth_of z t (shape_values s v w) ≡ as_condition z (apply op z v w)
says op s t e z (both_stand {v = v} {w = w} hv hw) = both_one z op t v w e
says op s t e z (left_stands {v = v} {i = i} m hv) = signed_one z i t v e ∙ sym (ap (as_condition z) (m.is z v))
says op s t e z (right_stands {v = v} {i = i} m hw) = signed_one z i t v e ∙ sym (ap (as_condition z) (m.is z v))
says op s t e z (a_power {v = v} {w = w} d le less p q hv) = both_one z op t v (value.Word w) e

no_test : {op : IntOp} {t : Test} → IsDivision op → comparison op right.Register ≡ Some t → ⊥
no_test is_div e = cc
no_test is_mod e = cc

reads : (op : IntOp) (s : OperandShape) (t : Test) → comparison (shape_op s op) (shape_right s) ≡ Some t →
    {x y : Reg} {f : File} {v w : Value} → Operands op x y f s v w → values f (shape_args s x y) ≡ Some (shape_values s v w)
reads op s t e (both_stand hv hw) = two_values hv hw
reads op s t e (left_stands m hv) = one_value hv
reads op s t e (right_stands m hw) = one_value hw
reads op s t e (a_power d le less p q hv) = absurd (no_test d e)

compared_by : (op : IntOp) (s : OperandShape) (o : Option Test) → comparison (shape_op s op) (shape_right s) ≡ o → Compared op s o
compared_by op s None e = no_comparison
compared_by op s (Some t) e = compares (record { is = λ z read. says op s t e z read; reads = λ read. reads op s t e read })

pub compared : (op : IntOp) (s : OperandShape) → Compared op s (comparison (shape_op s op) (shape_right s))
compared op s = compared_by op s (comparison (shape_op s op) (shape_right s)) refl

module _ (c : ActivationSetting) (m : Mach) (turns : ℕ) (ts : List ℕ) where
  pub shape_two : {B : Type 0} {env : List NamedRegister} {labels : List Label} {b d : ℕ} {P : File → Type 0} {op : IntOp} {s : OperandShape} (left_first : Bool) (left e : Expression) → ShapeView op left e s → is_left_first (scopes env) left e ≡ left_first →
      Selected c m turns ts left → Selected c m turns ts e → width left < 2 ^ 60 → width e < 2 ^ 60 →
      (nx ny ix iy : ℕ) (next : List Instr) (go : Value → Value → Here → Memory → Part B) (k : Leaves B → Does) → Lower b labels → Under b env → 21 ≤ b → Stable env b d P →
      b ≤ nx → b ≤ ny → nx < ix → ny < iy → nx < iy → ny < ix → (nx ≡ ny → ⊥) →
      ((rest : List Instr) → Within rest (select env labels false false (fresh_register nx (type_of (scopes env) left)) ix left rest)) →
      ((rest : List Instr) → Within rest (select env labels false false (fresh_register ny (type_of (scopes env) e)) iy e rest)) →
      Placed m ts (ordered left_first (unless_left s (select env labels false false (fresh_register nx (type_of (scopes env) left)) ix left)) (unless_right s (select env labels false false (fresh_register ny (type_of (scopes env) e)) iy e)) next) →
      Outs c m turns ts env labels P k → (h : Here) (f : File) (memory : Memory) → Level c m turns ts h → Stands env h.names f → P f →
      ((v w : Value) (h : Here) (f : File) (memory : Memory) → Level c m turns ts h → Stands env h.names f → P f →
      Operands op (fresh_register nx (type_of (scopes env) left)) (fresh_register ny (type_of (scopes env) e)) f s v w → FollowsText c m (go v w h memory k) (Continues (at c m turns ts next f memory))) →
      FollowsText c m (both left_first (does (text_setting c) turns left false) (does (text_setting c) turns e false) h memory go k)
      (Continues (at c m turns ts (ordered left_first (unless_left s (select env labels false false (fresh_register nx (type_of (scopes env) left)) ix left)) (unless_right s (select env labels false false (fresh_register ny (type_of (scopes env) e)) iy e)) next) f memory))
  shape_two left_first left e in_registers is sl sr fl fr nx ny ix iy next go k lower under first stable bx by' xx yy xy yx apart el er ending outs h f memory level s p on =
      two c m turns ts left_first left e sl sr fl fr nx ny ix iy next go k lower under first stable bx by' xx yy xy yx apart el er ending outs h f memory level s p
      (λ v w h f memory level s p fv fw hv hw. on v w h f memory level s p (both_stand hv hw))
  shape_two true left e (constant_right z) is sl sr fl fr nx ny ix iy next go k lower under first stable bx by' xx yy xy yx apart el er ending outs h f memory level s p on = absurd (true≢false (sym is))
  shape_two {env = env} false left e (constant_right {place = place} {w = w} z) is sl sr fl fr nx ny ix iy next go k lower under first stable bx by' xx yy xy yx apart el er ending outs h f memory level s p on =
      constant_operand c m turns place w h memory (λ u h memory. with_value (does (text_setting c) turns left false h memory) (λ v h memory. go v u h memory)) k _ refl
      (operand c m turns ts left sl fl nx ix next (λ v h memory. go v (value.Word w) h memory) k
      (ready_at c m turns ts (type_of (scopes env) left) nx ix lower under first bx xx) (stable_inner nx ix bx (omega (arith, bx, xx)) stable) ending outs h f memory level s p
      (λ v h f memory level s p fv hv. on v (value.Word w) h f memory level s p (left_stands z hv)))
  shape_two true left e (power_right z low top q) is sl sr fl fr nx ny ix iy next go k lower under first stable bx by' xx yy xy yx apart el er ending outs h f memory level s p on = absurd (true≢false (sym is))
  shape_two {env = env} false left e (power_right {place = place} {w = w} z le less q) is sl sr fl fr nx ny ix iy next go k lower under first stable bx by' xx yy xy yx apart el er ending outs h f memory level s p on =
      constant_operand c m turns place w h memory (λ u h memory. with_value (does (text_setting c) turns left false h memory) (λ v h memory. go v u h memory)) k _ refl
      (operand c m turns ts left sl fl nx ix next (λ v h memory. go v (value.Word w) h memory) k
      (ready_at c m turns ts (type_of (scopes env) left) nx ix lower under first bx xx) (stable_inner nx ix bx (omega (arith, bx, xx)) stable) ending outs h f memory level s p
      (λ v h f memory level s p fv hv. on v (value.Word w) h f memory level s p (a_power z le less q refl hv)))
  shape_two {env = env} true left e (constant_left {place = place} {w = w} z) is sl sr fl fr nx ny ix iy next go k lower under first stable bx by' xx yy xy yx apart el er ending outs h f memory level s p on =
      constant_operand c m turns place w h memory (λ u h memory. with_value (does (text_setting c) turns e false h memory) (λ v h memory. go u v h memory)) k _ refl
      (operand c m turns ts e sr fr ny iy next (λ v h memory. go (value.Word w) v h memory) k
      (ready_at c m turns ts (type_of (scopes env) e) ny iy lower under first by' yy) (stable_inner ny iy by' (omega (arith, by', yy)) stable) ending outs h f memory level s p
      (λ v h f memory level s p fv hv. on (value.Word w) v h f memory level s p (right_stands z hv)))
  shape_two {env = env} false left e (constant_left {place = place} {w = w} z) is sl sr fl fr nx ny ix iy next go k lower under first stable bx by' xx yy xy yx apart el er ending outs h f memory level s p on =
      operand c m turns ts e sr fr ny iy next (λ v h memory. with_value (does (text_setting c) turns (Integer place w) false h memory) (λ u h memory. go u v h memory)) k
      (ready_at c m turns ts (type_of (scopes env) e) ny iy lower under first by' yy) (stable_inner ny iy by' (omega (arith, by', yy)) stable) ending outs h f memory level s p
      (λ v h f memory level s p fv hv.
      constant_operand c m turns place w h memory (λ u h memory. go u v h memory) k _ refl (on (value.Word w) v h f memory level s p (right_stands z hv)))
