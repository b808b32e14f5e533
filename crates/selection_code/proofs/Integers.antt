-- Expressions that are integers, and those that are not.
use Rattle.std.proofs.Common.{◌≡◌, ℕ, cond, Option, Some, None, refl, ap, sym, ◌∙◌}
use Rattle.bs_words.specs.declared.operators.IntOp.{IntOp}
use Rattle.cmm_tree.specs.Tree.{Expression, Integer}
use Rattle.mach_ir.specs.declared.op.Right.TheVariants as right
use Rattle.mach_ir.specs.Forms.{is_immediate}
use Rattle.selection_rules.specs.Select.{immediate_of, commuted, if_commuted, right_immediate, left_immediate, power_of, exponent_from, bound_test_operand}
use Rattle.selection_code.specs.Shapes.{integer_of}

-- what is said of the word, if there is one
abbrev pub told : {A : Type 0} → A → (ℕ → A) → Option ℕ → A
told none some None = none
told none some (Some w) = some w

pub right_told : (op : IntOp) (e : Expression) → right_immediate op e ≡ told None (immediate_of op) (integer_of e)
right_told op (Integer at w) = refl
right_told op e = refl

pub left_told : (op : IntOp) (e : Expression) → left_immediate op e ≡ told None (if_commuted (commuted op)) (integer_of e)
left_told op (Integer at w) = refl
left_told op e = refl

pub power_told : (e : Expression) → power_of e ≡ told None (exponent_from 62 1) (integer_of e)
power_told (Integer at w) = refl
power_told e = refl

pub bound_told : (f : IntOp) (e : Expression) → bound_test_operand f e ≡ told right.Register (λ w. cond (is_immediate f w) (right.Constant w) right.Register) (integer_of e)
bound_told f (Integer at w) = refl
bound_told f e = refl

-- ---- the same where it is known which it is

pub right_some : (op : IntOp) (e : Expression) (w : ℕ) → Some w ≡ integer_of e → right_immediate op e ≡ immediate_of op w
right_some op e w h = right_told op e ∙ ap (told None (immediate_of op)) (sym h)

pub right_none : (op : IntOp) (e : Expression) → None ≡ integer_of e → right_immediate op e ≡ None
right_none op e h = right_told op e ∙ ap (told None (immediate_of op)) (sym h)

pub left_some : (op : IntOp) (e : Expression) (w : ℕ) → Some w ≡ integer_of e → left_immediate op e ≡ if_commuted (commuted op) w
left_some op e w h = left_told op e ∙ ap (told None (if_commuted (commuted op))) (sym h)

pub left_none : (op : IntOp) (e : Expression) → None ≡ integer_of e → left_immediate op e ≡ None
left_none op e h = left_told op e ∙ ap (told None (if_commuted (commuted op))) (sym h)

pub power_some : (e : Expression) (w : ℕ) → Some w ≡ integer_of e → power_of e ≡ exponent_from 62 1 w
power_some e w h = power_told e ∙ ap (told None (exponent_from 62 1)) (sym h)

pub power_none : (e : Expression) → None ≡ integer_of e → power_of e ≡ None
power_none e h = power_told e ∙ ap (told None (exponent_from 62 1)) (sym h)

pub bound_some : (f : IntOp) (e : Expression) (w : ℕ) → Some w ≡ integer_of e → bound_test_operand f e ≡ cond (is_immediate f w) (right.Constant w) right.Register
bound_some f e w h = bound_told f e ∙ ap (told right.Register (λ w. cond (is_immediate f w) (right.Constant w) right.Register)) (sym h)

pub bound_none : (f : IntOp) (e : Expression) → None ≡ integer_of e → bound_test_operand f e ≡ right.Register
bound_none f e h = bound_told f e ∙ ap (told right.Register (λ w. cond (is_immediate f w) (right.Constant w) right.Register)) (sym h)
