-- What holds of no code holds of code that is left out where it is not needed, as it holds of the code itself.
use Rattle.std.proofs.Common.{ℕ, Bool, true, false, cond, List, Option, Some, None}
use Rattle.mach_ir.specs.declared.mach.Test.{Test}
use Rattle.mach_ir.specs.declared.op.Right.{Right}
use Rattle.mach_ir.specs.declared.op.Right.TheVariants as right
use Rattle.selection_rules.specs.Select.{Code, OperandShape, InRegisters, ConstantRight, ConstantLeft, PowerRight, ordered, only_when, unless_symbol, unless_constant, unless_left, unless_right, fused_test}

module _ (P : Code → Type 0) (nothing : P (λ next. next)) where
  pub kept_when : {x : Code} (b : Bool) → P x → P (only_when b x)
  kept_when true p = p
  kept_when false p = nothing

  pub kept_unless : {x : Code} (o : Option (List ℕ)) → P x → P (unless_symbol o x)
  kept_unless (Some name) p = nothing
  kept_unless None p = p

  pub kept_constant : {x : Code} (r : Right) → P x → P (unless_constant r x)
  kept_constant right.Register p = p
  kept_constant (right.Constant w) p = nothing

  pub kept_left : {x : Code} (s : OperandShape) → P x → P (unless_left s x)
  kept_left InRegisters p = p
  kept_left (ConstantRight i) p = p
  kept_left (ConstantLeft i) p = nothing
  kept_left (PowerRight k) p = p

  pub kept_right : {x : Code} (s : OperandShape) → P x → P (unless_right s x)
  kept_right InRegisters p = p
  kept_right (ConstantRight i) p = nothing
  kept_right (ConstantLeft i) p = p
  kept_right (PowerRight k) p = nothing

-- and of one of two codes, as it holds of both
module _ (P : Code → Type 0) where
  pub kept_if : {x y : Code} (q : Bool) → P x → P y → P (λ next. cond q (x next) (y next))
  kept_if true p q = p
  kept_if false p q = q

  pub kept_tested : {value : Code} (o : Option Test) (fused : Test → Code) → ((t : Test) → P (fused t)) → P value →
      P (λ next. fused_test o (λ t. fused t next) (value next))
  kept_tested (Some t) fused f p = f t
  kept_tested None fused f p = p

  pub kept_ordered : ((x y : Code) → P x → P y → P (λ next. x (y next))) → {x y : Code} (first : Bool) → P x → P y → P (ordered first x y)
  kept_ordered then_so true p q = then_so _ _ p q
  kept_ordered then_so false p q = then_so _ _ q p
