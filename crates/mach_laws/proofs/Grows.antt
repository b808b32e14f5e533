-- How code grows where each instruction is replaced.
use Rattle.std.proofs.Common.{◌≡◌, ℕ, suc, ◌+◌, ◌*◌, ◌≤◌, ◌<◌, List, [], ◌∷◌, ◌++◌, length, sym, ap, ◌∙◌, subst, arith}
use Rattle.std.proofs.lemmas.List.{length-append}
use Rattle.std.proofs.Math.Nat.{add_assoc}
use Rattle.mach_ir.specs.Sizes.{operand_count, Size, HasSize}
use Rattle.mach_ir.specs.declared.mach.Instr.{Instr}
use Rattle.mach_ir.specs.declared.mach.Mach.{Mach}
use Rattle.mach_laws.specs.Expand.{expand}

-- the operands and results of one instruction
abbrev pub held : Instr → ℕ
held i = length i.args + length i.results

add_up : (a b c d e g : ℕ) → a ≤ suc b → c ≤ d + e → g ≡ a + c → g ≤ suc d + (b + e)
add_up a b c d e g x y z = omega (arith, x, y, z)

pub operands_append : (xs ys : List Instr) → operand_count (xs ++ ys) ≡ operand_count xs + operand_count ys
operands_append [] ys = refl_zero (operand_count ys)
  where
    refl_zero : (k : ℕ) → k ≡ 0 + k
    refl_zero k = omega arith
operands_append (x ∷ xs) ys =
    ap (λ k. held x + k) (operands_append xs ys) ∙ sym (add_assoc (held x) (operand_count xs) (operand_count ys))

module _ (f : ℕ → Instr → List Instr) where
  -- with one instruction more for each operand and result
  pub instrs_expand : ((n : ℕ) (i : Instr) → length (f n i) ≤ suc (held i)) → (code : List Instr) →
      length (expand f code) ≤ length code + operand_count code
  instrs_expand few [] = omega arith
  instrs_expand few (i ∷ is) =
      add_up (length (f (length is) i)) (held i) (length (expand f is)) (length is) (operand_count is)
      (length (expand f (i ∷ is))) (few (length is) i) (instrs_expand few is)
      (length-append (f (length is) i) (expand f is))

  multiply : (k a b c d g : ℕ) → a ≤ k * b → c ≤ k * d → g ≡ a + c → g ≤ k * (b + d)
  multiply k a b c d g x y z =
      subst (λ m. m ≤ k * (b + d)) (sym z) (subst (λ m. a + c ≤ m) (spread k b d) (both a (k * b) c (k * d) x y))
    where
      spread : (k b d : ℕ) → k * b + k * d ≡ k * (b + d)
      spread k b d = omega arith

      both : (a b c d : ℕ) → a ≤ b → c ≤ d → a + c ≤ b + d
      both a b c d x y = omega (arith, x, y)

  -- where each instruction gets at most so many times its operands and results
  pub operands_expand : (k : ℕ) → ((n : ℕ) (i : Instr) → operand_count (f n i) ≤ k * held i) → (code : List Instr) →
      operand_count (expand f code) ≤ k * operand_count code
  operands_expand k few [] = none k
    where
      none : (k : ℕ) → 0 ≤ k * 0
      none k = omega arith
  operands_expand k few (i ∷ is) =
      multiply k (operand_count (f (length is) i)) (held i) (operand_count (expand f is)) (operand_count is)
      (operand_count (expand f (i ∷ is))) (few (length is) i) (operands_expand k few is)
      (operands_append (f (length is) i) (expand f is))

-- bounds may be raised
pub within_more : {m : Mach} {s t : Size} → HasSize m s → s.instrs ≤ t.instrs → s.operands ≤ t.operands →
    s.registers ≤ t.registers → s.labels ≤ t.labels → HasSize m t
within_more {m} {s} {t} w a b c d =
    record {
      instrs = at_most (length m.code) s.instrs t.instrs w.instrs a;
      operands = at_most (operand_count m.code) s.operands t.operands w.operands b;
      numbers = λ r i. below r.number s.registers t.registers (w.numbers r i) c;
      origins = λ r i. below r.origin s.registers t.registers (w.origins r i) c;
      labels = at_most m.labels s.labels t.labels w.labels d;
    }
  where
    at_most : (a b c : ℕ) → a ≤ b → b ≤ c → a ≤ c
    at_most a b c x y = omega (arith, x, y)

    below : (a b c : ℕ) → a < b → b ≤ c → a < c
    below a b c x y = omega (arith, x, y)
