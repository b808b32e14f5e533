-- One instruction that works on registers which stand for values, of two registers or of one and a
-- constant.
use Rattle.std.proofs.Common.{◌≡◌, ◌≢◌, ℕ, suc, ◌%◌, ◌^◌, ◌<◌, ◌⊎◌, inl, inr, true, ◌&&◌, nat_le, nat_lt, List, [], ◌∷◌, Ok, slice_index, refl, ap, arith, ◌∙◌, sym, subst, ⊎_elim}
use Rattle.std.proofs.lemmas.Bool.{and_parts, leb-true, ltb-true, or_cases}
use Rattle.bs_words.specs.Operators.{apply}
use Rattle.bs_words.specs.declared.operators.IntOp.{IntOp}
use Rattle.bs_words.specs.declared.values.Value.{Value}
use Rattle.bs_words.specs.declared.values.Value.TheVariants.{Word}
use Rattle.mach_ir.specs.Forms.{is_immediate_12}
use Rattle.rv_isa.specs.declared.instr.AluImmOp.{AluImmOp}
use Rattle.rv_isa.specs.declared.instr.AluImmOp.TheVariants as imm
use Rattle.rv_isa.specs.declared.instr.AluOp.{AluOp}
use Rattle.rv_isa.specs.declared.instr.AluOp.TheVariants as row
use Rattle.rv_isa.specs.declared.instr.Instr.TheVariants.{Op, OpImm, Shift}
use Rattle.rv_isa.specs.declared.instr.ShiftOp.{ShiftOp}
use Rattle.rv_isa.specs.declared.instr.ShiftOp.TheVariants as amount
use Rattle.rv_machine.specs.Arithmetic.{alu, alu_imm, imm_i, shift}
use Rattle.rv_machine.specs.Hart.{Placed}
use Rattle.rv_machine.specs.Sound.{AreRegisters}
use Rattle.machine_laws.proofs.Values.{alu-below}
use Rattle.moving_laws.specs.Heap.{AreBlocks}
use Rattle.lin_machine.specs.Relation.{StandsFor}
use Rattle.lin_machine.specs.Straight.{Changes}
use Rattle.lin_machine.specs.View.{Fixed, View, IsInstructionAt}
use Rattle.lin_machine.proofs.Formats.{sets_imm, sets_op, sets_shift}
use Rattle.machine_laws.proofs.Immediates.{high_12, low_12}
use Rattle.lin_machine.proofs.Operators.{IsRowOf}
use Rattle.lin_machine.proofs.Sequences.{set_changes, sets_as, widened}
use Rattle.lin_machine.proofs.Steps.{SetsRegister}

module _ (s : Fixed) (placed : List Placed) (blocks : AreBlocks placed) (sizes : List ℕ) (f : IntOp) (r : AluOp) (is : IsRowOf f r) (u : View)
    (are : AreRegisters u.registers) (x y z : Value)
    (e : apply f sizes x y ≡ Ok z) (t ra : ℕ) (fits : suc t < 32) (other : suc t ≢ 2) (sx : StandsFor s placed (slice_index u.registers (suc ra)) x) where
  -- ---- of two registers

  pub row_works : (rb : ℕ) → StandsFor s placed (slice_index u.registers (suc rb)) y → IsInstructionAt s u.place (Op r (suc t) (suc ra) (suc rb)) →
      Changes s u 1 (suc t ∷ []) u.memory (λ w. StandsFor s placed (slice_index w.registers (suc t)) z)
  row_works rb sy code =
      let wx : ℕ = slice_index u.registers (suc ra) in
      let wy : ℕ = slice_index u.registers (suc rb) in
      let stands = is.is s placed sizes x y z wx wy blocks (are.words (suc ra)) (are.words (suc rb)) sx sy e in
      widened s u 1 (suc t ∷ []) (suc t ∷ []) u.memory (λ w. slice_index w.registers (suc t) ≡ alu r (slice_index u.registers (suc ra))
      (slice_index u.registers (suc rb))) _ (λ q i. i)
      (λ w p h. subst (λ k. StandsFor s placed k z) (sym h) stands)
      (set_changes s u (Op r (suc t) (suc ra) (suc rb)) t (alu r wx wy) code (inl other) (sets_op s u r (suc t) (suc ra) (suc rb)) are fits
      (alu-below r wx wy (are.words (suc ra)) (are.words (suc rb))))

  -- ---- of a register and a constant, whatever instruction does the row's work with it

  pub constant_works : (k : ℕ) (i : _) → y ≡ Word k → k < 2 ^ 64 → SetsRegister s u i (suc t) (alu r (slice_index u.registers (suc ra)) k) →
      IsInstructionAt s u.place i →
      Changes s u 1 (suc t ∷ []) u.memory (λ w. StandsFor s placed (slice_index w.registers (suc t)) z)
  constant_works k i same small sets code =
      let wx : ℕ = slice_index u.registers (suc ra) in
      let sy : StandsFor s placed k y = subst (λ v. StandsFor s placed k v) (sym same) (record { is = refl; known = tt }) in
      let stands = is.is s placed sizes x y z wx k blocks (are.words (suc ra)) small sx sy e in
      widened s u 1 (suc t ∷ []) (suc t ∷ []) u.memory (λ w. slice_index w.registers (suc t) ≡ alu r (slice_index u.registers (suc ra)) k) _ (λ q j. j)
      (λ w p h. subst (λ k. StandsFor s placed k z) (sym h) stands)
      (set_changes s u i t (alu r wx k) code (inl other) sets are fits (alu-below r wx k (are.words (suc ra)) small))

-- ---- immediates

-- a constant that 12 bits hold is what they are extended to
pub immediate_is : (k : ℕ) → is_immediate_12 k ≡ true → imm_i (k % 4096) ≡ k
immediate_is k h =
    ⊎_elim
    (λ l.
    let small = ltb-true k 2048 l in
    let e : k % 4096 ≡ k = omega (arith, small) in
    ap imm_i e ∙ low_12 k small)
    (λ l.
    let p = and_parts (nat_le 0xFFFFFFFFFFFFF800 k) (nat_lt k 0x10000000000000000) l in
    let low = leb-true 0xFFFFFFFFFFFFF800 k p.0 in
    let high = ltb-true k 0x10000000000000000 p.1 in
    high_12 (k % 4096) (omega (arith, low, high)) (omega arith) ∙ omega (arith, low, high))
    (or_cases (nat_lt k 2048) (nat_le 0xFFFFFFFFFFFFF800 k && nat_lt k 0x10000000000000000) h)

pub immediate_small : (k : ℕ) → is_immediate_12 k ≡ true → k < 2 ^ 64
immediate_small k h =
    ⊎_elim (λ l. let small = ltb-true k 2048 l in omega (arith, small))
    (λ l. let high = ltb-true k 0x10000000000000000 (and_parts (nat_le 0xFFFFFFFFFFFFF800 k) (nat_lt k 0x10000000000000000) l).1 in omega (arith, high))
    (or_cases (nat_lt k 2048) (nat_le 0xFFFFFFFFFFFFF800 k && nat_lt k 0x10000000000000000) h)

-- the rows that have such immediates
pub data IsImmediateRow : AluOp → AluImmOp → Type 0 where
  adds : IsImmediateRow row.Add imm.Addi
  less : IsImmediateRow row.Slt imm.Slti
  less_unsigned : IsImmediateRow row.Sltu imm.Sltiu
  and_bits : IsImmediateRow row.And imm.Andi
  or_bits : IsImmediateRow row.Or imm.Ori
  xor_bits : IsImmediateRow row.Xor imm.Xori

immediate_same : {r : AluOp} {i : AluImmOp} → IsImmediateRow r i → (w k : ℕ) → imm_i (k % 4096) ≡ k → alu_imm i w (k % 4096) ≡ alu r w k
immediate_same adds w k e = ap (alu row.Add w) e
immediate_same less w k e = ap (alu row.Slt w) e
immediate_same less_unsigned w k e = ap (alu row.Sltu w) e
immediate_same and_bits w k e = ap (alu row.And w) e
immediate_same or_bits w k e = ap (alu row.Or w) e
immediate_same xor_bits w k e = ap (alu row.Xor w) e

module _ (s : Fixed) (u : View) (t ra k : ℕ) where
  pub immediate_sets : (r : AluOp) (i : AluImmOp) → IsImmediateRow r i → is_immediate_12 k ≡ true →
      SetsRegister s u (OpImm i (suc t) (suc ra) (k % 4096)) (suc t) (alu r (slice_index u.registers (suc ra)) k)
  immediate_sets r i same h =
      sets_as s u (OpImm i (suc t) (suc ra) (k % 4096)) (suc t) _ _ (immediate_same same (slice_index u.registers (suc ra)) k (immediate_is k h))
      (sets_imm s u i (suc t) (suc ra) (k % 4096))

  -- shifts by a constant
  pub shift_sets : (r : AluOp) (i : ShiftOp) →
      (((r ≡ row.Sll) × (i ≡ amount.Slli)) ⊎ (((r ≡ row.Srl) × (i ≡ amount.Srli)) ⊎ ((r ≡ row.Sra) × (i ≡ amount.Srai)))) → k < 64 →
      SetsRegister s u (Shift i (suc t) (suc ra) (k % 64)) (suc t) (alu r (slice_index u.registers (suc ra)) k)
  shift_sets r i which small =
      sets_as s u (Shift i (suc t) (suc ra) (k % 64)) (suc t) _ _ (same r i which) (sets_shift s u i (suc t) (suc ra) (k % 64))
    where
      same : (r : AluOp) (i : ShiftOp) → (((r ≡ row.Sll) × (i ≡ amount.Slli)) ⊎ (((r ≡ row.Srl) × (i ≡ amount.Srli)) ⊎ ((r ≡ row.Sra) × (i ≡ amount.Srai)))) →
          shift i (slice_index u.registers (suc ra)) (k % 64) ≡ alu r (slice_index u.registers (suc ra)) k
      same r i (inl e) = subst (λ a. shift i (slice_index u.registers (suc ra)) (k % 64) ≡ alu a (slice_index u.registers (suc ra)) k) (sym e.0)
          (subst (λ b. shift b (slice_index u.registers (suc ra)) (k % 64) ≡ alu row.Sll (slice_index u.registers (suc ra)) k) (sym e.1) refl)
      same r i (inr (inl e)) = subst (λ a. shift i (slice_index u.registers (suc ra)) (k % 64) ≡ alu a (slice_index u.registers (suc ra)) k) (sym e.0)
          (subst (λ b. shift b (slice_index u.registers (suc ra)) (k % 64) ≡ alu row.Srl (slice_index u.registers (suc ra)) k) (sym e.1) refl)
      same r i (inr (inr e)) = subst (λ a. shift i (slice_index u.registers (suc ra)) (k % 64) ≡ alu a (slice_index u.registers (suc ra)) k) (sym e.0)
          (subst (λ b. shift b (slice_index u.registers (suc ra)) (k % 64) ≡ alu row.Sra (slice_index u.registers (suc ra)) k) (sym e.1) refl)
