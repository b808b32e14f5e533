-- What the rows of an operator leave in its target.
use Rattle.std.proofs.Common.{◌≡◌, ◌≢◌, ℕ, suc, ◌+◌, ◌-◌, ◌*◌, ◌%◌, ◌^◌, ◌<◌, ◌≤◌, ◌⊎◌, inl, inr, Bool, true, false, ◌&&◌, nat_le, nat_lt, [], ◌∷◌, ◌++◌, bit_xor, slice_index, refl, ap, ap₂, arith, ◌∙◌, sym, subst, ⊎_elim}
use Rattle.std.proofs.lemmas.Bool.{and_parts, leb-true, ltb-true, or_cases}
use Rattle.bs_words.specs.Word.{add_word, sub_word}
use Rattle.bs_words.proofs.Below.{sub_word-below}
use Rattle.bs_words.specs.declared.operators.CmpOp.{CmpOp}
use Rattle.bs_words.specs.declared.operators.CmpOp.TheVariants as compare
use Rattle.bs_words.specs.declared.operators.IntOp.{IntOp}
use Rattle.bs_words.specs.declared.operators.IntOp.TheVariants as operator
use Rattle.rv_emit_rules.specs.Constants.{constant_pieces}
use Rattle.rv_emit_rules.specs.Instructions.{addi, alu_operation, shift_piece, with_immediate}
use Rattle.rv_emit_rules.specs.Operators.{compared, compared_with, operated, operated_with}
use Rattle.rv_layout_rules.specs.Words.{NameAddresses}
use Rattle.mach_ir.specs.Forms.{is_immediate, is_immediate_12, is_opposite_immediate_12}
use Rattle.rv_isa.specs.Registers.{register_number}
use Rattle.rv_isa.specs.declared.instr.AluImmOp.{AluImmOp}
use Rattle.rv_isa.specs.declared.instr.AluImmOp.TheVariants as imm
use Rattle.rv_isa.specs.declared.instr.AluOp.{AluOp}
use Rattle.rv_isa.specs.declared.instr.AluOp.TheVariants as row
use Rattle.rv_isa.specs.declared.instr.Instr.{Instr}
use Rattle.rv_pieces.specs.declared.piece.Piece.TheVariants.{Known}
use Rattle.rv_isa.specs.declared.instr.Instr.TheVariants.{Op, OpImm, Shift}
use Rattle.rv_isa.specs.declared.instr.ShiftOp.{ShiftOp}
use Rattle.rv_isa.specs.declared.instr.ShiftOp.TheVariants as amount
use Rattle.rv_isa.specs.declared.register.Register.{Register}
use Rattle.rv_isa.specs.declared.register.Register.TheVariants.{T2}
use Rattle.rv_machine.specs.Arithmetic.{alu, bit_of, imm_i}
use Rattle.rv_machine.specs.Sound.{AreRegisters}
use Rattle.machine_laws.proofs.Values.{alu-below, alu_imm-below}
use Rattle.lin_machine.specs.Straight.{Changes}
use Rattle.lin_machine.specs.View.{Fixed, View, IsInstructionAt}
use Rattle.lin_machine.proofs.Formats.{sets_imm, sets_op}
use Rattle.machine_laws.proofs.Immediates.{by_12}
use Rattle.lin_machine.proofs.Rows.{IsImmediateRow, adds, less, less_unsigned, and_bits, or_bits, xor_bits, immediate_sets, immediate_small, shift_sets}
use Rattle.lin_machine.proofs.Sequences.{set_changes, set_then, sets_as, then_changes, widened}
use Rattle.lin_machine.proofs.Steps.{SetsRegister}
use Rattle.line_stands.specs.Parts.{PartStands}
use Rattle.line_stands.proofs.Parts.{counts, last, leads}
use Rattle.line_values.proofs.Chains.{constant_comes}
use Rattle.line_values.proofs.Compared.{compared_word}

-- what an operator's rows leave of two words
abbrev pub result_word : IntOp → ℕ → ℕ → ℕ
result_word operator.Add a b = alu row.Add a b
result_word operator.AddV a b = alu row.Add a b
result_word operator.AddA a b = alu row.Add a b
result_word operator.Sub a b = alu row.Sub a b
result_word operator.Mul a b = alu row.Mul a b
result_word operator.Mulh a b = alu row.Mulh a b
result_word operator.Div a b = alu row.Div a b
result_word operator.Mod a b = alu row.Rem a b
result_word operator.And a b = alu row.And a b
result_word operator.Or a b = alu row.Or a b
result_word operator.Xor a b = alu row.Xor a b
result_word operator.Shl a b = alu row.Sll a b
result_word operator.Shr a b = alu row.Srl a b
result_word operator.Sar a b = alu row.Sra a b
result_word (operator.Cmp f) a b = compared_word (alu row.Slt) f a b
result_word (operator.CmpU f) a b = compared_word (alu row.Sltu) f a b

-- so many words leave this in the register
abbrev pub Leaves : Fixed → View → ℕ → ℕ → ℕ → Type 0
Leaves s u k t x = Changes s u k (t ∷ []) u.memory (λ w. slice_index w.registers t ≡ x)

module _ (s : Fixed) (n : NameAddresses) (u : View) (are : AreRegisters u.registers) (to : Register) (t : ℕ) (t_is : register_number to ≡ suc t) (fits : suc t < 32)
    (no_sp : suc t ≢ 2) where
  -- ---- instructions

  row_leaves : (r : AluOp) (a b : Register) (ra rb : ℕ) → register_number a ≡ suc ra → register_number b ≡ suc rb → IsInstructionAt s u.place (Op r (register_number to) (register_number a) (register_number b)) →
      Leaves s u 1 (suc t) (alu r (slice_index u.registers (suc ra)) (slice_index u.registers (suc rb)))
  row_leaves r a b ra rb a_is b_is c =
      let wx : ℕ = slice_index u.registers (suc ra) in
      let wy : ℕ = slice_index u.registers (suc rb) in
      let code : IsInstructionAt s u.place (Op r (suc t) (suc ra) (suc rb)) =
      subst (λ z. IsInstructionAt s u.place (Op r z (suc ra) (suc rb))) t_is
      (subst (λ z. IsInstructionAt s u.place (Op r (register_number to) z (suc rb))) a_is (subst (λ z. IsInstructionAt s u.place (Op r (register_number to) (register_number a) z)) b_is c)) in
      set_changes s u (Op r (suc t) (suc ra) (suc rb)) t (alu r wx wy) code (inl no_sp) (sets_op s u r (suc t) (suc ra) (suc rb)) are fits
      (alu-below r wx wy (are.words (suc ra)) (are.words (suc rb)))

  -- of a register and a constant
  constant_leaves : (i : Instr) (r : AluOp) (ra w : ℕ) → w < 2 ^ 64 → SetsRegister s u i (suc t) (alu r (slice_index u.registers (suc ra)) w) →
      IsInstructionAt s u.place i → Leaves s u 1 (suc t) (alu r (slice_index u.registers (suc ra)) w)
  constant_leaves i r ra w small sets code =
      set_changes s u i t (alu r (slice_index u.registers (suc ra)) w) code (inl no_sp) sets are fits
      (alu-below r (slice_index u.registers (suc ra)) w (are.words (suc ra)) small)

  -- and then one instruction more, of the target itself
  more : (i : Instr) (g : ℕ → ℕ) (x : ℕ) → Leaves s u 1 (suc t) x → IsInstructionAt s (u.place + 1) i →
      ((w : View) → SetsRegister s w i (suc t) (g (slice_index w.registers (suc t)))) → g x < 2 ^ 64 → Leaves s u 2 (suc t) (g x)
  more i g x first code sets below =
      set_then s u 1 (suc t ∷ []) u.memory (λ w. slice_index w.registers (suc t) ≡ x) i t (g x) first (inl refl)
      (λ w past e. sets_as s w i (suc t) _ (g x) (ap g e) (sets w)) code (inl no_sp) fits below

  bit_below : (b : Bool) → bit_of b < 2 ^ 64
  bit_below true = omega arith
  bit_below false = omega arith

  -- the last of two
  then_opposed : (x : ℕ) → x < 2 ^ 64 → Leaves s u 1 (suc t) x → IsInstructionAt s (u.place + 1) (OpImm imm.Xori (register_number to) (register_number to) 1) →
      Leaves s u 2 (suc t) (bit_xor x (imm_i 1))
  then_opposed x small first code =
      more (OpImm imm.Xori (suc t) (suc t) 1) (λ z. bit_xor z (imm_i 1)) x first (subst (λ z. IsInstructionAt s (u.place + 1) (OpImm imm.Xori z z 1)) t_is code)
      (λ w. sets_imm s w imm.Xori (suc t) (suc t) 1) (alu_imm-below imm.Xori x 1 small)

  then_none : (x : ℕ) → x < 2 ^ 64 → Leaves s u 1 (suc t) x → IsInstructionAt s (u.place + 1) (OpImm imm.Sltiu (register_number to) (register_number to) 1) →
      Leaves s u 2 (suc t) (bit_of (nat_lt x (imm_i 1)))
  then_none x small first code =
      more (OpImm imm.Sltiu (suc t) (suc t) 1) (λ z. bit_of (nat_lt z (imm_i 1))) x first
      (subst (λ z. IsInstructionAt s (u.place + 1) (OpImm imm.Sltiu z z 1)) t_is code) (λ w. sets_imm s w imm.Sltiu (suc t) (suc t) 1)
      (bit_below (nat_lt x (imm_i 1)))

  then_some : (x : ℕ) → Leaves s u 1 (suc t) x → IsInstructionAt s (u.place + 1) (Op row.Sltu (register_number to) 0 (register_number to)) →
      Leaves s u 2 (suc t) (bit_of (nat_lt 0 x))
  then_some x first code =
      more (Op row.Sltu (suc t) 0 (suc t)) (λ z. bit_of (nat_lt 0 z)) x first (subst (λ z. IsInstructionAt s (u.place + 1) (Op row.Sltu z 0 z)) t_is code)
      (λ w. sets_op s w row.Sltu (suc t) 0 (suc t)) (bit_below (nat_lt 0 x))

  -- ---- parts

  -- one instruction, or two
  one_part : (k x : ℕ) (i : Instr) → PartStands s n u.place (u.place + k) (Known i ∷ []) → (IsInstructionAt s u.place i → Leaves s u 1 (suc t) x) →
      Leaves s u k (suc t) x
  one_part k x i part f =
      let g = last s n u.place k i part in
      subst (λ z. Leaves s u z (suc t) x) (sym g.1) (f g.0)

  two_part : (k x : ℕ) (i j : Instr) → PartStands s n u.place (u.place + k) (Known i ∷ Known j ∷ []) →
      (IsInstructionAt s u.place i → IsInstructionAt s (u.place + 1) j → Leaves s u 2 (suc t) x) → Leaves s u k (suc t) x
  two_part k x i j part f =
      let g = leads s n u.place k i (Known j ∷ []) part in
      let h = last s n (u.place + 1) g.others j g.rest in
      let e1 = g.sum in
      let e2 = h.1 in
      let two : k ≡ 2 = omega (arith, e1, e2) in
      subst (λ z. Leaves s u z (suc t) x) (sym two) (f g.code h.0)

  module _ (a : Register) (ra : ℕ) (a_is : register_number a ≡ suc ra) where
    abbrev wx : ℕ
    wx = slice_index u.registers (suc ra)

    module _ (k : ℕ) (b : Register) (rb : ℕ) (b_is : register_number b ≡ suc rb) where
      abbrev wy : ℕ
      wy = slice_index u.registers (suc rb)

      one_row : (r : AluOp) → PartStands s n u.place (u.place + k) (alu_operation r to a b ∷ []) →
          Leaves s u k (suc t) (alu r (slice_index u.registers (suc ra)) (slice_index u.registers (suc rb)))
      one_row r part = one_part k (alu r wx wy) (Op r (register_number to) (register_number a) (register_number b)) part (row_leaves r a b ra rb a_is b_is)

      compared_leaves : (r : AluOp) (f : CmpOp) → PartStands s n u.place (u.place + k) (compared r f to a b) →
          Leaves s u k (suc t) (compared_word (alu r) f (slice_index u.registers (suc ra)) (slice_index u.registers (suc rb)))
      compared_leaves r compare.Eq part =
          two_part k (compared_word (alu r) compare.Eq wx wy) (Op row.Xor (register_number to) (register_number a) (register_number b)) (OpImm imm.Sltiu (register_number to) (register_number to) 1) part
          (λ c d. then_none (alu row.Xor wx wy) (alu-below row.Xor wx wy (are.words (suc ra)) (are.words (suc rb)))
          (row_leaves row.Xor a b ra rb a_is b_is c) d)
      compared_leaves r compare.Ne part =
          two_part k (compared_word (alu r) compare.Ne wx wy) (Op row.Xor (register_number to) (register_number a) (register_number b)) (Op row.Sltu (register_number to) 0 (register_number to)) part
          (λ c d. then_some (alu row.Xor wx wy) (row_leaves row.Xor a b ra rb a_is b_is c) d)
      compared_leaves r compare.Lt part = one_row r part
      compared_leaves r compare.Ge part =
          two_part k (compared_word (alu r) compare.Ge wx wy) (Op r (register_number to) (register_number a) (register_number b)) (OpImm imm.Xori (register_number to) (register_number to) 1) part
          (λ c d. then_opposed (alu r wx wy) (alu-below r wx wy (are.words (suc ra)) (are.words (suc rb))) (row_leaves r a b ra rb a_is b_is c) d)
      compared_leaves r compare.Gt part =
          one_part k (alu r wy wx) (Op r (register_number to) (register_number b) (register_number a)) part (row_leaves r b a rb ra b_is a_is)
      compared_leaves r compare.Le part =
          two_part k (compared_word (alu r) compare.Le wx wy) (Op r (register_number to) (register_number b) (register_number a)) (OpImm imm.Xori (register_number to) (register_number to) 1) part
          (λ c d. then_opposed (alu r wy wx) (alu-below r wy wx (are.words (suc rb)) (are.words (suc ra))) (row_leaves r b a rb ra b_is a_is c) d)

      -- Two registers.
      pub operated_leaves : (f : IntOp) → PartStands s n u.place (u.place + k) (operated f to a b) →
          Leaves s u k (suc t) (result_word f (slice_index u.registers (suc ra)) (slice_index u.registers (suc rb)))
      operated_leaves operator.Add part = one_row row.Add part
      operated_leaves operator.AddV part = one_row row.Add part
      operated_leaves operator.AddA part = one_row row.Add part
      operated_leaves operator.Sub part = one_row row.Sub part
      operated_leaves operator.Mul part = one_row row.Mul part
      operated_leaves operator.Mulh part = one_row row.Mulh part
      operated_leaves operator.Div part = one_row row.Div part
      operated_leaves operator.Mod part = one_row row.Rem part
      operated_leaves operator.And part = one_row row.And part
      operated_leaves operator.Or part = one_row row.Or part
      operated_leaves operator.Xor part = one_row row.Xor part
      operated_leaves operator.Shl part = one_row row.Sll part
      operated_leaves operator.Shr part = one_row row.Srl part
      operated_leaves operator.Sar part = one_row row.Sra part
      operated_leaves (operator.Cmp f) part = compared_leaves row.Slt f part
      operated_leaves (operator.CmpU f) part = compared_leaves row.Sltu f part

    -- ---- a register and a constant

    module _ (k w : ℕ) where
      -- a row with an immediate
      immediate_code : (r : AluOp) (i : AluImmOp) → IsImmediateRow r i → is_immediate_12 w ≡ true →
          IsInstructionAt s u.place (OpImm i (register_number to) (register_number a) (w % 4096)) → Leaves s u 1 (suc t) (alu r (slice_index u.registers (suc ra)) w)
      immediate_code r i is h c =
          constant_leaves (OpImm i (suc t) (suc ra) (w % 4096)) r ra w (immediate_small w h) (immediate_sets s u t ra w r i is h)
          (subst (λ z. IsInstructionAt s u.place (OpImm i z (suc ra) (w % 4096))) t_is
          (subst (λ z. IsInstructionAt s u.place (OpImm i (register_number to) z (w % 4096))) a_is c))

      immediate_row : (r : AluOp) (i : AluImmOp) → IsImmediateRow r i → is_immediate_12 w ≡ true →
          PartStands s n u.place (u.place + k) (with_immediate i to a w ∷ []) → Leaves s u k (suc t) (alu r (slice_index u.registers (suc ra)) w)
      immediate_row r i is h part = one_part k (alu r wx w) (OpImm i (register_number to) (register_number a) (w % 4096)) part (immediate_code r i is h)

      shift_row : (r : AluOp) (i : ShiftOp) →
          (((r ≡ row.Sll) × (i ≡ amount.Slli)) ⊎ (((r ≡ row.Srl) × (i ≡ amount.Srli)) ⊎ ((r ≡ row.Sra) × (i ≡ amount.Srai)))) → nat_lt w 64 ≡ true →
          PartStands s n u.place (u.place + k) (shift_piece i to a w ∷ []) → Leaves s u k (suc t) (alu r (slice_index u.registers (suc ra)) w)
      shift_row r i which h part =
          let small = ltb-true w 64 h in
          one_part k (alu r wx w) (Shift i (register_number to) (register_number a) (w % 64)) part
          (λ c. constant_leaves (Shift i (suc t) (suc ra) (w % 64)) r ra w (omega (arith, small)) (shift_sets s u t ra w r i which small)
          (subst (λ z. IsInstructionAt s u.place (Shift i z (suc ra) (w % 64))) t_is
          (subst (λ z. IsInstructionAt s u.place (Shift i (register_number to) z (w % 64))) a_is c)))

      -- the opposite is added
      opposite_by : (x y i : ℕ) → x < 2 ^ 64 → w < 2 ^ 64 → (w ≤ 2048) ⊎ (0xFFFFFFFFFFFFF800 < w) → y ≡ (4096 - w % 4096) % 4096 →
          ((y < 2048) × (i ≡ y)) ⊎ ((2048 ≤ y) × (i ≡ y + 2 ^ 64 - 2 * 2048)) → (x + i) % 2 ^ 64 ≡ (x + (2 ^ 64 - w)) % 2 ^ 64
      opposite_by x y i fx fw (inl l) e (inl p) = let p0 = p.0 in let p1 = p.1 in omega (arith, l, e, p0, p1, fx)
      opposite_by x y i fx fw (inl l) e (inr p) = let p0 = p.0 in let p1 = p.1 in omega (arith, l, e, p0, p1, fx)
      opposite_by x y i fx fw (inr l) e (inl p) = let p0 = p.0 in let p1 = p.1 in omega (arith, l, e, p0, p1, fx, fw)
      opposite_by x y i fx fw (inr l) e (inr p) = let p0 = p.0 in let p1 = p.1 in omega (arith, l, e, p0, p1, fx, fw)

      opposite_small : is_opposite_immediate_12 w ≡ true → w < 2 ^ 64
      opposite_small h =
          ⊎_elim (λ l. let g = leb-true w 2048 l in omega (arith, g))
          (λ l. ltb-true w 0x10000000000000000 (and_parts (nat_lt 0xFFFFFFFFFFFFF800 w) (nat_lt w 0x10000000000000000) l).1)
          (or_cases (nat_le w 2048) (nat_lt 0xFFFFFFFFFFFFF800 w && nat_lt w 0x10000000000000000) h)

      opposite_is : (x : ℕ) → x < 2 ^ 64 → is_opposite_immediate_12 w ≡ true → add_word x (imm_i ((4096 - w % 4096) % 4096)) ≡ sub_word x w
      unfolding add_word sub_word
      opposite_is x fx h =
          let y : ℕ = (4096 - w % 4096) % 4096 in
          let g = or_cases (nat_le w 2048) (nat_lt 0xFFFFFFFFFFFFF800 w && nat_lt w 0x10000000000000000) h in
          opposite_by x y (imm_i y) fx (opposite_small h)
          (⊎_elim (λ l. inl (leb-true w 2048 l))
          (λ l. inr (ltb-true 0xFFFFFFFFFFFFF800 w (and_parts (nat_lt 0xFFFFFFFFFFFFF800 w) (nat_lt w 0x10000000000000000) l).0)) g)
          refl (by_12 y (omega arith))

      opposite_row : is_opposite_immediate_12 w ≡ true → PartStands s n u.place (u.place + k) (addi to a (4096 - w % 4096) ∷ []) →
          Leaves s u k (suc t) (sub_word (slice_index u.registers (suc ra)) w)
      opposite_row h part =
          one_part k (sub_word wx w) (OpImm imm.Addi (register_number to) (register_number a) ((4096 - w % 4096) % 4096)) part
          (λ c. set_changes s u (OpImm imm.Addi (suc t) (suc ra) ((4096 - w % 4096) % 4096)) t (sub_word wx w)
          (subst (λ z. IsInstructionAt s u.place (OpImm imm.Addi z (suc ra) ((4096 - w % 4096) % 4096))) t_is
          (subst (λ z. IsInstructionAt s u.place (OpImm imm.Addi (register_number to) z ((4096 - w % 4096) % 4096))) a_is c))
          (inl no_sp)
          (sets_as s u (OpImm imm.Addi (suc t) (suc ra) ((4096 - w % 4096) % 4096)) (suc t) _ (sub_word wx w) (opposite_is wx (are.words (suc ra)) h)
          (sets_imm s u imm.Addi (suc t) (suc ra) ((4096 - w % 4096) % 4096)))
          are fits (sub_word-below wx w))

-- so many words leave this in the register, and t2 may change too
abbrev pub LeavesFar : Fixed → View → ℕ → ℕ → ℕ → Type 0
LeavesFar s u k t x = Changes s u k (t ∷ 7 ∷ []) u.memory (λ w. slice_index w.registers t ≡ x)

module _ (s : Fixed) (n : NameAddresses) (u : View) (are : AreRegisters u.registers) (to : Register) (t : ℕ) (t_is : register_number to ≡ suc t) (fits : suc t < 32)
    (no_sp : suc t ≢ 2) (a : Register) (ra : ℕ) (a_is : register_number a ≡ suc ra) (kept : suc ra ≢ 7) (k w : ℕ) where
  wider : (x : ℕ) → Leaves s u k (suc t) x → LeavesFar s u k (suc t) x
  wider x c = widened s u k (suc t ∷ []) (suc t ∷ 7 ∷ []) u.memory _ _ (λ q i. ⊎_elim (λ e. inl e) (λ f. absurd f) i) (λ v p h. h) c

  far_leaves : (r : AluOp) (f : CmpOp) → w < 2 ^ 64 → PartStands s n u.place (u.place + k) (constant_pieces T2 w ++ compared r f to a T2) →
      LeavesFar s u k (suc t) (compared_word (alu r) f (slice_index u.registers (suc ra)) w)
  far_leaves r f small part =
      let g = counts s n u.place k (constant_pieces T2 w) (compared r f to a T2) part in
      let wx : ℕ = slice_index u.registers (suc ra) in
      subst (λ z. LeavesFar s u z (suc t) (compared_word (alu r) f (slice_index u.registers (suc ra)) w)) (sym g.sum)
      (then_changes s u g.own g.others (suc t ∷ 7 ∷ []) u.memory u.memory
      (λ v. (slice_index v.registers 7 ≡ w) × (slice_index v.registers (suc ra) ≡ slice_index u.registers (suc ra))) _
      (widened s u g.own (7 ∷ []) (suc t ∷ 7 ∷ []) u.memory
      (λ v. (slice_index v.registers 7 ≡ w) × (slice_index v.registers (suc ra) ≡ slice_index u.registers (suc ra))) _ (λ q i. inr i) (λ v p h. h)
      (widened s u g.own (7 ∷ []) (7 ∷ []) u.memory (λ v. slice_index v.registers 7 ≡ w) _ (λ q i. i)
      (λ v p h. (h, p.others (suc ra) (λ i. ⊎_elim (λ e. kept e) (λ f. f) i)))
      (constant_comes s n T2 6 refl (omega arith) (λ e. omega (arith, e)) w small u g.own g.first are)))
      (λ v past h.
      let part' : PartStands s n v.place (v.place + g.others) (compared r f to a T2) =
      subst (λ z. PartStands s n z (z + g.others) (compared r f to a T2)) (sym past.place) g.second in
      subst (λ m. Changes s v g.others (suc t ∷ 7 ∷ []) m (λ y. slice_index y.registers (suc t) ≡ compared_word (alu r) f
      (slice_index u.registers (suc ra)) w)) past.memory
      (widened s v g.others (suc t ∷ []) (suc t ∷ 7 ∷ []) v.memory
      (λ y. slice_index y.registers (suc t) ≡ compared_word (alu r) f (slice_index v.registers (suc ra)) (slice_index v.registers 7)) _
      (λ q i. ⊎_elim (λ e. inl e) (λ f. absurd f) i)
      (λ y p e. e ∙ ap₂ (compared_word (alu r) f) h.1 h.0)
      (compared_leaves s n v past.are to t t_is fits no_sp a ra a_is g.others T2 6 refl r f part'))))

  compared_with_leaves : (r : AluOp) (i : AluImmOp) → IsImmediateRow r i → (f : CmpOp) → is_immediate_12 w ≡ true →
      PartStands s n u.place (u.place + k) (compared_with i r f to a w) →
      LeavesFar s u k (suc t) (compared_word (alu r) f (slice_index u.registers (suc ra)) w)
  compared_with_leaves r i is compare.Eq h part =
      let wx : ℕ = slice_index u.registers (suc ra) in
      wider (compared_word (alu r) compare.Eq wx w)
      (two_part s n u are to t t_is fits no_sp k (compared_word (alu r) compare.Eq wx w) (OpImm imm.Xori (register_number to) (register_number a) (w % 4096))
      (OpImm imm.Sltiu (register_number to) (register_number to) 1) part
      (λ c d. then_none s n u are to t t_is fits no_sp (alu row.Xor wx w) (alu-below row.Xor wx w (are.words (suc ra)) (immediate_small w h))
      (immediate_code s n u are to t t_is fits no_sp a ra a_is k w row.Xor imm.Xori xor_bits h c) d))
  compared_with_leaves r i is compare.Ne h part =
      let wx : ℕ = slice_index u.registers (suc ra) in
      wider (compared_word (alu r) compare.Ne wx w)
      (two_part s n u are to t t_is fits no_sp k (compared_word (alu r) compare.Ne wx w) (OpImm imm.Xori (register_number to) (register_number a) (w % 4096))
      (Op row.Sltu (register_number to) 0 (register_number to)) part
      (λ c d. then_some s n u are to t t_is fits no_sp (alu row.Xor wx w)
      (immediate_code s n u are to t t_is fits no_sp a ra a_is k w row.Xor imm.Xori xor_bits h c) d))
  compared_with_leaves r i is compare.Lt h part =
      wider (compared_word (alu r) compare.Lt (slice_index u.registers (suc ra)) w)
      (immediate_row s n u are to t t_is fits no_sp a ra a_is k w r i is h part)
  compared_with_leaves r i is compare.Ge h part =
      let wx : ℕ = slice_index u.registers (suc ra) in
      wider (compared_word (alu r) compare.Ge wx w)
      (two_part s n u are to t t_is fits no_sp k (compared_word (alu r) compare.Ge wx w) (OpImm i (register_number to) (register_number a) (w % 4096))
      (OpImm imm.Xori (register_number to) (register_number to) 1) part
      (λ c d. then_opposed s n u are to t t_is fits no_sp (alu r wx w) (alu-below r wx w (are.words (suc ra)) (immediate_small w h))
      (immediate_code s n u are to t t_is fits no_sp a ra a_is k w r i is h c) d))
  compared_with_leaves r i is compare.Gt h part = far_leaves r compare.Gt (immediate_small w h) part
  compared_with_leaves r i is compare.Le h part = far_leaves r compare.Le (immediate_small w h) part

  -- A register and a constant for which the machine has an immediate.
  pub operated_with_leaves : (f : IntOp) → is_immediate f w ≡ true → PartStands s n u.place (u.place + k) (operated_with f to a w) →
      LeavesFar s u k (suc t) (result_word f (slice_index u.registers (suc ra)) w)
  operated_with_leaves operator.Add h part =
      wider _ (immediate_row s n u are to t t_is fits no_sp a ra a_is k w row.Add imm.Addi adds h part)
  operated_with_leaves operator.AddV h part =
      wider _ (immediate_row s n u are to t t_is fits no_sp a ra a_is k w row.Add imm.Addi adds h part)
  operated_with_leaves operator.AddA h part =
      wider _ (immediate_row s n u are to t t_is fits no_sp a ra a_is k w row.Add imm.Addi adds h part)
  operated_with_leaves operator.Sub h part = wider _ (opposite_row s n u are to t t_is fits no_sp a ra a_is k w h part)
  operated_with_leaves operator.And h part =
      wider _ (immediate_row s n u are to t t_is fits no_sp a ra a_is k w row.And imm.Andi and_bits h part)
  operated_with_leaves operator.Or h part = wider _ (immediate_row s n u are to t t_is fits no_sp a ra a_is k w row.Or imm.Ori or_bits h part)
  operated_with_leaves operator.Xor h part =
      wider _ (immediate_row s n u are to t t_is fits no_sp a ra a_is k w row.Xor imm.Xori xor_bits h part)
  operated_with_leaves operator.Shl h part =
      wider _ (shift_row s n u are to t t_is fits no_sp a ra a_is k w row.Sll amount.Slli (inl (refl, refl)) h part)
  operated_with_leaves operator.Shr h part =
      wider _ (shift_row s n u are to t t_is fits no_sp a ra a_is k w row.Srl amount.Srli (inr (inl (refl, refl))) h part)
  operated_with_leaves operator.Sar h part =
      wider _ (shift_row s n u are to t t_is fits no_sp a ra a_is k w row.Sra amount.Srai (inr (inr (refl, refl))) h part)
  operated_with_leaves (operator.Cmp f) h part = compared_with_leaves row.Slt imm.Slti less f h part
  operated_with_leaves (operator.CmpU f) h part = compared_with_leaves row.Sltu imm.Sltiu less_unsigned f h part
  operated_with_leaves operator.Mul h part = absurd (cc)
  operated_with_leaves operator.Mulh h part = absurd (cc)
  operated_with_leaves operator.Div h part = absurd (cc)
  operated_with_leaves operator.Mod h part = absurd (cc)
