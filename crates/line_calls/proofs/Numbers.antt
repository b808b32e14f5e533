-- Constants and sums, in one instruction or through a scratch register.
use Rattle.std.proofs.Common.{◌≡◌, ◌≢◌, ℕ, suc, ◌+◌, ◌-◌, ◌%◌, ◌^◌, ◌<◌, ◌≤◌, inl, inr, Bool, true, false, cond, nat_le, nat_lt, [], ◌∷◌, ◌++◌, slice_index, refl, ap₂, arith, ◌∙◌, sym, subst, ⊎_elim}
use Rattle.std.proofs.lemmas.Bool.{leb-true, ltb-true}
use Rattle.bs_words.specs.Word.{add_word, sub_word}
use Rattle.rv_emit_rules.specs.Constants.{constant_pieces, bytes_taken_off, sum_to}
use Rattle.rv_emit_rules.specs.Instructions.{add, alu_operation, with_immediate}
use Rattle.rv_layout_rules.specs.Words.{NameAddresses}
use Rattle.rv_isa.specs.Registers.{register_number}
use Rattle.rv_isa.specs.declared.instr.AluImmOp.TheVariants.{Addi}
use Rattle.rv_isa.specs.declared.instr.AluOp.TheVariants.{Add, Sub}
use Rattle.rv_isa.specs.declared.instr.Instr.{Instr}
use Rattle.rv_isa.specs.declared.instr.Instr.TheVariants.{Op, OpImm}
use Rattle.rv_isa.specs.declared.register.Register.{Register}
use Rattle.rv_machine.specs.Sound.{AreRegisters}
use Rattle.lin_machine.specs.View.{Fixed, View, IsInstructionAt}
use Rattle.lin_machine.proofs.Formats.{sets_imm, sets_op}
use Rattle.lin_machine.proofs.Jumps.{add_near, less_near}
use Rattle.machine_laws.proofs.Immediates.{up}
use Rattle.lin_machine.proofs.Sequences.{sets_as}
use Rattle.lin_machine.proofs.Steps.{Passes, SetsRegister}
use Rattle.rv_layout_rules.specs.Forms.{total_words}
use Rattle.line_stands.specs.Parts.{PartStands}
use Rattle.line_values.proofs.Chains.{constant_comes}
use Rattle.line_stands.proofs.Parts.{splits}
use Rattle.line_calls.specs.Reaches.{Reaches}
use Rattle.line_calls.proofs.Reaching.{arrived, reaches_as, reaches_more, reaches_none, reaches_set, single}

less_far : (a k : ℕ) → k ≤ a → a < 2 ^ 64 → sub_word a k ≡ a - k
unfolding sub_word
less_far a k l w = omega (arith, l, w)

module _ (s : Fixed) (n : NameAddresses) where
  -- a constant comes into a register
  pub constant_reaches : (r : Register) (k : ℕ) → register_number r ≡ suc k → suc k < 32 → suc k ≢ 2 → (v : View) (to w : ℕ) → w < 2 ^ 64 →
      PartStands s n v.place to (constant_pieces r w) → AreRegisters v.registers →
      Reaches s v to (suc k ∷ []) v.memory (λ u. slice_index u.registers (suc k) ≡ w)
  constant_reaches r k is fits other v to w small st are =
      let e = st.past in
      let count : ℕ = total_words (constant_pieces r w) st.forms in
      record {
        count = total_words (constant_pieces r w) st.forms;
        lands = sym e;
        changes = constant_comes s n r k is fits other w small v count (subst (λ z. PartStands s n v.place z (constant_pieces r w)) e st) are;
      }

  -- ---- sums

  -- what is added to a register, through a scratch register where it is large
  module _ (x t f : Register) (kx kt kf : ℕ) (x_is : register_number x ≡ suc kx) (t_is : register_number t ≡ suc kt) (f_is : register_number f ≡ suc kf) (x_fits : suc kx < 32)
      (t_fits : suc kt < 32) (x_other : suc kx ≢ 2) (apart : suc kf ≢ suc kx) where
    sum_by :
        (v : View) (to k : ℕ) (b : Bool) → nat_lt k 2048 ≡ b → PartStands s n v.place to (cond b (with_immediate Addi t f k ∷ [])
        (constant_pieces x k ++ add t f x ∷ [])) →
        AreRegisters v.registers → slice_index v.registers (suc kf) + k < 2 ^ 64 → Passes s (suc kt) (slice_index v.registers (suc kf) + k) →
        Reaches s v to (suc kt ∷ suc kx ∷ []) v.memory (λ w. slice_index w.registers (suc kt) ≡ slice_index v.registers (suc kf) + k)
    sum_by v to k true e st are fits passes =
        let c = single s n v.place to (OpImm Addi (register_number t) (register_number f) (k % 4096)) st in
        let near = ltb-true k 2048 e in
        let there : IsInstructionAt s v.place (OpImm Addi (suc kt) (suc kf) (k % 4096)) =
        subst (λ q. IsInstructionAt s v.place (OpImm Addi (suc kt) q (k % 4096))) f_is (subst (λ q. IsInstructionAt s v.place (OpImm Addi q (register_number f) (k % 4096))) t_is c.0) in
        reaches_as s v to (suc kt ∷ []) (suc kt ∷ suc kx ∷ []) v.memory _ _ (λ q i. ⊎_elim (λ h. inl h) (λ h. absurd h) i) (λ w m p h. h)
        (reaches_set s v to (OpImm Addi (suc kt) (suc kf) (k % 4096)) kt (slice_index v.registers (suc kf) + k) there c.1 passes
        (sets_as s v (OpImm Addi (suc kt) (suc kf) (k % 4096)) (suc kt) _ _ (add_near (slice_index v.registers (suc kf)) k _ near refl fits)
        (sets_imm s v Addi (suc kt) (suc kf) (k % 4096))) are t_fits fits)
    sum_by v to k false e st are fits passes =
        let parts = splits s n v.place to (constant_pieces x k) (add t f x ∷ []) st in
        let small : k < 2 ^ 64 = omega (arith, fits) in
        let first : Reaches s v parts.middle (suc kt ∷ suc kx ∷ []) v.memory (λ u. (slice_index u.registers (suc kx) ≡ k)
        × (slice_index u.registers (suc kf) ≡ slice_index v.registers (suc kf))) =
        reaches_as s v parts.middle (suc kx ∷ []) (suc kt ∷ suc kx ∷ []) v.memory _ _ (λ q i. inr i)
        (λ w m p h. (h, p.others (suc kf) (λ i. ⊎_elim apart (λ z. z) i)))
        (constant_reaches x kx x_is x_fits x_other v parts.middle k small parts.first are) in
        let u = first.changes.view in
        let at : u.place ≡ parts.middle = arrived s v parts.middle (suc kt ∷ suc kx ∷ []) v.memory _ first in
        let c = single s n parts.middle to (Op Add (register_number t) (register_number f) (register_number x)) parts.second in
        let c0 : IsInstructionAt s u.place (Op Add (register_number t) (register_number f) (register_number x)) = subst (λ q. IsInstructionAt s q (Op Add (register_number t) (register_number f) (register_number x)))
        (sym at) c.0 in
        let there : IsInstructionAt s u.place (Op Add (suc kt) (suc kf) (suc kx)) =
        subst (λ q. IsInstructionAt s u.place (Op Add (suc kt) (suc kf) q)) x_is (subst (λ q. IsInstructionAt s u.place (Op Add (suc kt) q (register_number x))) f_is
        (subst (λ q. IsInstructionAt s u.place (Op Add q (register_number f) (register_number x))) t_is c0)) in
        let sum : add_word (slice_index u.registers (suc kf)) (slice_index u.registers (suc kx)) ≡ slice_index v.registers (suc kf) + k =
        ap₂ add_word first.changes.holds.1 first.changes.holds.0 ∙ up (slice_index v.registers (suc kf)) k _ refl fits in
        reaches_as s v to (suc kt ∷ suc kx ∷ []) (suc kt ∷ suc kx ∷ []) v.memory _ _ (λ q i. i) (λ w m p h. h.0)
        (reaches_more s v parts.middle to (suc kt ∷ suc kx ∷ []) (suc kt ∷ []) v.memory _ _ first (λ q i. ⊎_elim (λ h. inl h) (λ h. absurd h) i)
        (reaches_set s u to (Op Add (suc kt) (suc kf) (suc kx)) kt (slice_index v.registers (suc kf) + k) there (let l = c.1 in omega (arith, at, l)) passes
        (sets_as s u (Op Add (suc kt) (suc kf) (suc kx)) (suc kt) _ _ sum (sets_op s u Add (suc kt) (suc kf) (suc kx))) first.changes.past.are t_fits fits))

    pub sum_reaches :
        (v : View) (to k : ℕ) → PartStands s n v.place to (sum_to x t f k) → AreRegisters v.registers → slice_index v.registers (suc kf) + k < 2 ^ 64 →
        Passes s (suc kt) (slice_index v.registers (suc kf) + k) →
        Reaches s v to (suc kt ∷ suc kx ∷ []) v.memory (λ w. slice_index w.registers (suc kt) ≡ slice_index v.registers (suc kf) + k)
    sum_reaches v to k st are fits passes = sum_by v to k (nat_lt k 2048) refl st are fits passes

  -- ---- differences

  -- the last instruction takes what is taken off a register
  pub record Lowers (v : View) (to kx kr value : ℕ) : Type 0 where
    pub middle : ℕ
    pub last : Instr
    pub first : Reaches s v middle (suc kx ∷ []) v.memory (λ u. SetsRegister s u last (suc kr) value)
    pub code : IsInstructionAt s middle last
    pub lands : to ≡ middle + 1

  module _ (x r : Register) (kx kr : ℕ) (x_is : register_number x ≡ suc kx) (r_is : register_number r ≡ suc kr) (x_fits : suc kx < 32) (x_other : suc kx ≢ 2)
      (apart : suc kr ≢ suc kx) where
    lowers_by :
        (v : View) (to k : ℕ) (b : Bool) → nat_le k 2048 ≡ b →
        PartStands s n v.place to (cond b (with_immediate Addi r r (4096 - k % 4096) ∷ []) (constant_pieces x k ++ alu_operation Sub r r x ∷ [])) →
        AreRegisters v.registers → 1 ≤ k → k ≤ slice_index v.registers (suc kr) →
        Lowers v to kx kr (slice_index v.registers (suc kr) - k)
    lowers_by v to k true e st are some low =
        let near = leb-true k 2048 e in
        let word = are.words (suc kr) in
        let c = single s n v.place to (OpImm Addi (register_number r) (register_number r) ((4096 - k % 4096) % 4096)) st in
        let same : (4096 - k % 4096) % 4096 ≡ 4096 - k % 4096 = omega (arith, near, some) in
        let c1 : IsInstructionAt s v.place (OpImm Addi (suc kr) (suc kr) ((4096 - k % 4096) % 4096)) =
        subst (λ q. IsInstructionAt s v.place (OpImm Addi q q ((4096 - k % 4096) % 4096))) r_is c.0 in
        record {
          middle = v.place;
          last = OpImm Addi (suc kr) (suc kr) (4096 - k % 4096);
          first = reaches_none s v v.place (suc kx ∷ [])
              (λ u. SetsRegister s u (OpImm Addi (suc kr) (suc kr) (4096 - k % 4096)) (suc kr) (slice_index v.registers (suc kr) - k)) refl are
              (sets_as s v (OpImm Addi (suc kr) (suc kr) (4096 - k % 4096)) (suc kr) _ _
              (less_near (slice_index v.registers (suc kr)) k some near low word) (sets_imm s v Addi (suc kr) (suc kr) (4096 - k % 4096)));
          code = subst (λ q. IsInstructionAt s v.place (OpImm Addi (suc kr) (suc kr) q)) same c1;
          lands = c.1;
        }
    lowers_by v to k false e st are some low =
        let parts = splits s n v.place to (constant_pieces x k) (alu_operation Sub r r x ∷ []) st in
        let word = are.words (suc kr) in
        let small : k < 2 ^ 64 = omega (arith, low, word) in
        let first : Reaches s v parts.middle (suc kx ∷ []) v.memory (λ u. (slice_index u.registers (suc kx) ≡ k)
        × (slice_index u.registers (suc kr) ≡ slice_index v.registers (suc kr))) =
        reaches_as s v parts.middle (suc kx ∷ []) (suc kx ∷ []) v.memory _ _ (λ q i. i)
        (λ w m p h. (h, p.others (suc kr) (λ i. ⊎_elim apart (λ z. z) i)))
        (constant_reaches x kx x_is x_fits x_other v parts.middle k small parts.first are) in
        let c = single s n parts.middle to (Op Sub (register_number r) (register_number r) (register_number x)) parts.second in
        let c1 : IsInstructionAt s parts.middle (Op Sub (suc kr) (suc kr) (register_number x)) = subst (λ q. IsInstructionAt s parts.middle (Op Sub q q (register_number x))) r_is c.0 in
        record {
          middle = parts.middle;
          last = Op Sub (suc kr) (suc kr) (suc kx);
          first = reaches_as s v parts.middle (suc kx ∷ []) (suc kx ∷ []) v.memory _ _ (λ q i. i)
              (λ u m p h. sets_as s u (Op Sub (suc kr) (suc kr) (suc kx)) (suc kr) _ _
              (ap₂ sub_word h.1 h.0 ∙ less_far (slice_index v.registers (suc kr)) k low word)
              (sets_op s u Sub (suc kr) (suc kr) (suc kx))) first;
          code = subst (λ q. IsInstructionAt s parts.middle (Op Sub (suc kr) (suc kr) q)) x_is c1;
          lands = c.1;
        }

    pub lowers : (v : View) (to k : ℕ) → PartStands s n v.place to (bytes_taken_off x r k) → AreRegisters v.registers → 1 ≤ k → k ≤ slice_index v.registers (suc kr) →
        Lowers v to kx kr (slice_index v.registers (suc kr) - k)
    lowers v to k st are some low = lowers_by v to k (nat_le k 2048) refl st are some low
