-- Addresses with an offset come into a register, and loads follow their lines.
use Rattle.std.proofs.Common.{◌≡◌, ◌≢◌, ℕ, zero, suc, ◌+◌, ◌%◌, ◌^◌, ◌<◌, ◌⊎◌, inl, inr, Bool, true, false, cond, List, [], ◌∷◌, ◌++◌, Some, slice_index, refl, ap, ap₂, arith, ◌∙◌, sym, subst, ⊎_elim}
use Rattle.bs_words.specs.Memory.{Cell, cell_at, part}
use Rattle.bs_words.specs.Word.{add_word}
use Rattle.bs_words.proofs.Below.{add_word-below}
use Rattle.bs_words.specs.declared.values.Value.{Value}
use Rattle.bs_words.specs.declared.values.Value.TheVariants.{Function}
use Rattle.rv_emit_rules.specs.Constants.{constant_pieces}
use Rattle.rv_emit_rules.specs.Instructions.{add}
use Rattle.rv_emit_rules.specs.Memory.{address_offset, address_register, address_words}
use Rattle.rv_layout_rules.specs.Words.{NameAddresses}
use Rattle.lin_ir.specs.Meaning.{Locations}
use Rattle.mach_ir.specs.Acts.{Around, moved_by}
use Rattle.mach_ir.specs.Forms.{is_immediate_12}
use Rattle.moving_laws.specs.Stands.{AmongNumbers}
use Rattle.moving_laws.specs.Values.{value_word}
use Rattle.rv_isa.specs.Registers.{register_number}
use Rattle.rv_isa.specs.declared.instr.AluOp.TheVariants.{Add}
use Rattle.rv_isa.specs.declared.instr.Instr.TheVariants.{Op}
use Rattle.rv_isa.specs.declared.register.Register.{Register}
use Rattle.rv_isa.specs.declared.register.Register.TheVariants.{T1, T2}
use Rattle.rv_machine.specs.Arithmetic.{imm_i}
use Rattle.rv_machine.specs.Hart.{Placed}
use Rattle.lin_machine.specs.Relation.{Below, Laid, StandsFor, Within, blocks_by_serial}
use Rattle.lin_machine.specs.Relation as relation
use Rattle.lin_machine.specs.Straight.{Changes}
use Rattle.lin_machine.specs.View.{Fixed, View, IsInstructionAt}
use Rattle.lin_machine.proofs.Formats.{sets_op}
use Rattle.machine_laws.proofs.Immediates.{low_12, up}
use Rattle.lin_machine.proofs.Loading.{moved_word}
use Rattle.lin_machine.proofs.Rows.{immediate_is}
use Rattle.lin_machine.proofs.Sequences.{no_change, set_then, sets_as, widened}
use Rattle.line_stands.specs.Parts.{PartStands}
use Rattle.line_stands.proofs.Parts.{counts, last, none_left}
use Rattle.line_values.proofs.Chains.{constant_comes}
use Rattle.line_values.proofs.Operations.{no_second}

-- ---- values that are addresses of memory

pub moved_function : (o f : ℕ) → moved_by o (Function f) ≡ Function f
moved_function zero f = refl
moved_function (suc o) f = refl

-- a function is no address of memory, whatever is added
pub no_function : (a : Around) (w offset : ℕ) (x : Value) (cell : Cell) → cell_at a.memory w (moved_by offset x) ≡ Some cell → (f : ℕ) → x ≡ Function f → ⊥
no_function a w offset x cell e f q =
    let g : cell_at a.memory w (Function f) ≡ Some cell = subst (λ y. cell_at a.memory w y ≡ Some cell) (ap (moved_by offset) q ∙ moved_function offset f) e in
    absurd (cc)

-- ---- an address comes into a register

module _ (s : Fixed) (n : NameAddresses) (laid : Laid) (young : List Placed) (held : Locations) (a : Around) (c : Below) (base : Register) (rb : ℕ)
    (base_is : register_number base ≡ suc rb) (which : (suc rb ≡ 6) ⊎ relation.IsLocationRegister (suc rb)) (offset : ℕ) (fits : offset < 2 ^ 64) where
  -- So many words bring the address so far from a value's into a register, as an instruction with an
  -- immediate reads it.
  pub record Addresses (at k : ℕ) : Type 0 where
    pub list : List ℕ
    pub scratch : (q : ℕ) → AmongNumbers q list → (q ≡ 6) ⊎ (q ≡ 7)
    pub r : ℕ
    pub is : register_number (address_register base offset) ≡ suc r
    pub apart : suc r ≢ 7
    pub gets : (x : Value) → ((f : ℕ) → x ≡ Function f → ⊥) → (u : View) → u.place ≡ at → Within s laid u young 0 held a c →
        StandsFor s (blocks_by_serial u young) (slice_index u.registers (suc rb)) x →
        Changes s u k list u.memory (λ w. add_word (slice_index w.registers (suc r)) (imm_i (address_offset offset % 4096))
        ≡ value_word s.image (blocks_by_serial u young) (moved_by offset x))

  addresses_by : (at k : ℕ) (t : Bool) → is_immediate_12 offset ≡ t → PartStands s n at (at + k) (cond t [] (constant_pieces T2 offset ++ add T1 base T2 ∷ [])) →
      Addresses at k
  addresses_by at k true t part =
      let zero = none_left s n at k part in
      let same : address_register base offset ≡ base = ap (λ b. cond b base T1) t in
      let imm : address_offset offset ≡ offset = ap (λ b. cond b offset 0) t in
      record {
        list = [];
        scratch = λ q i. absurd i;
        r = rb;
        is = ap register_number same ∙ base_is;
        apart = no_second (suc rb) which;
        gets = λ x other u p w st.
            subst (λ z. Changes s u z [] u.memory (λ w. add_word (slice_index w.registers (suc rb)) (imm_i (address_offset offset % 4096))
            ≡ value_word s.image (blocks_by_serial u young) (moved_by offset x))) (sym zero)
            (no_change s u [] _ w.own.are
            (ap (λ z. add_word (slice_index u.registers (suc rb)) (imm_i (z % 4096))) imm
            ∙ ap (add_word (slice_index u.registers (suc rb))) (immediate_is offset t)
            ∙ moved_word s (blocks_by_serial u young) offset (slice_index u.registers (suc rb)) x fits (w.own.are.words (suc rb)) other st.is));
      }
  addresses_by at k false t part =
      let g = counts s n at k (constant_pieces T2 offset) (add T1 base T2 ∷ []) part in
      let l = last s n (at + g.own) g.others (Op Add 6 (register_number base) 7) g.second in
      let same : address_register base offset ≡ T1 = ap (λ b. cond b base T1) t in
      let imm : address_offset offset ≡ 0 = ap (λ b. cond b offset 0) t in
      let sum = g.sum in
      let one = l.1 in
      let all : k ≡ g.own + 1 = omega (arith, sum, one) in
      record {
        list = 6 ∷ 7 ∷ [];
        scratch = λ q i. ⊎_elim (λ e. inl e) (λ f. ⊎_elim (λ e. inr e) (λ z. absurd z) f) i;
        r = 5;
        is = ap register_number same ∙ refl;
        apart = λ e. omega (arith, e);
        gets = λ x other u p w st.
            let code : IsInstructionAt s (u.place + g.own) (Op Add 6 (suc rb) 7) =
            subst (λ z. IsInstructionAt s (z + g.own) (Op Add 6 (suc rb) 7)) (sym p) (subst (λ z. IsInstructionAt s (at + g.own) (Op Add 6 z 7)) base_is l.0) in
            let first : PartStands s n u.place (u.place + g.own) (constant_pieces T2 offset) =
            subst (λ z. PartStands s n z (z + g.own) (constant_pieces T2 offset)) (sym p) g.first in
            let value : ℕ = add_word (slice_index u.registers (suc rb)) offset in
            subst (λ z. Changes s u z (6 ∷ 7 ∷ []) u.memory (λ w. add_word (slice_index w.registers 6) (imm_i (address_offset offset % 4096))
            ≡ value_word s.image (blocks_by_serial u young) (moved_by offset x))) (sym all)
            (widened s u (g.own + 1) (6 ∷ 7 ∷ []) (6 ∷ 7 ∷ []) u.memory
            (λ w. slice_index w.registers 6 ≡ add_word (slice_index u.registers (suc rb)) offset) _ (λ q i. i)
            (λ o past e.
            ap (λ z. add_word (slice_index o.registers 6) (imm_i (z % 4096))) imm
            ∙ ap (add_word (slice_index o.registers 6)) (low_12 0 (omega arith))
            ∙ up (slice_index o.registers 6) 0 (slice_index o.registers 6) (omega arith) (past.are.words 6)
            ∙ e
            ∙ moved_word s (blocks_by_serial u young) offset (slice_index u.registers (suc rb)) x fits (w.own.are.words (suc rb)) other st.is)
            (set_then s u g.own (6 ∷ 7 ∷ []) u.memory
            (λ w. (slice_index w.registers 7 ≡ offset) × (slice_index w.registers (suc rb) ≡ slice_index u.registers (suc rb)))
            (Op Add 6 (suc rb) 7) 5 value
            (widened s u g.own (7 ∷ []) (6 ∷ 7 ∷ []) u.memory
            (λ w. (slice_index w.registers 7 ≡ offset) × (slice_index w.registers (suc rb) ≡ slice_index u.registers (suc rb))) _ (λ q i. inr i) (λ w p h. h)
            (widened s u g.own (7 ∷ []) (7 ∷ []) u.memory (λ w. slice_index w.registers 7 ≡ offset) _ (λ q i. i)
            (λ o past h. (h, past.others (suc rb) (λ i. ⊎_elim (λ e. no_second (suc rb) which e) (λ f. f) i)))
            (constant_comes s n T2 6 refl (omega arith) (λ e. omega (arith, e)) offset fits u g.own first w.own.are)))
            (inl refl)
            (λ o past h. sets_as s o (Op Add 6 (suc rb) 7) 6 _ value (ap₂ add_word h.1 h.0) (sets_op s o Add 6 (suc rb) 7))
            code (inl (λ e. omega (arith, e))) (omega arith) (add_word-below (slice_index u.registers (suc rb)) offset)));
      }

  pub addresses : (at k : ℕ) → PartStands s n at (at + k) (address_words base offset) → Addresses at k
  addresses at k part = addresses_by at k (is_immediate_12 offset) refl part
