-- Jumps and branches come to their labels, in every form that reaches.
use Rattle.std.proofs.Common.{◌≡◌, ℕ, ◌+◌, ◌-◌, ◌*◌, ◌^◌, ◌<◌, ◌≤◌, ◌⊎◌, inl, inr, Bool, true, false, cond, not, ◌==◌, nat_le, nat_lt, [], ◌∷◌, length, refl, ap, arith, ◌∙◌, subst, ⊎_elim, sym}
use Rattle.std.proofs.lemmas.Bool.{and_from, and_parts, le-leb, leb-true, lt-ltb, ltb-true}
use Rattle.std.proofs.lemmas.Option.{slice_get_within}
use Rattle.std.proofs.Math.Bool.{not-not}
use Rattle.bs_words.specs.Word.{add_word}
use Rattle.bs_words.proofs.Below.{add_word-below}
use Rattle.rv_layout_rules.specs.Forms.{branch_form, branch_reaches, branch_words, jal_reaches, jump_form, form_rank}
use Rattle.rv_layout_rules.specs.Laid.{address_of_place}
use Rattle.rv_layout_rules.specs.Words.{branch_code, branch_offset, distance, far_jump, inverted, jal_offset, jump_code, upper}
use Rattle.rv_emit_rules.specs.Instructions.{low_12}
use Rattle.rv_layout_rules.specs.declared.form.Form.{Form}
use Rattle.rv_layout_rules.specs.declared.form.Form.TheVariants.{Near, Middle, Far}
use Rattle.rv_layout_rules.proofs.Offsets.{branch_lands, by_13, far_lands, jal_lands}
use Rattle.rv_isa.specs.Registers.{register_number}
use Rattle.rv_isa.specs.declared.instr.Condition.{Condition}
use Rattle.rv_isa.specs.declared.instr.Condition.TheVariants as condition
use Rattle.rv_isa.specs.Encoding.{encoded}
use Rattle.rv_isa.specs.declared.instr.Instr.{Instr}
use Rattle.rv_isa.specs.declared.instr.Instr.TheVariants.{Auipc, Branch, Jal, Jalr}
use Rattle.rv_isa.specs.declared.register.Register.{Register}
use Rattle.rv_machine.specs.Arithmetic.{imm_b, imm_i, imm_u, is_less, is_taken}
use Rattle.rv_machine.specs.Memory.{code_start}
use Rattle.rv_machine.specs.Sound.{AreRegisters}
use Rattle.lin_machine.specs.Straight.{Differs}
use Rattle.lin_machine.specs.View.{Fixed, View, HasCode, IsInstructionAt, ReachesView}
use Rattle.lin_machine.proofs.Formats.{goes_branch_on, goes_branch_taken, goes_jal, sets_auipc, sets_jalr}
use Rattle.lin_machine.proofs.Sequences.{code_past, set_changes}
use Rattle.lin_machine.proofs.Steps.{at_place, go_step, reg, set_to_step, then_leads}

-- so many instructions lead to a place, where t1 and t2 alone may have changed
pub record Goes (s : Fixed) (u : View) (k to : ℕ) : Type 0 where
  pub view : View
  pub leads : ReachesView s k u view
  pub place : view.place ≡ to
  pub differs : Differs (6 ∷ 7 ∷ []) u.memory u view

-- the words of a place of the code lie below 2^28
abbrev pub IsPlace : ℕ → Type 0
IsPlace p = p ≤ 2 ^ 26

goes_at : (s : Fixed) (u : View) → AreRegisters u.registers → (k to : ℕ) → ReachesView s k u (at_place to u) → Goes s u k to
goes_at s u are k to leads = record {
  view = at_place to u;
  leads = leads;
  place = refl;
  differs = record { are = are; others = λ q n. refl; memory = refl; blocks = refl };
}

-- one after an instruction that only goes to a place
goes_then : (s : Fixed) (u : View) (p k to : ℕ) → ReachesView s 1 u (at_place p u) → Goes s (at_place p u) k to → Goes s u (1 + k) to
goes_then s u p k to first g = record {
  view = g.view;
  leads = then_leads s 1 k u (at_place p u) g.view first g.leads;
  place = g.place;
  differs = record { are = g.differs.are; others = g.differs.others; memory = g.differs.memory; blocks = g.differs.blocks };
}

module _ (s : Fixed) (u : View) (are : AreRegisters u.registers) (to : ℕ) (near_u : u.place < 2 ^ 26) (near_to : IsPlace to) where
  -- ---- jumps

  near_jump : jal_reaches u.place to ≡ true → IsInstructionAt s u.place (Jal 0 (jal_offset (address_of_place u.place) (address_of_place to))) → Goes s u 1 to
  near_jump h code =
      let p = and_parts (nat_lt to (u.place + 262144)) (nat_le u.place (to + 262144)) h in
      let below = ltb-true to (u.place + 262144) p.0 in
      let above = leb-true u.place (to + 262144) p.1 in
      let lands = jal_lands (address_of_place u.place) (address_of_place to) (omega (arith, near_u)) (omega (arith, near_to)) (omega (arith, below))
      (omega (arith, above)) in
      goes_at s u are 1 to (go_step s u (Jal 0 (jal_offset (address_of_place u.place) (address_of_place to))) to code
      (goes_jal s u (jal_offset (address_of_place u.place) (address_of_place to)) to lands))

  pub far_goes : HasCode s u.place (far_jump 0 6 (address_of_place u.place) (address_of_place to)) → Goes s u 2 to
  far_goes code =
      let d : ℕ = distance (address_of_place u.place) (address_of_place to) in
      let high : ℕ = upper d in
      let low : ℕ = low_12 d in
      let x : ℕ = add_word (code_start + 4 * u.place) (imm_u high) in
      let first = set_changes s u (Auipc 6 high) 5 x code.0 (inl (λ q. omega (arith, q))) (sets_auipc s u 6 high) are (omega arith)
      (add_word-below (code_start + 4 * u.place) (imm_u high)) in
      let w = first.view in
      let e = first.holds in
      let target : add_word (reg w.registers 6) (imm_i low) ≡ code_start + 4 * to =
      ap (λ z. add_word z (imm_i low)) e ∙ far_lands (address_of_place u.place) (address_of_place to) (omega (arith, near_u)) (omega (arith, near_to)) in
      record {
        view = at_place to w;
        leads = then_leads s 1 1 u w (at_place to w) first.leads
            (set_to_step s w (Jalr 0 6 low) 0 (code_start + 4 * (w.place + 1)) to (code_past s 1 (6 ∷ []) u.memory u w (Jalr 0 6 low) first.past code.1.0)
            (inl (λ q. omega (arith, q))) (sets_jalr s w 0 6 low to target));
        place = refl;
        differs = record {
          are = first.past.are;
          others = λ q n. first.past.others q (λ i. n (⊎_elim (λ f. inl f) (λ f. absurd f) i));
          memory = first.past.memory;
          blocks = first.past.blocks;
        };
      }

-- a jump is one word or two
pub record Jumped (s : Fixed) (u : View) (k to : ℕ) : Type 0 where
  pub count : ℕ
  pub some : 1 ≤ count
  pub few : count ≤ k
  pub goes : Goes s u count to

jump_test : (t : Bool) → form_rank (cond t Near Far) ≤ 0 → t ≡ true
jump_test true l = refl
jump_test false l = absurd (omega (arith, l))

pub jump_goes : (s : Fixed) (u : View) → AreRegisters u.registers → (to : ℕ) → u.place < 2 ^ 26 → IsPlace to → (f : Form) →
    form_rank (jump_form u.place to) ≤ form_rank f →
    HasCode s u.place (jump_code f (address_of_place u.place) (address_of_place to)) → (k : ℕ) → k ≡ length (jump_code f 0 0) → Jumped s u k to
jump_goes s u are to near_u near_to Near reach code k e = record {
  count = 1;
  some = omega arith;
  few = omega (arith, e);
  goes = near_jump s u are to near_u near_to (jump_test (jal_reaches u.place to) reach) code.0;
}
jump_goes s u are to near_u near_to Middle reach code k e =
    record { count = 2; some = omega arith; few = omega (arith, e); goes = far_goes s u are to near_u near_to code }
jump_goes s u are to near_u near_to Far reach code k e =
    record { count = 2; some = omega arith; few = omega (arith, e); goes = far_goes s u are to near_u near_to code }

-- ---- branches

inverted_is : (c : Condition) (x y : ℕ) (b : Bool) → is_taken c x y ≡ b → is_taken (inverted c) x y ≡ not b
inverted_is condition.Beq x y b e = ap not e
inverted_is condition.Bne x y b e = sym (not-not (x == y)) ∙ ap not e
inverted_is condition.Blt x y b e = ap not e
inverted_is condition.Bge x y b e = sym (not-not (is_less x y)) ∙ ap not e
inverted_is condition.Bltu x y b e = ap not e
inverted_is condition.Bgeu x y b e = sym (not-not (nat_lt x y)) ∙ ap not e

-- the offset of a branch over a few words
skip_by : (from bytes x to : ℕ) → bytes < 4096 → from + bytes ≡ to → to < 2 ^ 32 →
    ((bytes < 4096) × (x ≡ bytes)) ⊎ ((4096 ≤ bytes) × (x ≡ bytes + 2 ^ 64 - 2 * 4096)) → add_word from x ≡ to
unfolding add_word
skip_by from bytes x to small e high (inl p) = let q = p.1 in omega (arith, q, e, high)
skip_by from bytes x to small e high (inr p) = let q = p.0 in absurd (omega (arith, q, small))

pub skips : (from bytes to : ℕ) → bytes < 4096 → from + bytes ≡ to → to < 2 ^ 32 → add_word from (imm_b bytes) ≡ to
skips from bytes to small e high = skip_by from bytes (imm_b bytes) to small e high (by_13 bytes (omega (arith, small)))

near_test : (t r : Bool) → form_rank (cond t Near (cond r Middle Far)) ≤ 0 → t ≡ true
near_test true r l = refl
near_test false true l = absurd (omega (arith, l))
near_test false false l = absurd (omega (arith, l))

middle_test : (t r : Bool) → form_rank (cond t Near (cond r Middle Far)) ≤ 1 → (t ≡ true) ⊎ (r ≡ true)
middle_test true r l = inl refl
middle_test false true l = inr refl
middle_test false false l = absurd (omega (arith, l))

module _ (s : Fixed) (u : View) (are : AreRegisters u.registers) (to : ℕ) (near_u : u.place + 4 < 2 ^ 26) (near_to : IsPlace to) (c : Condition)
    (a b : Register) where
  abbrev Taken : Bool → Type 0
  Taken t = is_taken c (reg u.registers (register_number a)) (reg u.registers (register_number b)) ≡ t

  -- the inverted branch goes on with the jump
  goes_on : (offset : ℕ) → Taken true → IsInstructionAt s u.place (Branch (inverted c) (register_number a) (register_number b) offset) → ReachesView s 1 u (at_place (u.place + 1) u)
  goes_on offset h code =
      go_step s u (Branch (inverted c) (register_number a) (register_number b) offset) (u.place + 1) code
      (goes_branch_on s u (inverted c) (register_number a) (register_number b) offset (inverted_is c (reg u.registers (register_number a)) (reg u.registers (register_number b)) true h))

  -- or over it
  goes_over : (words : ℕ) → words ≤ 3 → Taken false → IsInstructionAt s u.place (Branch (inverted c) (register_number a) (register_number b) (4 * words)) →
      Goes s u 1 (u.place + words)
  goes_over words few h code =
      goes_at s u are 1 (u.place + words)
      (go_step s u (Branch (inverted c) (register_number a) (register_number b) (4 * words)) (u.place + words) code
      (goes_branch_taken s u (inverted c) (register_number a) (register_number b) (4 * words) (u.place + words)
      (inverted_is c (reg u.registers (register_number a)) (reg u.registers (register_number b)) false h)
      (skips (code_start + 4 * u.place) (4 * words) (code_start + 4 * (u.place + words)) (omega (arith, few)) (omega arith) (omega (arith, near_u, few)))))

  next_address : address_of_place u.place + 4 ≡ address_of_place (u.place + 1)
  next_address = omega arith

  near_branch : branch_reaches u.place to ≡ true → (t : Bool) → Taken t →
      IsInstructionAt s u.place (Branch c (register_number a) (register_number b) (branch_offset (address_of_place u.place) (address_of_place to))) →
      Goes s u 1 (cond t to (u.place + 1))
  near_branch h true e code =
      let p = and_parts (nat_lt to (u.place + 1024)) (nat_le u.place (to + 1024)) h in
      let below = ltb-true to (u.place + 1024) p.0 in
      let above = leb-true u.place (to + 1024) p.1 in
      let offset : ℕ = branch_offset (address_of_place u.place) (address_of_place to) in
      goes_at s u are 1 to (go_step s u (Branch c (register_number a) (register_number b) offset) to code
      (goes_branch_taken s u c (register_number a) (register_number b) offset to e
      (branch_lands (address_of_place u.place) (address_of_place to) (omega (arith, near_u)) (omega (arith, near_to)) (omega (arith, below))
      (omega (arith, above)))))
  near_branch h false e code =
      let offset : ℕ = branch_offset (address_of_place u.place) (address_of_place to) in
      goes_at s u are 1 (u.place + 1) (go_step s u (Branch c (register_number a) (register_number b) offset) (u.place + 1) code
      (goes_branch_on s u c (register_number a) (register_number b) offset e))

  jal_after : form_rank (branch_form u.place to) ≤ 1 → jal_reaches (u.place + 1) to ≡ true
  jal_after l =
      ⊎_elim
      (λ h.
      let p = and_parts (nat_lt to (u.place + 1024)) (nat_le u.place (to + 1024)) h in
      let below = ltb-true to (u.place + 1024) p.0 in
      let above = leb-true u.place (to + 1024) p.1 in
      and_from (nat_lt to (u.place + 1 + 262144)) (nat_le (u.place + 1) (to + 262144)) (lt-ltb to (u.place + 1 + 262144) (omega (arith, below)))
      (le-leb (u.place + 1) (to + 262144) (omega (arith, above))))
      (λ h. h)
      (middle_test (branch_reaches u.place to) (jal_reaches (u.place + 1) to) l)

  -- a branch is one word to three
  pub record Branched (t : Bool) (k there : ℕ) : Type 0 where
    pub count : ℕ
    pub some : 1 ≤ count
    pub few : count ≤ k
    pub goes : Goes s u count there
    -- t1 is lost on the way to a label alone
    pub same : t ≡ false → goes.view.registers ≡ u.registers

  -- To the label where the condition holds, else after the branch.
  pub branch_goes : (t : Bool) → is_taken c (reg u.registers (register_number a)) (reg u.registers (register_number b)) ≡ t → (f : Form) →
      form_rank (branch_form u.place to) ≤ form_rank f → HasCode s u.place (branch_code f c a b (address_of_place u.place) (address_of_place to)) →
      Branched t (branch_words f) (cond t to (u.place + branch_words f))
  unfolding near_branch goes_at goes_over
  branch_goes true e Near reach code = record {
    count = 1;
    some = omega arith;
    few = omega arith;
    goes = near_branch (near_test (branch_reaches u.place to) (jal_reaches (u.place + 1) to) reach) true e code.0;
    same = λ q. absurd (cc);
  }
  branch_goes false e Near reach code = record {
    count = 1;
    some = omega arith;
    few = omega arith;
    goes = near_branch (near_test (branch_reaches u.place to) (jal_reaches (u.place + 1) to) reach) false e code.0;
    same = λ q. refl;
  }
  branch_goes true e Middle reach code =
      let next : IsInstructionAt s (u.place + 1) (Jal 0 (jal_offset (address_of_place (u.place + 1)) (address_of_place to))) =
      subst (λ z. IsInstructionAt s (u.place + 1) (Jal 0 (jal_offset z (address_of_place to)))) next_address code.1.0 in
      record {
        count = 2;
        some = omega arith;
        few = omega arith;
        goes = goes_then s u (u.place + 1) 1 to (goes_on 8 e code.0)
            (near_jump s (at_place (u.place + 1) u) are to (omega (arith, near_u)) near_to (jal_after reach) next);
        same = λ q. absurd (cc);
      }
  branch_goes false e Middle reach code = record {
    count = 1;
    some = omega arith;
    few = omega arith;
    goes = goes_over 2 (omega arith) e code.0;
    same = λ q. refl;
  }
  branch_goes true e Far reach code =
      let next : HasCode s (u.place + 1) (far_jump 0 6 (address_of_place (u.place + 1)) (address_of_place to)) =
      subst (λ z. HasCode s (u.place + 1) (far_jump 0 6 z (address_of_place to))) next_address code.1 in
      record {
        count = 3;
        some = omega arith;
        few = omega arith;
        goes = goes_then s u (u.place + 1) 2 to (goes_on 12 e code.0)
            (far_goes s (at_place (u.place + 1) u) are to (omega (arith, near_u)) near_to next);
        same = λ q. absurd (cc);
      }
  branch_goes false e Far reach code = record {
    count = 1;
    some = omega arith;
    few = omega arith;
    goes = goes_over 3 (omega arith) e code.0;
    same = λ q. refl;
  }

-- ---- code lies in the image

pub code_near : (s : Fixed) (p : ℕ) (i : Instr) → IsInstructionAt s p i → p + 16384 < 2 ^ 26
code_near s p i code =
    let l = slice_get_within s.image.code p (encoded i) code.there in
    let short = s.functions.tables.code.short in
    omega (arith, l, short)
