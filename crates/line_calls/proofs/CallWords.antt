-- The words of a call: by name, and to the address in a register.
use Rattle.std.proofs.Common.{◌≡◌, ℕ, ◌+◌, ◌*◌, ◌^◌, ◌<◌, ◌≤◌, inl, List, [], ◌∷◌, slice_index, slice_set, ap, arith, ◌∙◌, subst, set-set, get_or-set_same}
use Rattle.bs_words.specs.Word.{add_word}
use Rattle.rv_layout_rules.specs.Laid.{address_of_place}
use Rattle.rv_layout_rules.specs.Words.{NameAddresses, call_code, distance, upper}
use Rattle.rv_layout_rules.specs.declared.form.Form.{Form}
use Rattle.rv_layout_rules.specs.declared.form.Form.TheVariants.{Near, Middle, Far}
use Rattle.rv_layout_rules.specs.Forms.{words_of_call}
use Rattle.rv_emit_rules.specs.Instructions.{low_12}
use Rattle.rv_layout_rules.proofs.Offsets.{far_lands, number_lands}
use Rattle.rv_isa.specs.declared.instr.Instr.TheVariants.{Auipc, Jalr, Lui, OpImm}
use Rattle.rv_isa.specs.declared.instr.AluImmOp.TheVariants.{Addi}
use Rattle.rv_machine.specs.Arithmetic.{imm_i, imm_u}
use Rattle.rv_machine.specs.Memory.{code_start}
use Rattle.rv_machine.specs.Sound.{AreRegisters}
use Rattle.rv_pieces.specs.declared.piece.Piece.TheVariants.{Call}
use Rattle.lin_machine.specs.View.{Fixed, HasCode, IsInstructionAt, ReachesView, View}
use Rattle.lin_machine.proofs.Formats.{sets_auipc, sets_imm, sets_jalr, sets_lui}
use Rattle.lin_machine.proofs.Sequences.{sets_as}
use Rattle.lin_machine.proofs.Steps.{reg, set_in, set_step, set_to_step, then_leads}
use Rattle.line_stands.specs.Parts.{PartStands}
use Rattle.line_stands.proofs.Parts.{begins, nothing_more}
use Rattle.line_calls.proofs.Leaving.{no_offset}
use Rattle.line_calls.proofs.Tailing.{place_near}

-- a call to the address in a register
pub call_leads :
    (s : Fixed) (w : View) (r imm dest : ℕ) → IsInstructionAt s w.place (Jalr 1 r imm) → add_word (reg w.registers r) (imm_i imm) ≡ code_start + 4 * dest →
    ReachesView s 1 w (record w { place = dest; registers = slice_set w.registers 1 (address_of_place (w.place + 1)) })
call_leads s w r imm dest code e =
    set_to_step s w (Jalr 1 r imm) 1 (code_start + 4 * (w.place + 1)) dest code (inl (λ q. omega (arith, q))) (sets_jalr s w 1 r imm dest e)

-- So many instructions lead to the callee, and the return address is the place after them.
pub record CalledBy (s : Fixed) (v : View) (to dest : ℕ) : Type 0 where
  pub count : ℕ
  pub past : to ≡ v.place + count
  pub some : 1 ≤ count
  pub leads : ReachesView s count v (record v { place = dest; registers = slice_set v.registers 1 (address_of_place to) })

-- a call by name, wherever the callee lies: by the distance to it, or by its address
module _ (s : Fixed) (v : View) (are : AreRegisters v.registers) (address to dest : ℕ) (is : address ≡ code_start + 4 * dest)
    (low : code_start + 4 * dest < 2 ^ 28) where
  -- ---- by the distance

  abbrev apart : ℕ
  apart = distance (address_of_place v.place) address

  abbrev half : ℕ
  half = add_word (code_start + 4 * v.place) (imm_u (upper apart))

  in_ra : (x : ℕ) → slice_index (slice_set v.registers 1 x) 1 ≡ x
  in_ra x = let count = are.count in get_or-set_same v.registers 1 x 0 (omega (arith, count))

  near_first : IsInstructionAt s v.place (Auipc 1 (upper apart)) → ReachesView s 1 v (set_in 1 half v)
  near_first code = set_step s v (Auipc 1 (upper apart)) 1 half code (inl (λ q. omega (arith, q))) (sets_auipc s v 1 (upper apart))

  near_second : IsInstructionAt s v.place (Auipc 1 (upper apart)) → IsInstructionAt s (v.place + 1) (Jalr 1 1 (low_12 apart)) → ReachesView s 1 (set_in 1 half v) (record (set_in 1 half v) {
    place = dest;
    registers = slice_set (slice_set v.registers 1 half) 1 (address_of_place (v.place + 1 + 1));
  })
  near_second here code =
      let near = place_near s v.place _ here in
      call_leads s (set_in 1 half v) 1 (low_12 apart) dest code
      (ap (λ x. add_word x (imm_i (low_12 apart))) (in_ra half) ∙ far_lands (address_of_place v.place) address (omega (arith, near)) (omega
      (arith, is, low))
      ∙ is)

  by_distance : HasCode s v.place (call_code Near 1 1 (address_of_place v.place) address) → to ≡ v.place + 2 → CalledBy s v to dest
  by_distance code past =
      let e : v.place + 1 + 1 ≡ to = omega (arith, past) in
      let same : slice_set (slice_set v.registers 1 half) 1 (address_of_place (v.place + 1 + 1)) ≡ slice_set v.registers 1 (address_of_place to) =
      set-set v.registers 1 half (address_of_place (v.place + 1 + 1)) ∙ ap (λ p. slice_set v.registers 1 (address_of_place p)) e in
      record {
        count = 2;
        past = past;
        some = omega arith;
        leads = subst (λ rs. ReachesView s 2 v (record v { place = dest; registers = rs })) same
            (then_leads s 1 1 v (set_in 1 half v) _ (near_first code.0) (near_second code.0 code.1.0));
      }

  -- ---- by the address

  abbrev high : ℕ
  high = imm_u (upper address)

  abbrev between : View
  between = set_in 1 address (set_in 1 high v)

  far_first : IsInstructionAt s v.place (Lui 1 (upper address)) → ReachesView s 1 v (set_in 1 high v)
  far_first code = set_step s v (Lui 1 (upper address)) 1 high code (inl (λ q. omega (arith, q))) (sets_lui s v 1 (upper address))

  far_second : IsInstructionAt s (v.place + 1) (OpImm Addi 1 1 (low_12 address)) → ReachesView s 1 (set_in 1 high v) between
  far_second code =
      set_step s (set_in 1 high v) (OpImm Addi 1 1 (low_12 address)) 1 address code (inl (λ q. omega (arith, q)))
      (sets_as s (set_in 1 high v) (OpImm Addi 1 1 (low_12 address)) 1 _ address
      (ap (λ x. add_word x (imm_i (low_12 address))) (in_ra high) ∙ number_lands address (omega (arith, is, low)))
      (sets_imm s (set_in 1 high v) Addi 1 1 (low_12 address)))

  both_set : slice_set (slice_set v.registers 1 high) 1 address ≡ slice_set v.registers 1 address
  both_set = set-set v.registers 1 high address

  far_third : IsInstructionAt s (v.place + 1 + 1) (Jalr 1 1 0) → ReachesView s 1 between (record between {
    place = dest;
    registers = slice_set (slice_set (slice_set v.registers 1 high) 1 address) 1 (address_of_place (v.place + 1 + 1 + 1));
  })
  far_third code =
      call_leads s between 1 0 dest code
      (no_offset (slice_index (slice_set (slice_set v.registers 1 high) 1 address) 1) (code_start + 4 * dest)
      (ap (λ rs. slice_index rs 1) both_set ∙ in_ra address ∙ is) (omega (arith, low)))

  by_address : HasCode s v.place (call_code Far 1 1 (address_of_place v.place) address) → to ≡ v.place + 3 → CalledBy s v to dest
  by_address code past =
      let e : v.place + 1 + 1 + 1 ≡ to = omega (arith, past) in
      let last = address_of_place (v.place + 1 + 1 + 1) in
      let same : slice_set (slice_set (slice_set v.registers 1 high) 1 address) 1 last ≡ slice_set v.registers 1 (address_of_place to) =
      ap (λ rs. slice_set rs 1 last) both_set ∙ set-set v.registers 1 address last ∙ ap (λ p. slice_set v.registers 1 (address_of_place p)) e in
      record {
        count = 3;
        past = past;
        some = omega arith;
        leads = subst (λ rs. ReachesView s 3 v (record v { place = dest; registers = rs })) same
            (then_leads s 2 1 v between _ (then_leads s 1 1 v (set_in 1 high v) between (far_first code.0) (far_second code.1.0)) (far_third code.1.1.0));
      }

  by_form : (f : Form) → HasCode s v.place (call_code f 1 1 (address_of_place v.place) address) → to ≡ v.place + words_of_call f → CalledBy s v to dest
  by_form Near code past = by_distance code past
  by_form Middle code past = by_address code past
  by_form Far code past = by_address code past

pub named_leads : (s : Fixed) (n : NameAddresses) (v : View) → AreRegisters v.registers → (name : List ℕ) (to dest : ℕ) → n.symbol name ≡ code_start + 4 * dest →
    code_start + 4 * dest < 2 ^ 28 → PartStands s n v.place to (Call name ∷ []) → CalledBy s v to dest
named_leads s n v are name to dest is low st =
    let b = begins s n v.place to (Call name) [] st in
    by_form s v are (n.symbol name) to dest is low b.form b.code (nothing_more s n (v.place + words_of_call b.form) to b.rest)
