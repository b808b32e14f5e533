-- The slots that the parts of loads, stores and allocations name.
use Rattle.std.proofs.Common.{◌≡◌, ℕ, ◌+◌, ◌-◌, ◌*◌, ◌%◌, ◌<◌, Bool, true, false, cond, nat_le, nat_lt, not, ◌||◌, List, [], ◌∷◌, ◌++◌, length, refl, sym, ◌∙◌, Option}
use Rattle.std.proofs.lemmas.List.Elements.{All-head, All-tail}
use Rattle.std.proofs.Math.Bool.{and-false, or-false}
use Rattle.mach_ir.specs.Blocks.{total_block_bytes}
use Rattle.mach_ir.specs.Forms.{HasForm, is_immediate_12}
use Rattle.mach_ir.specs.declared.blocks.NewBlock.{NewBlock}
use Rattle.mach_ir.specs.declared.op.Access.{Access}
use Rattle.mach_ir.specs.declared.op.Access.TheVariants as access
use Rattle.mach_ir.specs.declared.op.Op.TheVariants as op
use Rattle.lin_ir.specs.Formed.{IsLocation, Locates, comps, places_of}
use Rattle.lin_ir.specs.declared.descr.Descr.{Descr}
use Rattle.lin_ir.specs.declared.lin.LinOp.TheVariants as lin
use Rattle.lin_ir.specs.declared.lin.Lin.{Lin}
use Rattle.lin_ir.specs.declared.lin.Spot.{Spot}
use Rattle.rv_isa.specs.declared.instr.AluImmOp.TheVariants as imm
use Rattle.rv_isa.specs.declared.instr.AluOp.TheVariants as alu
use Rattle.rv_isa.specs.declared.instr.Condition.TheVariants as condition
use Rattle.rv_isa.specs.declared.instr.LoadWidth.{LoadWidth}
use Rattle.rv_isa.specs.declared.instr.LoadWidth.TheVariants as loads
use Rattle.rv_isa.specs.declared.register.Register.{Register}
use Rattle.rv_isa.specs.declared.register.Register.TheVariants.{T0, T1, T2, S10, S11}
use Rattle.rv_emit_rules.specs.Calls.{mark_of}
use Rattle.rv_emit_rules.specs.Constants.{constant_pieces, sum_to, bytes_taken_off}
use Rattle.rv_emit_rules.specs.Emitted.{part_of_line}
use Rattle.rv_emit_rules.specs.Entry.{FrameLayout}
use Rattle.rv_emit_rules.specs.Instructions.{alu_operation, load_piece, skip, ecall}
use Rattle.rv_emit_rules.specs.Memory.{address_offset, load_width, load_part, store_width, store_part, allocation_service, ask, reserved, addresses, alloc_part}
use Rattle.rv_emit_rules.specs.Slots.{first_location, second, register_of, target}
use Rattle.lin_laws.proofs.Forms.{length_comps}
use Rattle.mach_ir.proofs.Forms.{load_inv, store_inv}
use Rattle.laid_parts.specs.Laid.{lies_at, lie_at, NamesSlots}
use Rattle.laid_parts.proofs.Registers.{or_turned}
use Rattle.laid_parts.proofs.Words.{Chunk, Clear, Part, joined, same, then_none, either, nothing, at_sp, at_end, is_unknown, is_t1, is_t2, is_sp}
use Rattle.laid_parts.proofs.Clean.{steady, immediate-clear, add-clear, subtract-clear, load-clear, store-clear, constant-clear}
use Rattle.laid_parts.proofs.SlotParts.{IsWithinFrame, immediate-still, operation-still, constant-still, target-apart, register-apart, fetched-clear, kept-slot}
use Rattle.laid_parts.proofs.PureSlots.{within, first_within, second_within, slots_of, lie_none, lie_one, lie_two}
use Rattle.laid_parts.proofs.FlowSlots.{mark-still}
use Rattle.laid_parts.proofs.Each.{alloc_inv}

chosen_apart : (b : Bool) (base : Register) → is_sp base ≡ false → is_sp (cond b base T1) ≡ false
chosen_apart true base e = e
chosen_apart false base e = refl

module _ (c t : ℕ) where
  -- the offset is added first where it is long
  address-clear : (b : Bool) (base : Register) (w : ℕ) → is_sp base ≡ false →
      Clear c (cond b [] (constant_pieces T2 w ++ alu_operation alu.Add T1 base T2 ∷ [])) false false
  address-clear b base w e = either c b (nothing c) (joined c (constant-clear c T2 w refl) (add-clear c T1 base T2 refl e refl))

  load_from-clear : (b : Bool) (k : LoadWidth) (base to : Register) (w x : ℕ) → is_sp base ≡ false → is_sp to ≡ false →
      Clear c (cond b [] (constant_pieces T2 w ++ alu_operation alu.Add T1 base T2 ∷ []) ++ load_piece k to (cond b base T1) x ∷ []) false false
  load_from-clear b k base to w x e g = joined c (address-clear b base w e) (load-clear c k to (cond b base T1) x g (chosen_apart b base e))

  load_line-slots : (k : _) (w : ℕ) (args results : List Spot) → IsWithinFrame t (first_location args) → IsWithinFrame t (first_location results) →
      Part c (load_part t k w args results) (lies_at t c (first_location args)) (lies_at t c (first_location results))
  load_line-slots k w args results a d =
      at_end c (same c
      (joined c
      (at_sp c (then_none c (fetched-clear c t T1 (first_location args) is_t1 a)
      (load_from-clear (is_immediate_12 w) (load_width k) (register_of T1 (first_location args)) (target (first_location results)) w (address_offset w)
      (register-apart t T1 (first_location args) refl a) (target-apart t (first_location results) d))))
      (kept-slot c t (first_location results) d))
      (or-false (lies_at t c (first_location args))) refl)

  store_line-slots : (k : _) (w : ℕ) (args : List Spot) → IsWithinFrame t (first_location args) → IsWithinFrame t (second args) →
      Part c (store_part t k w args) (lies_at t c (first_location args) || lies_at t c (second args)) false
  store_line-slots k w args a b =
      at_end c
      (then_none c
      (joined c
      (then_none c (fetched-clear c t T1 (first_location args) is_t1 a)
      (address-clear (is_immediate_12 w) (register_of T1 (first_location args)) w (register-apart t T1 (first_location args) refl a)))
      (fetched-clear c t T2 (second args) is_t2 b))
      (store-clear c (store_width k) (register_of T2 (second args)) (cond (is_immediate_12 w) (register_of T1 (first_location args)) T1) (address_offset w)
      (chosen_apart (is_immediate_12 w) (register_of T1 (first_location args)) (register-apart t T1 (first_location args) refl a))))

  -- ---- allocations

  lowered-clear : (n : ℕ) → Clear c (bytes_taken_off T1 S10 n) false false
  lowered-clear n =
      either c (nat_le n 2048) (immediate-clear c S10 S10 (4096 - n % 4096) refl refl)
      (joined c (constant-clear c T1 n refl) (subtract-clear c S10 S10 T1 refl refl refl))

  reserved-clear : (bytes : ℕ) → Clear c (reserved bytes) false false
  reserved-clear bytes =
      joined c (lowered-clear bytes)
      (joined c {xs = load_piece loads.Ld T1 S11 0 ∷ []} (load-clear c loads.Ld T1 S11 0 refl refl)
      (joined c {xs = skip condition.Bgeu S10 T1 (4 * (1 + length (ask bytes))) ∷ []}
      (steady c (skip condition.Bgeu S10 T1 (4 * (1 + length (ask bytes)))) (λ h k. refl) (λ h k. refl) (λ h k. is_unknown) refl)
      (joined c (joined c (constant-clear c T0 bytes refl) (constant-clear c T2 allocation_service refl))
      (steady c ecall (λ h k. refl) (λ h k. refl) (λ h k. is_unknown) refl))))

  pub sum_to-still : (to from : Register) (n : ℕ) → is_sp to ≡ false → Chunk c (sum_to T1 to from n) false false
  sum_to-still to from n e =
      either c (nat_lt n 2048) (immediate-still c imm.Addi to from n e)
      (joined c (constant-still c T1 n refl) (operation-still c alu.Add to from T1 e))

module _ (m : Lin) (t : ℕ) (b : 8 * m.slots + 16 * t < 1073741824) where
  addresses-slots : (c : ℕ) (blocks : List NewBlock) (results : List Spot) → length results ≡ length blocks → Locates m results →
      Chunk c (addresses t blocks results) false (lie_at t c (places_of results))
  addresses-slots c [] [] e h = nothing c
  addresses-slots c (n ∷ ns) [] e h = absurd (cc)
  addresses-slots c [] (s ∷ ss) e h = absurd (cc)
  addresses-slots c (n ∷ ns) (s ∷ ss) e h =
      let k : length ss ≡ length ns = cc in
      let a = within m t b s.loc (All-head (λ (s : Spot). IsLocation m s.loc) s ss h) in
      let g = addresses-slots c ns ss k (All-tail (λ (s : Spot). IsLocation m s.loc) s ss h) in
      same c
      (joined c (then_none c g (sum_to-still c t (target s.loc) S10 (total_block_bytes ns + 8) (target-apart t s.loc a))) (kept-slot c t s.loc a))
      (and-false (not (lie_at t c (places_of ss)))) (or_turned (lie_at t c (places_of ss)) (lies_at t c s.loc))

  alloc_line-slots : (c : ℕ) (d : Option Descr) (blocks : List NewBlock) (results : List Spot) → length results ≡ length blocks → Locates m results →
      Part c (alloc_part t (mark_of d) blocks results) false (lie_at t c (places_of results))
  alloc_line-slots c d blocks results e h =
      at_end c (joined c (joined c (at_sp c (reserved-clear c t (total_block_bytes blocks))) (mark-still c t d)) (addresses-slots c blocks results e h))

module _ (m : Lin) (t : ℕ) (b : 8 * m.slots + 16 * t < 1073741824) (f : FrameLayout) (d : Option Descr) (args results : List Spot)
    (a : Locates m args) (r : Locates m results) where
  pub access-named : (g : Access) → HasForm (op.Access g) (comps args) (comps results) →
      NamesSlots f t (record { op = lin.Op (op.Access g); args = args; results = results })
      (part_of_line t f d (record { op = lin.Op (op.Access g); args = args; results = results }))
  access-named (access.Load k w) h =
      let i = load_inv k w (comps args) (comps results) h in
      slots_of t (λ c n. same c
      (load_line-slots c t k w args results (first_within m t b args i.0 [] i.2 a) (first_within m t b results i.1 [] i.3 r))
      (sym (lie_one t c args i.0 i.2)) (sym (lie_one t c results i.1 i.3)))
  access-named (access.Store k w) h =
      let i = store_inv k w (comps args) (comps results) h in
      slots_of t (λ c n. same c
      (store_line-slots c t k w args (first_within m t b args i.0 (i.1 ∷ []) i.2 a) (second_within m t b args i.0 i.1 [] i.2 a))
      (sym (lie_two t c args i.0 i.1 i.2)) (sym (lie_none t c results i.3)))
  access-named (access.Alloc blocks) h =
      let i = alloc_inv blocks (comps args) (comps results) h in
      slots_of t (λ c n. same c
      (alloc_line-slots m t b c d blocks results (sym (length_comps results) ∙ i.1) r)
      (sym (lie_none t c args i.0)) refl)
