-- Stores of every chunk follow their lines.
use Rattle.std.proofs.Common.{◌≡◌, ◌≢◌, ℕ, suc, ◌+◌, ◌%◌, ◌^◌, ◌<◌, ◌≤◌, inl, inr, List, [], ◌∷◌, ◌++◌, length, Option, Some, None, slice_index, refl, ap, arith, ◌∙◌, sym, subst, append_assoc}
use Rattle.bs_words.specs.Memory.{Cell, cell_at, width, replaced}
use Rattle.bs_words.specs.Word.{add_word}
use Rattle.bs_words.specs.declared.types.Chunk.{Chunk}
use Rattle.bs_words.specs.declared.types.Chunk.TheVariants as chunk
use Rattle.bs_words.specs.declared.values.Value.{Value}
use Rattle.rv_emit_rules.specs.Memory.{address_offset, address_register, address_words, store_width, store_part}
use Rattle.rv_emit_rules.specs.Slots.{fetch_pieces, register_of}
use Rattle.rv_layout_rules.specs.Words.{NameAddresses}
use Rattle.lin_ir.specs.Formed.{IsLocation}
use Rattle.lin_ir.specs.Meaning.{Locations, NamedAt, on_act, on_values, step}
use Rattle.lin_ir.specs.declared.lin.Lin.{Lin}
use Rattle.lin_ir.specs.declared.lin.Line.{Line}
use Rattle.lin_ir.specs.declared.lin.LinOp.TheVariants as lin
use Rattle.lin_ir.specs.declared.lin.Spot.{Spot}
use Rattle.mach_ir.specs.Acts.{Around, moved_by, stored_act}
use Rattle.mach_ir.specs.Runs.{ActivationSetting}
use Rattle.mach_ir.specs.declared.op.Access.TheVariants as access
use Rattle.mach_ir.specs.declared.op.Op.TheVariants as op
use Rattle.moving_laws.specs.Values.{value_word}
use Rattle.rv_isa.specs.Registers.{register_number}
use Rattle.rv_isa.specs.declared.register.Register.{Register}
use Rattle.rv_isa.specs.declared.register.Register.TheVariants.{T1, T2}
use Rattle.rv_machine.specs.Arithmetic.{imm_i}
use Rattle.rv_machine.specs.Hart.{Placed, bytes_stored}
use Rattle.rv_machine.specs.Sound.{extents}
use Rattle.rv_machine.proofs.Bytes.{replaced-below}
use Rattle.moving_laws.specs.Words.{held_word}
use Rattle.moving_laws.proofs.Held.{held_below, hold, hold_regions, word_hold}
use Rattle.rv_pieces.specs.declared.piece.Piece.{Piece}
use Rattle.lin_machine.specs.Follows.{Agrees, FollowsStep}
use Rattle.lin_machine.specs.Relation.{Below, Laid, StandsFor, Within, blocks_by_serial}
use Rattle.lin_machine.specs.Straight.{LeadsFurther}
use Rattle.lin_machine.specs.View.{Fixed, View, IsInstructionAt}
use Rattle.lin_machine.proofs.Parts.{changes_come, comes_then}
use Rattle.lin_machine.proofs.Pure.{Reads, reads_held}
use Rattle.lin_machine.proofs.Standing.{within_past}
use Rattle.lin_machine.proofs.Steps.{reg, reg_below, then_leads}
use Rattle.line_stands.specs.Parts.{PartStands}
use Rattle.line_stands.proofs.Parts.{counts, last}
use Rattle.line_values.proofs.Cells.{reached}
use Rattle.line_values.proofs.Operands.{fetches}
use Rattle.line_values.proofs.Addresses.{addresses, no_function}
use Rattle.rv_isa.specs.declared.instr.Instr.TheVariants.{Store}
use Rattle.lin_machine.proofs.Writing.{within_changed}
use Rattle.line_values.proofs.Bytes.{store_part_step}
use Rattle.line_values.proofs.Loading.{chunk_width}
use Rattle.rv_emit_rules.specs.Instructions.{store_piece}
use Rattle.lin_machine.proofs.Following.{agrees_on, goes_follows}
use Rattle.lin_machine.proofs.Reading.{reads_two}
use Rattle.line_values.proofs.Landing.{within_at}
use Rattle.line_values.proofs.Storing.{store_goes}
use Rattle.line_values.proofs.Testing.{second_location}

store_bytes : (k : Chunk) → bytes_stored (store_width k) ≡ width k
store_bytes chunk.U8 = refl
store_bytes chunk.I8 = refl
store_bytes chunk.U16 = refl
store_bytes chunk.I16 = refl
store_bytes chunk.U32 = refl
store_bytes chunk.I32 = refl
store_bytes chunk.Int = refl
store_bytes chunk.Val = refl

far_off : (at y : ℕ) → at < 0x38010000 → 0x38010008 ≤ y → at ≢ y
far_off at y near far = λ t. omega (arith, t, near, far)

one_more : (u p k : ℕ) → u ≡ p + k → u + 1 ≡ p + (k + 1)
one_more u p k e = omega (arith, e)

module _ (s : Fixed) (n : NameAddresses) (laid : Laid) (m : Lin) (slots : m.slots ≡ laid.slots) (live : List Line → Type 0) (entry : ℕ → ℕ) (c : Below)
    (place : ActivationSetting) (named : NamedAt) (next : List Line) (v : View) (young : List Placed) (held file : Locations) (a : Around) (none : a.raised ≡ None)
    (within : Within s laid v young 0 held a c) (before : Type 0) (agrees : Agrees before held file) (k : ℕ) (behind : laid.part (length next) ≡ v.place + k)
    (passes : live next → before)
    (ch : Chunk) (offset : ℕ) (fits_64 : offset < 2 ^ 64) (p q : Spot) (at_p : IsLocation m p.loc) (at_q : IsLocation m q.loc) (reads_p : Reads before p.loc)
    (reads_q : Reads before q.loc)
    (part_is : PartStands s n v.place (v.place + k) (store_part (length a.tries) ch offset (p ∷ q ∷ []))) where
  -- the address and the value are in registers
  record Ready (r : ℕ) (from : Register) (x y : Value) (u : View) : Type 0 where
    pub stands : Within s laid u young 0 held a c
    pub address : add_word (slice_index u.registers (suc r)) (imm_i (address_offset offset % 4096)) ≡ value_word s.image (blocks_by_serial u young) (moved_by offset x)
    pub value : StandsFor s (blocks_by_serial u young) (reg u.registers (register_number from)) y

  stores : (x y : Value) (cell : Cell) → held p.loc ≡ Some x → held q.loc ≡ Some y → cell_at a.memory (width ch) (moved_by offset x) ≡ Some cell →
      FollowsStep k s laid live entry c v (on_act place m (record {
        op = lin.Op (op.Access (access.Store ch offset));
        args = p ∷ q ∷ [];
        results = [];
      }) next file a (stored_act ch a (Some cell) (moved_by offset x) y))
  stores x y cell hx hy there =
      let one : List Piece = fetch_pieces (length a.tries) T1 p.loc in
      let two : List Piece = address_words (register_of T1 p.loc) offset in
      let three : List Piece = fetch_pieces (length a.tries) T2 q.loc in
      let instr : Piece = store_piece (store_width ch) (register_of T2 q.loc) (address_register (register_of T1 p.loc) offset) (address_offset offset) in
      let turned : PartStands s n v.place (v.place + k) (one ++ (two ++ (three ++ instr ∷ []))) =
      subst (PartStands s n v.place (v.place + k)) (append_assoc (one ++ two) three (instr ∷ []) ∙ append_assoc one two (three ++ instr ∷ [])) part_is in
      let g1 = counts s n v.place k one (two ++ (three ++ instr ∷ [])) turned in
      let g2 = counts s n (v.place + g1.own) g1.others two (three ++ instr ∷ []) g1.second in
      let g3 = counts s n (v.place + g1.own + g2.own) g2.others three (instr ∷ []) g2.second in
      let l = last s n (v.place + g1.own + g2.own + g3.own) g3.others
      (Store (store_width ch) (register_number (address_register (register_of T1 p.loc) offset)) (register_number (register_of T2 q.loc))
      (address_offset offset % 4096)) g3.second in
      let f1 = fetches s n laid m slots v young held a c none within T1 5 refl (inl refl) v.place g1.own p.loc at_p g1.first in
      let ad = addresses s n laid young held a c (register_of T1 p.loc) f1.r f1.is f1.apart offset fits_64 (v.place + g1.own) g2.own g2.first in
      let snd = second_location s n laid m slots v young held a c none within q.loc at_q (v.place + g1.own + g2.own) g3.own g3.first in
      let e1 = g1.sum in
      let e2 = g2.sum in
      let e3 = g3.sum in
      let e4 = l.1 in
      let all : k ≡ g1.own + (g2.own + g3.own) + 1 = omega (arith, e1, e2, e3, e4) in
      let ready : LeadsFurther s v (g1.own + (g2.own + g3.own)) (Ready ad.r (register_of T2 q.loc) x y) =
      comes_then s v g1.own (g2.own + g3.own) (λ u. Within s laid u young 0 held a c × StandsFor s (blocks_by_serial u young) (slice_index u.registers (suc f1.r)) x) _
      (changes_come s v g1.own f1.list v.memory _ _
      (λ u past st. (
        within_past s laid v u young 0 held a c g1.own f1.list past (λ o i. inl (f1.only o i)) within,
        (let same : blocks_by_serial u young ≡ blocks_by_serial v young = ap (λ bs. blocks_by_serial (record v { blocks = bs }) young) past.blocks in
            subst (λ b. StandsFor s b (slice_index u.registers (suc f1.r)) x) (sym same) st),
      ))
      ((f1.gets x hx).by v refl within))
      (λ u at both.
      comes_then s u g2.own g3.own
      (λ w. Within s laid w young 0 held a c
      × (add_word (slice_index w.registers (suc ad.r)) (imm_i (address_offset offset % 4096)) ≡ value_word s.image (blocks_by_serial w young) (moved_by offset x))) _
      (changes_come s u g2.own ad.list u.memory _ _
      (λ w past e. (
        within_past s laid u w young 0 held a c g2.own ad.list past ad.scratch both.0,
        (let same : blocks_by_serial w young ≡ blocks_by_serial u young = ap (λ bs. blocks_by_serial (record u { blocks = bs }) young) past.blocks in
            e ∙ ap (λ b. value_word s.image b (moved_by offset x)) (sym same)),
      ))
      (ad.gets x (no_function a (width ch) offset x cell there) u at both.0 both.1))
      (λ w at' both'.
      changes_come s w g3.own snd.list w.memory _ _
      (λ o past st.
      let same : blocks_by_serial o young ≡ blocks_by_serial w young = ap (λ bs. blocks_by_serial (record w { blocks = bs }) young) past.blocks in
      let kept : slice_index o.registers (suc ad.r) ≡ slice_index w.registers (suc ad.r) = past.others (suc ad.r) (λ i. ad.apart (snd.only (suc ad.r) i)) in
      record {
        stands = within_past s laid w o young 0 held a c g3.own snd.list past (λ z i. inr (snd.only z i)) both'.0;
        address = ap (λ z. add_word z (imm_i (address_offset offset % 4096))) kept ∙ both'.1
            ∙ ap (λ b. value_word s.image b (moved_by offset x)) (sym same);
        value = subst (λ b. StandsFor s b (reg o.registers (register_number (register_of T2 q.loc))) y) (sym same) st;
      })
      (snd.gets y hy w (omega (arith, at, at')) both'.0))) in
      let u = ready.view in
      let at = ready.place in
      let w = ready.holds.stands in
      let value : ℕ = reg u.registers (register_number (register_of T2 q.loc)) in
      let reach = reached s (blocks_by_serial u young) u.memory w.usable.regions a w.heap (width ch) (chunk_width ch) (moved_by offset x) cell there in
      let here : v.place + g1.own + g2.own + g3.own ≡ u.place = omega (arith, at) in
      let code : IsInstructionAt s u.place (Store (store_width ch) (suc ad.r) (register_number (register_of T2 q.loc)) (address_offset offset % 4096)) =
      subst (λ z. IsInstructionAt s z (Store (store_width ch) (suc ad.r) (register_number (register_of T2 q.loc)) (address_offset offset % 4096))) here
      (subst (λ z. IsInstructionAt s (v.place + g1.own + g2.own + g3.own) (Store (store_width ch) z (register_number (register_of T2 q.loc)) (address_offset offset % 4096)))
      ad.is l.0) in
      let step1 = store_part_step s u reach.at reach.byte reach.even reach.low reach.no_limit reach.held (width ch) (chunk_width ch) reach.inside reach.area
      reach.aligned (store_width ch) (store_bytes ch) (suc ad.r) (register_number (register_of T2 q.loc)) (address_offset offset % 4096) code
      (ready.holds.address ∙ reach.address) w.usable.regions in
      let new : ℕ = replaced (held_word u.memory reach.at) reach.byte (width ch) (reg u.registers (register_number (register_of T2 q.loc))) in
      store_goes s (blocks_by_serial u young) u.memory w.usable.regions a w.heap ch (moved_by offset x) y value
      (reg_below u.registers (register_number (register_of T2 q.loc)) w.own.are.words) ready.holds.value
      (λ act. FollowsStep k s laid live entry c v (on_act place m (record {
        op = lin.Op (op.Access (access.Store ch offset));
        args = p ∷ q ∷ [];
        results = [];
      }) next file a act)) tt cell there reach
      (λ memory unwritten heap.
      goes_follows s laid live entry c v next k young held file (record a { memory = memory; unwritten = unwritten }) behind
      (agrees_on before (live next) held file passes agrees)
      (subst (λ z. LeadsFurther s v z (λ o. Within s laid o young 0 held (record a { memory = memory; unwritten = unwritten }) c)) (sym all)
      (record {
        view = record u { place = u.place + 1; memory = hold u.memory reach.at new };
        leads = then_leads s (g1.own + (g2.own + g3.own)) 1 v u (record u { place = u.place + 1; memory = hold u.memory reach.at new }) ready.leads step1;
        place = one_more u.place v.place (g1.own + (g2.own + g3.own)) ready.place;
        holds = within_at s laid (record u { memory = hold u.memory reach.at new }) young held (record a { memory = memory; unwritten = unwritten }) c
            (u.place + 1)
            (within_changed s laid u young 0 held a c (hold u.memory reach.at new) memory unwritten
            (hold_regions (extents s.image s.heap s.base) u.memory reach.at new
            (replaced-below (held_word u.memory reach.at) reach.byte (width ch) (reg u.registers (register_number (register_of T2 q.loc))) reach.inside
            (held_below u.memory reach.at w.usable.regions.each)) w.usable.regions)
            (λ z far. word_hold u.memory reach.at z new reach.even (far_off reach.at z reach.below far)) heap w);
      })))
      reach.lies

  pub store_line : FollowsStep k s laid live entry c v (step place named m (record {
    rest = record { op = lin.Op (op.Access (access.Store ch offset)); args = p ∷ q ∷ []; results = [] } ∷ next;
    file = file;
    around = a;
  }))
  store_line =
      reads_two place.setting.end file
      (λ vs. FollowsStep k s laid live entry c v (on_values place (named (length next)) m (record {
        op = lin.Op (op.Access (access.Store ch offset));
        args = p ∷ q ∷ [];
        results = [];
      }) next file a vs)) tt p q
      (λ x y h e i g. by_cell x y (cell_at a.memory (width ch) (moved_by offset x)) refl (reads_held before held file p.loc agrees reads_p ∙ h)
      (reads_held before held file q.loc agrees reads_q ∙ i))
    where
      by_cell : (x y : Value) (o : Option Cell) → cell_at a.memory (width ch) (moved_by offset x) ≡ o → held p.loc ≡ Some x → held q.loc ≡ Some y →
          FollowsStep k s laid live entry c v (on_act place m (record {
            op = lin.Op (op.Access (access.Store ch offset));
            args = p ∷ q ∷ [];
            results = [];
          }) next file a (stored_act ch a o (moved_by offset x) y))
      by_cell x y None e hx hy = tt
      by_cell x y (Some cell) e hx hy = stores x y cell hx hy e
