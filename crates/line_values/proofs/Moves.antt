-- Lines that make a constant or a symbol's value, or copy a value.
use Rattle.std.proofs.Common.{◌≡◌, ◌≢◌, ℕ, suc, ◌+◌, ◌-◌, ◌*◌, ◌%◌, ◌^◌, ◌<◌, ◌⊎◌, inl, inr, Bool, true, false, cond, nat_lt, List, [], ◌∷◌, ◌++◌, length, Option, Some, None, slice_index, refl, ap, arith, ◌∙◌, sym, subst, ⊎_elim}
use Rattle.std.proofs.lemmas.Bool.{ltb-true}
use Rattle.bs_words.specs.Word.{add_word}
use Rattle.bs_words.proofs.Below.{sext_word-below}
use Rattle.bs_words.specs.declared.types.Loc.{Loc}
use Rattle.bs_words.specs.declared.types.Loc.TheVariants as loc
use Rattle.bs_words.specs.declared.values.Value.{Value}
use Rattle.bs_words.specs.declared.values.Value.TheVariants.{Word, Block, Function}
use Rattle.rv_emit_rules.specs.Constants.{above_12, constant_pieces}
use Rattle.rv_emit_rules.specs.Emitted.{pure_part}
use Rattle.rv_emit_rules.specs.Instructions.{load_piece, low_12}
use Rattle.rv_emit_rules.specs.Slots.{copy_pieces, far_stack, keep_pieces, stack_load, target}
use Rattle.rv_layout_rules.specs.Words.{NameAddresses, upper}
use Rattle.rv_layout_rules.proofs.Offsets.{number_lands}
use Rattle.lin_ir.specs.Formed.{IsLocation}
use Rattle.lin_ir.specs.Meaning.{Locations, NamedAt, on_act, assign_spot, same_loc, step}
use Rattle.lin_ir.specs.declared.lin.Lin.{Lin}
use Rattle.lin_ir.specs.declared.lin.Line.{Line}
use Rattle.lin_ir.specs.declared.lin.LinOp.TheVariants as lin
use Rattle.lin_ir.specs.declared.lin.Spot.{Spot}
use Rattle.mach_ir.specs.Acts.{Around, if_known}
use Rattle.mach_ir.specs.Runs.{ActivationSetting}
use Rattle.mach_ir.specs.declared.op.CopyKind.{CopyKind}
use Rattle.mach_ir.specs.declared.op.Op.TheVariants as op
use Rattle.mach_ir.specs.declared.op.Pure.TheVariants as pure
use Rattle.moving_laws.specs.Stands.{AmongNumbers}
use Rattle.rv_isa.specs.Registers.{register_number, register_at}
use Rattle.rv_isa.specs.declared.instr.AluImmOp.TheVariants.{Addi}
use Rattle.rv_isa.specs.declared.instr.AluOp.TheVariants.{Add}
use Rattle.rv_isa.specs.declared.instr.Instr.TheVariants.{Load, Lui, Op, OpImm}
use Rattle.rv_isa.specs.declared.instr.LoadWidth.TheVariants.{Ld}
use Rattle.rv_isa.specs.declared.register.Register.TheVariants.{Sp, T2}
use Rattle.rv_machine.specs.Arithmetic.{imm_i, imm_u}
use Rattle.rv_machine.specs.Hart.{Placed}
use Rattle.rv_pieces.specs.declared.piece.Piece.TheVariants.{SymbolAddress}
use Rattle.lin_machine.specs.Follows.{Agrees, FollowsStep}
use Rattle.lin_machine.specs.Relation.{Below, Laid, StandsFor, Within, blocks_by_serial}
use Rattle.lin_machine.specs.Straight.{Changes, LeadsFurther}
use Rattle.lin_machine.specs.View.{Fixed, View, HasCode, IsInstructionAt}
use Rattle.lin_machine.proofs.Following.{PassesSpare, result_follows, same_loc-true}
use Rattle.lin_machine.proofs.Formats.{sets_imm, sets_lui}
use Rattle.machine_laws.proofs.Immediates.{low_12 as small_12, up}
use Rattle.lin_machine.proofs.Locations.{read_far, read_near, read_register}
use Rattle.lin_machine.proofs.Operating.{worked}
use Rattle.lin_machine.proofs.Pure.{Reads, constant_follows, copy_follows, copy_nothing}
use Rattle.lin_machine.proofs.Sequences.{set_changes, set_then, sets_as, widened}
use Rattle.lin_machine.proofs.Standing.{IsScratch}
use Rattle.line_stands.specs.Parts.{PartStands}
use Rattle.line_stands.proofs.Parts.{counts, last, leads, none_left, starts}
use Rattle.line_values.proofs.Chains.{constant_comes}
use Rattle.line_values.proofs.Operands.{offset_small, spilled, targeted}
use Rattle.line_values.proofs.Places.{no_unset, slot_of, usual_of}

-- what is known among no blocks is known among any
pub known_anywhere : (s : Fixed) (placed : List Placed) (w : ℕ) (v : Value) → StandsFor s [] w v → StandsFor s placed w v
known_anywhere s placed w (Word x) st = record { is = st.is; known = tt }
known_anywhere s placed w (Block k o) st = let l = st.known.0 in absurd (omega (arith, l))
known_anywhere s placed w (Function f) st = record { is = st.is; known = st.known }

-- one register alone, which is the target
pub alone : (t q : ℕ) → AmongNumbers q (t ∷ []) → (q ≡ t) ⊎ IsScratch q
alone t q i = ⊎_elim (λ e. inl e) (λ f. absurd f) i

module _ (s : Fixed) (n : NameAddresses) (laid : Laid) (m : Lin) (slots : m.slots ≡ laid.slots) (live : List Line → Type 0) (entry : ℕ → ℕ) (c : Below)
    (place : ActivationSetting) (named : NamedAt) (next : List Line) (v : View) (young : List Placed) (held file : Locations) (a : Around) (none : a.raised ≡ None)
    (within : Within s laid v young 0 held a c) (before : Type 0) (agrees : Agrees before held file) (k : ℕ) (behind : laid.part (length next) ≡ v.place + k)
    (r : Spot) (at_r : IsLocation m r.loc) (passes : PassesSpare before (live next) r.loc) where
  -- ---- constants

  pub constant_line : (w : ℕ) → w < 2 ^ 64 → PartStands s n v.place (v.place + k) (pure_part (length a.tries) (pure.Constant w) [] (r ∷ [])) →
      FollowsStep k s laid live entry c v (step place named m (record {
        rest = record { op = lin.Op (op.Pure (pure.Constant w)); args = []; results = r ∷ [] } ∷ next;
        file = file;
        around = a;
      }))
  constant_line w small part =
      let tg = targeted s n laid m slots v young held a c none within r.loc at_r in
      let g = counts s n v.place k (constant_pieces (target r.loc) w) (keep_pieces (length a.tries) r.loc) part in
      let e = g.sum in
      subst (λ z. FollowsStep z s laid live entry c v (step place named m (record {
        rest = record { op = lin.Op (op.Pure (pure.Constant w)); args = []; results = r ∷ [] } ∷ next;
        file = file;
        around = a;
      }))) (sym g.sum)
      (constant_follows s laid live entry c place named m next v young held file a none within before agrees r passes (suc tg.t) tg.rest tg.makes
      (suc tg.t ∷ []) (alone (suc tg.t)) w g.own g.others (omega (arith, e, behind))
      (λ z. tg.keeps r refl z (v.place + g.own) g.others g.second)
      (constant_comes s n (target r.loc) tg.t tg.is tg.fits tg.no_sp w small v g.own g.first within.own.are))

  -- ---- symbols

  -- the two instructions of an address below 2^30
  number_comes : (t : ℕ) → suc t < 32 → suc t ≢ 2 → (x : ℕ) → x < 2 ^ 30 → HasCode s v.place (Lui (suc t) (upper x)
      ∷ OpImm Addi (suc t) (suc t) (low_12 x) ∷ []) →
      Changes s v 2 (suc t ∷ []) v.memory (λ w. slice_index w.registers (suc t) ≡ x)
  number_comes t fits no_sp x small code =
      set_then s v 1 (suc t ∷ []) v.memory (λ w. slice_index w.registers (suc t) ≡ imm_u (upper x)) (OpImm Addi (suc t) (suc t) (low_12 x)) t x
      (set_changes s v (Lui (suc t) (upper x)) t (imm_u (upper x)) code.0 (inl no_sp) (sets_lui s v (suc t) (upper x)) within.own.are fits
      (sext_word-below _ 32))
      (inl refl)
      (λ w past e. sets_as s w (OpImm Addi (suc t) (suc t) (low_12 x)) (suc t) _ x
      (ap (λ y. add_word y (imm_i (low_12 x))) e ∙ number_lands x (omega (arith, small))) (sets_imm s w Addi (suc t) (suc t) (low_12 x)))
      code.1.0 (inl no_sp) fits (omega (arith, small))

  pub symbol_line :
      (name : List ℕ) → ((x : Value) → place.setting.symbol name ≡ Some x → StandsFor s [] (n.symbol name) x × (n.symbol name < 2 ^ 30)) →
      PartStands s n v.place (v.place + k) (pure_part (length a.tries) (pure.Symbol name) [] (r ∷ [])) →
      FollowsStep k s laid live entry c v (step place named m (record {
        rest = record { op = lin.Op (op.Pure (pure.Symbol name)); args = []; results = r ∷ [] } ∷ next;
        file = file;
        around = a;
      }))
  symbol_line name symbol part = by_value (place.setting.symbol name) refl
    where
      by_value : (o : Option Value) → place.setting.symbol name ≡ o →
          FollowsStep k s laid live entry c v (on_act place m (record {
            op = lin.Op (op.Pure (pure.Symbol name));
            args = [];
            results = r ∷ [];
          }) next file a (if_known a o))
      by_value None e = tt
      by_value (Some x) e =
          let tg = targeted s n laid m slots v young held a c none within r.loc at_r in
          let g = starts s n v.place k (SymbolAddress (target r.loc) name) (keep_pieces (length a.tries) r.loc) part in
          let sum = g.sum in
          let known = symbol x e in
          let code : HasCode s v.place (Lui (suc tg.t) (upper (n.symbol name)) ∷ OpImm Addi (suc tg.t) (suc tg.t) (low_12 (n.symbol name)) ∷ []) =
          subst (λ z. HasCode s v.place (Lui z (upper (n.symbol name)) ∷ OpImm Addi z z (low_12 (n.symbol name)) ∷ [])) tg.is g.code in
          result_follows s laid live entry c v next before k place.setting.end r x young held file a behind agrees passes
          (λ fit. subst (λ z. LeadsFurther s v z (λ w. Within s laid w young 0 (assign_spot r x held) a c)) (sym g.sum)
          (worked s laid young a c none held tg.rest (assign_spot r x held) v.place 2 (suc tg.t) (suc tg.t ∷ []) x tg.makes (alone (suc tg.t)) g.others
          (tg.keeps r refl x (v.place + 2) g.others g.rest) v refl within
          (widened s v 2 (suc tg.t ∷ []) (suc tg.t ∷ []) v.memory (λ w. slice_index w.registers (suc tg.t) ≡ n.symbol name) _ (λ q i. i)
          (λ w past h. subst (λ z. StandsFor s (blocks_by_serial v young) z x) (sym h) (known_anywhere s (blocks_by_serial v young) (n.symbol name) x known.0))
          (number_comes tg.t tg.fits tg.no_sp (n.symbol name) known.1 code))))

  -- ---- copies

  abbrev Copied : Value → Type 0
  Copied x = LeadsFurther s v k (λ w. Within s laid w young 0 (assign_spot r x held) a c)

  -- from a slot
  from_slot : (j : ℕ) → j < m.slots → (x : Value) → held (loc.Slot j) ≡ Some x →
      PartStands s n v.place (v.place + k) (stack_load T2 (target r.loc) (8 * j + 16 * length a.tries) ++ keep_pieces (length a.tries) r.loc) → Copied x
  from_slot j l x h part =
      let g = counts s n v.place k (stack_load T2 (target r.loc) (8 * j + 16 * length a.tries)) (keep_pieces (length a.tries) r.loc) part in
      subst (λ z. LeadsFurther s v z (λ w. Within s laid w young 0 (assign_spot r x held) a c)) (sym g.sum)
      (by_test (nat_lt (8 * j + 16 * length a.tries) 2048) refl g.own g.others g.first g.second)
    where
      by_test : (t : Bool) → nat_lt (8 * j + 16 * length a.tries) 2048 ≡ t → (own others : ℕ) →
          PartStands s n v.place (v.place + own) (cond t (load_piece Ld (target r.loc) Sp (8 * j + 16 * length a.tries) ∷ [])
          (far_stack T2 (8 * j + 16 * length a.tries) ++ load_piece Ld (target r.loc) T2 (8 * j + 16 * length a.tries) ∷ [])) →
          PartStands s n (v.place + own) (v.place + own + others) (keep_pieces (length a.tries) r.loc) →
          LeadsFurther s v (own + others) (λ w. Within s laid w young 0 (assign_spot r x held) a c)
      by_test true t own others part keep =
          let off : ℕ = 8 * j + 16 * length a.tries in
          let tg = targeted s n laid m slots v young held a c none within r.loc at_r in
          let g = last s n v.place own (Load Ld (register_number (target r.loc)) 2 (off % 4096)) part in
          let code : HasCode s v.place (Load Ld (suc tg.t) 2 ((8 * j + 16 * length a.tries) % 4096) ∷ []) =
          subst (λ z. HasCode s v.place (Load Ld z 2 ((8 * j + 16 * length a.tries) % 4096) ∷ [])) tg.is (g.0, tt) in
          worked s laid young a c none held tg.rest (assign_spot r x held) v.place own (suc tg.t) (suc tg.t ∷ []) x tg.makes (alone (suc tg.t)) others
          (tg.keeps r refl x (v.place + own) others keep) v refl within
          (subst (λ z. Changes s v z (suc tg.t ∷ []) v.memory (λ w. StandsFor s (blocks_by_serial v young) (slice_index w.registers (suc tg.t)) x)) (sym g.1)
          (read_near s laid v young 0 held a c within j x h tg.t tg.fits tg.no_sp (ltb-true off 2048 t) code))
      by_test false t own others part keep =
          let off : ℕ = 8 * j + 16 * length a.tries in
          let tg = targeted s n laid m slots v young held a c none within r.loc at_r in
          let g1 = leads s n v.place own (Lui 7 (above_12 off % 1048576)) _ part in
          let g2 = leads s n (v.place + 1) g1.others (Op Add 7 7 2) _ g1.rest in
          let g3 = last s n (v.place + 1 + 1) g2.others (Load Ld (register_number (target r.loc)) 7 (off % 4096)) g2.rest in
          let code : HasCode s v.place (Lui 7 (above_12 (8 * j + 16 * length a.tries) % 2 ^ 20) ∷ Op Add 7 7 2 ∷ Load Ld (suc tg.t) 7
          ((8 * j + 16 * length a.tries) % 4096) ∷ []) =
          subst (λ y. HasCode s v.place (Lui 7 (above_12 (8 * j + 16 * length a.tries) % 2 ^ 20) ∷ Op Add 7 7 2 ∷ Load Ld y 7
          ((8 * j + 16 * length a.tries) % 4096) ∷ [])) tg.is (g1.code, (g2.code, (g3.0, tt))) in
          let e1 = g1.sum in
          let e2 = g2.sum in
          let e3 = g3.1 in
          let three : own ≡ 3 = omega (arith, e1, e2, e3) in
          worked s laid young a c none held tg.rest (assign_spot r x held) v.place own (suc tg.t) (suc tg.t ∷ 7 ∷ []) x tg.makes (both tg.t) others
          (tg.keeps r refl x (v.place + own) others keep) v refl within
          (subst (λ z. Changes s v z (suc tg.t ∷ 7 ∷ []) v.memory (λ w. StandsFor s (blocks_by_serial v young) (slice_index w.registers (suc tg.t)) x)) (sym three)
          (read_far s laid v young 0 held a c within j x h tg.t tg.fits tg.no_sp 6 (omega arith) (λ e. omega (arith, e)) (offset_small s n laid m slots v young
          held a c none within j l) code))
        where
          both : (t q : ℕ) → AmongNumbers q (suc t ∷ 7 ∷ []) → (q ≡ suc t) ⊎ IsScratch q
          both t q i = ⊎_elim (λ e. inl e) (λ f. ⊎_elim (λ e. inr (inr e)) (λ z. absurd z) f) i

  -- from a register
  from_register : (q : ℕ) → IsLocation m (loc.Machine q) → (to : Loc) → r.loc ≡ to → IsLocation m to → (x : Value) → held (loc.Machine q) ≡ Some x →
      PartStands s n v.place (v.place + k) (copy_pieces (length a.tries) (loc.Machine q) to) → Copied x
  from_register q is (loc.Slot j) e at_to x h part =
      let u = usual_of m q is in
      let some = u.location.some in
      let same : q ≡ suc (q - 1) = omega (arith, some) in
      let stands = (read_register s laid v young 0 held a c within q x none h).1 in
      (spilled s n laid m slots v young held a c none within (register_at q) (q - 1) (u.number_is ∙ same)
      (λ f. u.location.no_scratch.1 (same ∙ f)) j (slot_of m j at_to) r e x v.place k part).by v refl within
      (subst (λ z. StandsFor s (blocks_by_serial v young) (slice_index v.registers z) x) same stands)
  from_register q is (loc.Machine o) e at_to x h part =
      let u = usual_of m q is in
      let stands = (read_register s laid v young 0 held a c within q x none h).1 in
      let tg = targeted s n laid m slots v young held a c none within (loc.Machine o) at_to in
      let g = leads s n v.place k (OpImm Addi (register_number (register_at o)) (register_number (register_at q)) 0) [] part in
      let some = u.location.some in
      let same : q ≡ suc (q - 1) = omega (arith, some) in
      let code : IsInstructionAt s v.place (OpImm Addi (suc tg.t) (suc (q - 1)) 0) =
      subst (λ z. IsInstructionAt s v.place (OpImm Addi z (suc (q - 1)) 0)) tg.is
      (subst (λ z. IsInstructionAt s v.place (OpImm Addi (register_number (register_at o)) z 0)) (u.number_is ∙ same) g.code) in
      let w : ℕ = slice_index v.registers (suc (q - 1)) in
      let small = within.own.are.words (suc (q - 1)) in
      let sum : add_word w (imm_i 0) ≡ w = ap (add_word w) (small_12 0 (omega arith)) ∙ up w 0 w (omega arith) small in
      subst (λ z. LeadsFurther s v z (λ w. Within s laid w young 0 (assign_spot r x held) a c)) (sym g.sum)
      (worked s laid young a c none held tg.rest (assign_spot r x held) v.place 1 (suc tg.t) (suc tg.t ∷ []) x tg.makes (alone (suc tg.t)) g.others
      (tg.keeps r e x (v.place + 1) g.others g.rest) v refl within
      (widened s v 1 (suc tg.t ∷ []) (suc tg.t ∷ []) v.memory (λ u. slice_index u.registers (suc tg.t) ≡ slice_index v.registers (suc (q - 1))) _ (λ y i. i)
      (λ u past f. subst (λ z. StandsFor s (blocks_by_serial v young) z x) (sym f)
      (subst (λ z. StandsFor s (blocks_by_serial v young) (slice_index v.registers z) x) same stands))
      (set_changes s v (OpImm Addi (suc tg.t) (suc (q - 1)) 0) tg.t w code (inl tg.no_sp)
      (sets_as s v (OpImm Addi (suc tg.t) (suc (q - 1)) 0) (suc tg.t) _ w sum (sets_imm s v Addi (suc tg.t) (suc (q - 1)) 0)) within.own.are tg.fits small)))
  from_register q is loc.Unset e at_to x h part = absurd (no_unset m at_to)

  copies : (from : Loc) → IsLocation m from → (x : Value) → held from ≡ Some x → PartStands s n v.place (v.place + k) (copy_pieces (length a.tries) from r.loc) →
      Copied x
  copies (loc.Slot j) is x h part = from_slot j (slot_of m j is) x h part
  copies (loc.Machine q) is x h part = from_register q is r.loc refl at_r x h part
  copies loc.Unset is x h part = absurd (no_unset m is)

  pub copy_line : (kind : CopyKind) (p : Spot) → IsLocation m p.loc → Reads before p.loc →
      PartStands s n v.place (v.place + k) (pure_part (length a.tries) (pure.Copy kind) (p ∷ []) (r ∷ [])) →
      FollowsStep k s laid live entry c v (step place named m (record {
        rest = record { op = lin.Op (op.Pure (pure.Copy kind)); args = p ∷ []; results = r ∷ [] } ∷ next;
        file = file;
        around = a;
      }))
  copy_line kind p at_p reads part =
      copy_follows s laid live entry c place named m next v young held file a before agrees p r passes kind k behind reads
      (λ x h. by_test x h (same_loc p.loc r.loc) refl part)
    where
      by_test : (x : Value) → held p.loc ≡ Some x → (t : Bool) → same_loc p.loc r.loc ≡ t →
          PartStands s n v.place (v.place + k) (cond t [] (copy_pieces (length a.tries) p.loc r.loc)) → Copied x
      by_test x h true t part =
          subst (λ z. LeadsFurther s v z (λ w. Within s laid w young 0 (assign_spot r x held) a c)) (sym (none_left s n v.place k part))
          (copy_nothing s laid v young held a c within r x (subst (λ l. held l ≡ Some x) (sym (same_loc-true p.loc r.loc t)) h))
      by_test x h false t part = copies p.loc at_p x h part
