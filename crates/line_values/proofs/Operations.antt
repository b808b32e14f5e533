-- Lines that apply an operator to two locations, or to a location and a constant.
use Rattle.std.proofs.Common.{◌≡◌, ◌≢◌, ℕ, zero, suc, ◌+◌, ◌^◌, ◌<◌, ◌⊎◌, inl, inr, Bool, true, List, [], ◌∷◌, ◌++◌, length, map, slice_get, slice_index, Ok, None, refl, arith, ◌∙◌, sym, subst, ⊎_elim, append_assoc}
use Rattle.bs_words.specs.Memory.{HeapBlock, sizes}
use Rattle.bs_words.specs.Operators.{apply, signed_holds, truth, unsigned_holds}
use Rattle.bs_words.specs.declared.operators.IntOp.{IntOp}
use Rattle.bs_words.specs.declared.operators.IntOp.TheVariants as operator
use Rattle.bs_words.specs.declared.values.Value.{Value}
use Rattle.bs_words.specs.declared.values.Value.TheVariants.{Word}
use Rattle.rv_emit_rules.specs.Emitted.{pure_part}
use Rattle.rv_emit_rules.specs.Operators.{operated, operated_with}
use Rattle.rv_emit_rules.specs.Slots.{fetch_pieces, keep_pieces, register_of, target}
use Rattle.rv_layout_rules.specs.Words.{NameAddresses}
use Rattle.lin_ir.specs.Formed.{IsLocation}
use Rattle.lin_ir.specs.Meaning.{Locations, NamedAt, step}
use Rattle.lin_ir.specs.declared.lin.Lin.{Lin}
use Rattle.lin_ir.specs.declared.lin.Line.{Line}
use Rattle.lin_ir.specs.declared.lin.LinOp.TheVariants as lin
use Rattle.lin_ir.specs.declared.lin.Spot.{Spot}
use Rattle.mach_ir.specs.Acts.{Around}
use Rattle.mach_ir.specs.Forms.{is_immediate}
use Rattle.mach_ir.specs.Runs.{ActivationSetting}
use Rattle.mach_ir.specs.declared.op.Op.TheVariants as op
use Rattle.mach_ir.specs.declared.op.Pure.TheVariants as pure
use Rattle.mach_ir.specs.declared.op.Right.TheVariants as right
use Rattle.moving_laws.specs.Heap.{AreBlocks}
use Rattle.moving_laws.specs.Stands.{AmongNumbers}
use Rattle.rv_isa.specs.declared.register.Register.TheVariants.{T1, T2}
use Rattle.rv_machine.specs.Arithmetic.{bit_of}
use Rattle.rv_machine.specs.Hart.{Placed}
use Rattle.rv_machine.specs.Memory.{Region}
use Rattle.rv_pieces.specs.declared.piece.Piece.{Piece}
use Rattle.lin_machine.specs.Contents.{size_in}
use Rattle.lin_machine.specs.Follows.{Agrees, FollowsStep}
use Rattle.lin_machine.specs.Relation.{Below, HeapStands, Laid, StandsFor, Within, blocks_by_serial}
use Rattle.lin_machine.specs.Relation as relation
use Rattle.lin_machine.specs.View.{Fixed, View}
use Rattle.lin_machine.proofs.Following.{PassesSpare}
use Rattle.lin_machine.proofs.Operators.{add_row, add_val_row, add_addr_row, sub_row, mul_row, mulh_row, div_row, mod_row, and_row, or_row, xor_row, shl_row, shr_row, sar_row}
use Rattle.lin_machine.proofs.Pure.{Reads, operator_follows, operator_with_follows}
use Rattle.lin_machine.proofs.Sequences.{widened}
use Rattle.lin_machine.proofs.Standing.{IsScratch}
use Rattle.line_stands.specs.Parts.{PartStands}
use Rattle.line_stands.proofs.Parts.{counts}
use Rattle.line_values.proofs.Agreeing.{AreSized, compared_words, signed_agrees, truth_is, unsigned_agrees}
use Rattle.line_values.proofs.Compared.{signed_word, unsigned_word}
use Rattle.line_values.proofs.Moves.{alone}
use Rattle.line_values.proofs.Operands.{fetches, targeted}
use Rattle.line_values.proofs.Rows.{operated_leaves, operated_with_leaves, result_word}

-- ---- values

sizes_at : (bs : List HeapBlock) (k : ℕ) → slice_index (map (λ (b : HeapBlock). length b.cells) bs) k ≡ size_in (slice_get bs k)
sizes_at [] k = refl
sizes_at (b ∷ bs) zero = refl
sizes_at (b ∷ bs) (suc k) = sizes_at bs k

-- the blocks have the sizes of the memory's
pub sized : (s : Fixed) (placed : List Placed) (m : List Region) (a : Around) → HeapStands s placed m a → AreSized placed (sizes a.memory)
sized s placed m a h = λ k l. h.stand.sizes k l ∙ sym (sizes_at a.memory.blocks k)

module _ (s : Fixed) (placed : List Placed) (blocks : AreBlocks placed) (ns : List ℕ) (are : AreSized placed ns) where
  truth_stands : (b : Bool) (w : ℕ) (z : Value) → w ≡ bit_of b → z ≡ truth b → StandsFor s placed w z
  truth_stands b w z e f = subst (StandsFor s placed w) (sym (f ∙ truth_is b)) (record { is = e; known = tt })

  -- the rows of an operator leave the word of its value
  pub operated_value : (f : IntOp) (x y z : Value) (wx wy : ℕ) → wx < 2 ^ 64 → wy < 2 ^ 64 → StandsFor s placed wx x → StandsFor s placed wy y →
      apply f ns x y ≡ Ok z → StandsFor s placed (result_word f wx wy) z
  operated_value operator.Add x y z wx wy hx hy sx sy e = add_row.is s placed ns x y z wx wy blocks hx hy sx sy e
  operated_value operator.AddV x y z wx wy hx hy sx sy e = add_val_row.is s placed ns x y z wx wy blocks hx hy sx sy e
  operated_value operator.AddA x y z wx wy hx hy sx sy e = add_addr_row.is s placed ns x y z wx wy blocks hx hy sx sy e
  operated_value operator.Sub x y z wx wy hx hy sx sy e = sub_row.is s placed ns x y z wx wy blocks hx hy sx sy e
  operated_value operator.Mul x y z wx wy hx hy sx sy e = mul_row.is s placed ns x y z wx wy blocks hx hy sx sy e
  operated_value operator.Mulh x y z wx wy hx hy sx sy e = mulh_row.is s placed ns x y z wx wy blocks hx hy sx sy e
  operated_value operator.Div x y z wx wy hx hy sx sy e = div_row.is s placed ns x y z wx wy blocks hx hy sx sy e
  operated_value operator.Mod x y z wx wy hx hy sx sy e = mod_row.is s placed ns x y z wx wy blocks hx hy sx sy e
  operated_value operator.And x y z wx wy hx hy sx sy e = and_row.is s placed ns x y z wx wy blocks hx hy sx sy e
  operated_value operator.Or x y z wx wy hx hy sx sy e = or_row.is s placed ns x y z wx wy blocks hx hy sx sy e
  operated_value operator.Xor x y z wx wy hx hy sx sy e = xor_row.is s placed ns x y z wx wy blocks hx hy sx sy e
  operated_value operator.Shl x y z wx wy hx hy sx sy e = shl_row.is s placed ns x y z wx wy blocks hx hy sx sy e
  operated_value operator.Shr x y z wx wy hx hy sx sy e = shr_row.is s placed ns x y z wx wy blocks hx hy sx sy e
  operated_value operator.Sar x y z wx wy hx hy sx sy e = sar_row.is s placed ns x y z wx wy blocks hx hy sx sy e
  operated_value (operator.Cmp f) x y z wx wy hx hy sx sy e =
      truth_stands (signed_holds f wx wy) (result_word (operator.Cmp f) wx wy) z (signed_word f wx wy)
      (compared_words s placed blocks ns are signed_holds (signed_agrees s placed blocks ns are) wx wy f x y z sx sy e)
  operated_value (operator.CmpU f) x y z wx wy hx hy sx sy e =
      truth_stands (unsigned_holds f wx wy) (result_word (operator.CmpU f) wx wy) z (unsigned_word f wx wy)
      (compared_words s placed blocks ns are unsigned_holds (unsigned_agrees s placed blocks ns are) wx wy f x y z sx sy e)

-- ---- lines

-- t1, or a register that is a location, is not t2
pub no_second : (r : ℕ) → (r ≡ 6) ⊎ relation.IsLocationRegister r → r ≢ 7
no_second r (inl e) f = omega (arith, e, f)
no_second r (inr l) f = l.no_scratch.1 f

module _ (s : Fixed) (n : NameAddresses) (laid : Laid) (m : Lin) (slots : m.slots ≡ laid.slots) (live : List Line → Type 0) (entry : ℕ → ℕ) (c : Below)
    (place : ActivationSetting) (named : NamedAt) (next : List Line) (v : View) (young : List Placed) (held file : Locations) (a : Around) (none : a.raised ≡ None)
    (within : Within s laid v young 0 held a c) (before : Type 0) (agrees : Agrees before held file) (k : ℕ) (behind : laid.part (length next) ≡ v.place + k)
    (r : Spot) (at_r : IsLocation m r.loc) (passes : PassesSpare before (live next) r.loc) where
  pub operator_line : (f : IntOp) (p q : Spot) → IsLocation m p.loc → IsLocation m q.loc → Reads before p.loc → Reads before q.loc →
      PartStands s n v.place (v.place + k) (pure_part (length a.tries) (pure.Operator f right.Register) (p ∷ q ∷ []) (r ∷ [])) →
      FollowsStep k s laid live entry c v (step place named m (record {
        rest = record { op = lin.Op (op.Pure (pure.Operator f right.Register)); args = p ∷ q ∷ []; results = r ∷ [] } ∷ next;
        file = file;
        around = a;
      }))
  operator_line f p q at_p at_q reads_p reads_q part =
      let one : List Piece = fetch_pieces (length a.tries) T1 p.loc in
      let two : List Piece = fetch_pieces (length a.tries) T2 q.loc in
      let work : List Piece = operated f (target r.loc) (register_of T1 p.loc) (register_of T2 q.loc) in
      let keep : List Piece = keep_pieces (length a.tries) r.loc in
      let turned : PartStands s n v.place (v.place + k) (one ++ (two ++ (work ++ keep))) =
      subst (PartStands s n v.place (v.place + k)) (append_assoc (one ++ two) work keep ∙ append_assoc one two (work ++ keep)) part in
      let g1 = counts s n v.place k one (two ++ (work ++ keep)) turned in
      let g2 = counts s n (v.place + g1.own) g1.others two (work ++ keep) g1.second in
      let g3 = counts s n (v.place + g1.own + g2.own) g2.others work keep g2.second in
      let f1 = fetches s n laid m slots v young held a c none within T1 5 refl (inl refl) v.place g1.own p.loc at_p g1.first in
      let f2 = fetches s n laid m slots v young held a c none within T2 6 refl (inr refl) (v.place + g1.own) g2.own q.loc at_q g2.first in
      let tg = targeted s n laid m slots v young held a c none within r.loc at_r in
      let e1 = g1.sum in
      let e2 = g2.sum in
      let e3 = g3.sum in
      let all : k ≡ g1.own + (g2.own + (g3.own + g3.others)) = omega (arith, e1, e2, e3) in
      subst (λ z. FollowsStep z s laid live entry c v (step place named m (record {
        rest = record { op = lin.Op (op.Pure (pure.Operator f right.Register)); args = p ∷ q ∷ []; results = r ∷ [] } ∷ next;
        file = file;
        around = a;
      }))) (sym all)
      (operator_follows s laid live entry c place named m next v young held file a none within before agrees r passes (suc tg.t) tg.rest tg.makes
      (suc tg.t ∷ []) (alone (suc tg.t)) f p q g1.own g2.own g3.own g3.others (suc f1.r) (suc f2.r) f1.list f2.list (omega (arith, all, behind))
      reads_p reads_q (λ i. no_second (suc f1.r) f1.apart (f2.only (suc f1.r) i)) f1.gets f2.gets
      (λ z. tg.keeps r refl z (v.place + g1.own + g2.own + g3.own) g3.others g3.second)
      (λ x y z u e at w sx sy.
      let there : PartStands s n u.place (u.place + g3.own) (operated f (target r.loc) (register_of T1 p.loc) (register_of T2 q.loc)) =
      subst (λ o. PartStands s n o (o + g3.own) (operated f (target r.loc) (register_of T1 p.loc) (register_of T2 q.loc))) (sym at) g3.first in
      let are = w.own.are in
      widened s u g3.own (suc tg.t ∷ []) (suc tg.t ∷ []) u.memory
      (λ o. slice_index o.registers (suc tg.t) ≡ result_word f (slice_index u.registers (suc f1.r)) (slice_index u.registers (suc f2.r))) _ (λ i j. j)
      (λ o past h. subst (λ i. StandsFor s (blocks_by_serial u young) i z) (sym h)
      (operated_value s (blocks_by_serial u young) w.heap.old (sizes a.memory) (sized s (blocks_by_serial u young) u.memory a w.heap) f x y z
      (slice_index u.registers (suc f1.r)) (slice_index u.registers (suc f2.r)) (are.words (suc f1.r)) (are.words (suc f2.r)) sx sy e))
      (operated_leaves s n u are (target r.loc) tg.t tg.is tg.fits tg.no_sp (register_of T1 p.loc) f1.r f1.is g3.own (register_of T2 q.loc) f2.r f2.is f
      there)))

  target_and_second : (t q : ℕ) → AmongNumbers q (t ∷ 7 ∷ []) → (q ≡ t) ⊎ IsScratch q
  target_and_second t q i = ⊎_elim (λ e. inl e) (λ f. ⊎_elim (λ e. inr (inr e)) (λ z. absurd z) f) i

  pub operator_with_line : (f : IntOp) (w : ℕ) → is_immediate f w ≡ true → w < 2 ^ 64 → (p : Spot) → IsLocation m p.loc → Reads before p.loc →
      PartStands s n v.place (v.place + k) (pure_part (length a.tries) (pure.Operator f (right.Constant w)) (p ∷ []) (r ∷ [])) →
      FollowsStep k s laid live entry c v (step place named m (record {
        rest = record { op = lin.Op (op.Pure (pure.Operator f (right.Constant w))); args = p ∷ []; results = r ∷ [] } ∷ next;
        file = file;
        around = a;
      }))
  operator_with_line f w has small p at_p reads_p part =
      let one : List Piece = fetch_pieces (length a.tries) T1 p.loc in
      let work : List Piece = operated_with f (target r.loc) (register_of T1 p.loc) w in
      let keep : List Piece = keep_pieces (length a.tries) r.loc in
      let turned : PartStands s n v.place (v.place + k) (one ++ (work ++ keep)) =
      subst (PartStands s n v.place (v.place + k)) (append_assoc one work keep) part in
      let g1 = counts s n v.place k one (work ++ keep) turned in
      let g2 = counts s n (v.place + g1.own) g1.others work keep g1.second in
      let f1 = fetches s n laid m slots v young held a c none within T1 5 refl (inl refl) v.place g1.own p.loc at_p g1.first in
      let tg = targeted s n laid m slots v young held a c none within r.loc at_r in
      let e1 = g1.sum in
      let e2 = g2.sum in
      let all : k ≡ g1.own + (g2.own + g2.others) = omega (arith, e1, e2) in
      subst (λ z. FollowsStep z s laid live entry c v (step place named m (record {
        rest = record { op = lin.Op (op.Pure (pure.Operator f (right.Constant w))); args = p ∷ []; results = r ∷ [] } ∷ next;
        file = file;
        around = a;
      }))) (sym all)
      (operator_with_follows s laid live entry c place named m next v young held file a none within before agrees r passes (suc tg.t) tg.rest tg.makes
      (suc tg.t ∷ 7 ∷ []) (target_and_second (suc tg.t)) f w p g1.own g2.own g2.others (suc f1.r) f1.list (omega (arith, all, behind))
      reads_p f1.gets
      (λ z. tg.keeps r refl z (v.place + g1.own + g2.own) g2.others g2.second)
      (λ x z u e at i sx.
      let there : PartStands s n u.place (u.place + g2.own) (operated_with f (target r.loc) (register_of T1 p.loc) w) =
      subst (λ o. PartStands s n o (o + g2.own) (operated_with f (target r.loc) (register_of T1 p.loc) w)) (sym at) g2.first in
      let are = i.own.are in
      widened s u g2.own (suc tg.t ∷ 7 ∷ []) (suc tg.t ∷ 7 ∷ []) u.memory
      (λ o. slice_index o.registers (suc tg.t) ≡ result_word f (slice_index u.registers (suc f1.r)) w) _ (λ y j. j)
      (λ o past h. subst (λ y. StandsFor s (blocks_by_serial u young) y z) (sym h)
      (operated_value s (blocks_by_serial u young) i.heap.old (sizes a.memory) (sized s (blocks_by_serial u young) u.memory a i.heap) f x (Word w) z
      (slice_index u.registers (suc f1.r)) w (are.words (suc f1.r)) small sx (record { is = refl; known = tt }) e))
      (operated_with_leaves s n u are (target r.loc) tg.t tg.is tg.fits tg.no_sp (register_of T1 p.loc) f1.r f1.is (no_second (suc f1.r) f1.apart)
      g2.own w f has there)))
