-- The instructions that make a constant leave it in their register.
use Rattle.std.proofs.Common.{◌≡◌, ◌≢◌, ℕ, suc, ◌+◌, ◌*◌, ◌%◌, ◌^◌, ◌<◌, inl, cond, nat_eq, List, [], ◌∷◌, slice_index, refl, ap, arith, ◌∙◌, sym, subst}
use Rattle.std.proofs.lemmas.Bool.{cond-false, ne_eqb}
use Rattle.bs_words.specs.Word.{add_word, sext_word, shl_word}
use Rattle.bs_words.proofs.Below.{add_word-below, sext_word-below, shl_word-below}
use Rattle.rv_emit_rules.specs.Constants.{constant_pieces}
use Rattle.rv_emit_rules.specs.Traversal.{EachPiece, each_none, each_more}
use Rattle.rv_emit_rules.specs.Values.{piece_value, value_after, Makes, makes_first, makes_upper, makes_lower, makes_sum, makes_shift}
use Rattle.rv_emit_rules.proofs.Values.{constant_is, constant_is_made}
use Rattle.rv_layout_rules.specs.Words.{NameAddresses}
use Rattle.rv_isa.specs.Registers.{register_number}
use Rattle.rv_isa.specs.declared.instr.AluImmOp.TheVariants.{Addi}
use Rattle.rv_isa.specs.declared.instr.Instr.{Instr}
use Rattle.rv_isa.specs.declared.instr.Instr.TheVariants.{Addiw, Lui, OpImm, Shift}
use Rattle.rv_isa.specs.declared.instr.ShiftOp.TheVariants.{Slli}
use Rattle.rv_isa.specs.declared.register.Register.{Register}
use Rattle.rv_machine.specs.Sound.{AreRegisters}
use Rattle.rv_pieces.specs.declared.piece.Piece.{Piece}
use Rattle.rv_pieces.specs.declared.piece.Piece.TheVariants.{Known}
use Rattle.lin_machine.specs.Straight.{Changes}
use Rattle.lin_machine.specs.View.{Fixed, View}
use Rattle.lin_machine.proofs.Formats.{sets_addiw, sets_imm, sets_lui, sets_shift}
use Rattle.lin_machine.proofs.Sequences.{no_change, sets_as, set_changes, then_changes, widened}
use Rattle.lin_machine.proofs.Steps.{SetsRegister}
use Rattle.line_stands.specs.Parts.{PartStands}
use Rattle.line_stands.proofs.Parts.{leads, none_left}

module _ (s : Fixed) (n : NameAddresses) (r : Register) (q : ℕ) (is : register_number r ≡ suc q) (fits : suc q < 32) (no_sp : suc q ≢ 2) where
  -- one of them is an instruction that sets the register as is said
  pub record Made (p : Piece) : Type 0 where
    pub instr : Instr
    pub piece : p ≡ Known instr
    pub sets : (v : View) → SetsRegister s v instr (suc q) (piece_value p (slice_index v.registers (suc q)))
    pub below : (w : ℕ) → w < 2 ^ 64 → piece_value p w < 2 ^ 64

  own_value : (x : ℕ) → cond (nat_eq (suc q) 0) 0 x ≡ x
  own_value x = cond-false (nat_eq (suc q) 0) 0 x (ne_eqb (suc q) 0 (λ e. omega (arith, e)))

  made_of : (p : Piece) → Makes r p → Made p
  made_of p (makes_first w) = record {
    instr = OpImm Addi (register_number r) 0 (w % 4096);
    piece = refl;
    sets = λ v. subst (λ z. SetsRegister s v (OpImm Addi z 0 (w % 4096)) (suc q) (add_word 0 (sext_word (w % 4096) 12))) (sym is)
        (sets_imm s v Addi (suc q) 0 (w % 4096));
    below = λ x l. add_word-below _ _;
  }
  made_of p (makes_upper w) = record {
    instr = Lui (register_number r) (w % 1048576);
    piece = refl;
    sets = λ v. subst (λ z. SetsRegister s v (Lui z (w % 1048576)) (suc q) (sext_word (4096 * (w % 1048576)) 32)) (sym is) (sets_lui s v (suc q) (w % 1048576));
    below = λ x l. sext_word-below _ 32;
  }
  made_of p (makes_lower w) = record {
    instr = Addiw (register_number r) (register_number r) (w % 4096);
    piece = refl;
    sets = λ v. subst (λ z. SetsRegister s v (Addiw z z (w % 4096)) (suc q)
        (sext_word (add_word (slice_index v.registers (suc q)) (sext_word (w % 4096) 12)) 32)) (sym is)
        (sets_addiw s v (suc q) (suc q) (w % 4096));
    below = λ x l. sext_word-below _ 32;
  }
  made_of p (makes_sum w) = record {
    instr = OpImm Addi (register_number r) (register_number r) (w % 4096);
    piece = refl;
    sets = λ v. subst (λ z. SetsRegister s v (OpImm Addi z z (w % 4096)) (suc q)
        (add_word (cond (nat_eq z 0) 0 (slice_index v.registers (suc q))) (sext_word (w % 4096) 12))) (sym is)
        (sets_as s v (OpImm Addi (suc q) (suc q) (w % 4096)) (suc q) _ _
        (ap (λ x. add_word x (sext_word (w % 4096) 12)) (sym (own_value (slice_index v.registers (suc q)))))
        (sets_imm s v Addi (suc q) (suc q) (w % 4096)));
    below = λ x l. add_word-below _ _;
  }
  made_of p (makes_shift amount) = record {
    instr = Shift Slli (register_number r) (register_number r) (amount % 64);
    piece = refl;
    sets = λ v. subst (λ z. SetsRegister s v (Shift Slli z z (amount % 64)) (suc q) (shl_word (slice_index v.registers (suc q)) (amount % 64))) (sym is)
        (sets_shift s v Slli (suc q) (suc q) (amount % 64));
    below = λ x l. shl_word-below _ _;
  }

  -- one after the other
  pub chain : (ps : List Piece) → EachPiece (Makes r) ps → (v : View) (k : ℕ) → PartStands s n v.place (v.place + k) ps → AreRegisters v.registers →
      Changes s v k (suc q ∷ []) v.memory (λ w. slice_index w.registers (suc q) ≡ value_after ps (slice_index v.registers (suc q)))
  chain [] each_none v k part are =
      subst (λ z. Changes s v z (suc q ∷ []) v.memory (λ w. slice_index w.registers (suc q) ≡ slice_index v.registers (suc q)))
      (sym (none_left s n v.place k part))
      (no_change s v (suc q ∷ []) (λ w. slice_index w.registers (suc q) ≡ slice_index v.registers (suc q)) are refl)
  chain (p ∷ ps) (each_more h hs) v k part are =
      let made = made_of p h in
      let x : ℕ = slice_index v.registers (suc q) in
      let g = leads s n v.place k made.instr ps (subst (λ z. PartStands s n v.place (v.place + k) (z ∷ ps)) made.piece part) in
      let small = made.below x (are.words (suc q)) in
      subst (λ z. Changes s v z (suc q ∷ []) v.memory (λ w. slice_index w.registers (suc q) ≡ value_after (p ∷ ps) (slice_index v.registers (suc q))))
      (sym g.sum)
      (then_changes s v 1 g.others (suc q ∷ []) v.memory v.memory (λ w. slice_index w.registers (suc q) ≡ piece_value p (slice_index v.registers (suc q))) _
      (set_changes s v made.instr q (piece_value p x) g.code (inl no_sp) (made.sets v) are fits small)
      (λ w past e.
      let rest : PartStands s n w.place (w.place + g.others) ps = subst (λ z. PartStands s n z (z + g.others) ps) (sym past.place) g.rest in
      subst (λ mem. Changes s w g.others (suc q ∷ []) mem (λ u. slice_index u.registers (suc q) ≡ value_after (p ∷ ps) (slice_index v.registers (suc q))))
      past.memory
      (widened s w g.others (suc q ∷ []) (suc q ∷ []) w.memory
      (λ u. slice_index u.registers (suc q) ≡ value_after ps (slice_index w.registers (suc q))) _ (λ y i. i)
      (λ u pu f. f ∙ ap (value_after ps) e)
      (chain ps hs w g.others rest past.are))))

  -- A constant comes into the register.
  pub constant_comes : (w : ℕ) → w < 2 ^ 64 → (v : View) (k : ℕ) → PartStands s n v.place (v.place + k) (constant_pieces r w) → AreRegisters v.registers →
      Changes s v k (suc q ∷ []) v.memory (λ u. slice_index u.registers (suc q) ≡ w)
  constant_comes w small v k part are =
      widened s v k (suc q ∷ []) (suc q ∷ []) v.memory
      (λ u. slice_index u.registers (suc q) ≡ value_after (constant_pieces r w) (slice_index v.registers (suc q))) _ (λ y i. i)
      (λ u p f. f ∙ constant_is r q is w (slice_index v.registers (suc q)) small)
      (chain (constant_pieces r w) (constant_is_made r w) v k part are)
