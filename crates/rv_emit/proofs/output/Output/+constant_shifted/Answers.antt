-- Each branch is one step of the definition.
use Rattle.std.proofs.Common.{◌≡◌, ℕ, suc, ◌+◌, ◌-◌, true, false, List, ◌∷◌, ◌++◌, IfOk, sym, ap, ◌∙◌, subst, arith}
use Rattle.rv_pieces.specs.declared.piece.Piece.{Piece}
use Rattle.rv_emit_rules.specs.Instructions.{addi}
use Rattle.rv_emit_rules.specs.Constants.{is_word_32, constant_32, upper_constant, shifted, constant_shifted}
use Rattle.rv_emit.proofs.Shifting.{ends_at_word, passes_zeros, adds_bits, three}
use Rattle.rv_emit.proofs.output.Output.+constant_shifted.Goals as goal

pub returns-then-is_word_32 : goal.returns-then-is_word_32
returns-then-is_word_32 t c =
    let h : is_word_32 c.args.word ≡ true = sym c.if-is_word_32.ensures in
    let e : constant_32 c.args.to c.args.word ++ shifted c.args.to c.args.amount ≡ constant_shifted c.args.steps c.args.to c.args.word c.args.amount =
    sym (ends_at_word c.args.steps c.args.to c.args.word c.args.amount h) in
    let Q : List Piece → Type 0 = λ p. IfOk c.ended.result (λ (x : Unit {0}). c.ended.new.self.pieces.items ≡ c.args.self.now.pieces.items ++ p) in
    subst Q e c.ended.ensures

pub returns-then-word-eq0 : goal.returns-then-word-eq0
returns-then-word-eq0 t c =
    let h : is_word_32 c.args.word ≡ false = sym c.if-is_word_32.ensures in
    let n : c.args.steps ≡ suc (c.args.steps - 1) = omega arith in
    let f : c.higher.result ≡ upper_constant c.args.word = c.higher.ensures in
    let e : constant_shifted (c.args.steps - 1) c.args.to c.higher.result (c.args.amount + 12) ≡ constant_shifted c.args.steps c.args.to c.args.word c.args.amount =
    ap (λ (w : ℕ). constant_shifted (c.args.steps - 1) c.args.to w (c.args.amount + 12)) f
    ∙ sym (passes_zeros c.args.steps (c.args.steps - 1) c.args.to c.args.word c.args.amount n h c.if-word-eq0.true) in
    let Q : List Piece → Type 0 = λ p. IfOk c.constant_shifted.result (λ (x : Unit {0}). c.constant_shifted.new.self.pieces.items ≡ c.args.self.now.pieces.items ++ p) in
    subst Q e c.constant_shifted.ensures

pub returns : goal.returns
returns t c =
    let h : is_word_32 c.args.word ≡ false = sym c.if-is_word_32.ensures in
    let n : c.args.steps ≡ suc (c.args.steps - 1) = omega arith in
    let f : c.higher-2.result ≡ upper_constant c.args.word = c.higher-2.ensures in
    let e : constant_shifted (c.args.steps - 1) c.args.to c.higher-2.result 12 ++ addi c.args.to c.args.to c.args.word ∷ shifted c.args.to c.args.amount
    ≡ constant_shifted c.args.steps c.args.to c.args.word c.args.amount =
    ap (λ (w : ℕ). constant_shifted (c.args.steps - 1) c.args.to w 12 ++ addi c.args.to c.args.to c.args.word ∷ shifted c.args.to c.args.amount) f
    ∙ sym (adds_bits c.args.steps (c.args.steps - 1) c.args.to c.args.word c.args.amount n h c.if-word-eq0.false) in
    let k : c.addi.new.self.pieces.items ++ shifted c.args.to c.args.amount
    ≡ c.args.self.now.pieces.items ++ (constant_shifted (c.args.steps - 1) c.args.to c.higher-2.result 12 ++ addi c.args.to c.args.to c.args.word ∷ shifted c.args.to c.args.amount) =
    three _ _ _ _ _ _ c.in_ok-constant_shifted.ensures c.in_ok-addi.ensures in
    let Q : List Piece → Type 0 = λ p. IfOk c.shifted.result (λ (x : Unit {0}). c.shifted.new.self.pieces.items ≡ p) in
    subst Q (k ∙ ap (λ (p : List Piece). c.args.self.now.pieces.items ++ p) e) c.shifted.ensures
