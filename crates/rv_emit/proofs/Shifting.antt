-- The steps of a constant.
use Rattle.std.proofs.Common.{◌≡◌, ℕ, zero, suc, ◌+◌, Bool, true, false, cond, nat_eq, List, [], ◌∷◌, ◌++◌, refl, ◌∙◌, subst, sym, arith, rules}
use Rattle.std.proofs.lemmas.Grind.{common_steps}
use Rattle.rv_isa.specs.declared.register.Register.{Register}
use Rattle.rv_pieces.specs.declared.piece.Piece.{Piece}
use Rattle.rv_emit_rules.specs.Instructions.{low_12, addi}
use Rattle.rv_emit_rules.specs.Constants.{is_word_32, constant_32, upper_constant, shifted, constant_shifted}

on-true : (b : Bool) (x y : List Piece) → b ≡ true → cond b x y ≡ x
on-true true x y e = refl
on-true false x y e = cc

on-false : (b : Bool) (x y : List Piece) → b ≡ false → cond b x y ≡ y
on-false true x y e = cc
on-false false x y e = refl

pub ends_at_word : (n : ℕ) (r : Register) (w amount : ℕ) → is_word_32 w ≡ true → constant_shifted n r w amount ≡ constant_32 r w ++ shifted r amount
ends_at_word zero r w amount h = refl
ends_at_word (suc n) r w amount h = on-true (is_word_32 w) _ _ h

pub ends_at_zero : (n : ℕ) (r : Register) (w amount : ℕ) → n ≡ 0 → constant_shifted n r w amount ≡ constant_32 r w ++ shifted r amount
ends_at_zero zero r w amount h = refl
ends_at_zero (suc n) r w amount h = absurd (omega arith)

pub passes_zeros : (n k : ℕ) (r : Register) (w amount : ℕ) → n ≡ suc k → is_word_32 w ≡ false → low_12 w ≡ 0 →
    constant_shifted n r w amount ≡ constant_shifted k r (upper_constant w) (amount + 12)
passes_zeros n k r w amount e h z =
    let Q : ℕ → Type 0 = λ m. constant_shifted m r w amount ≡ constant_shifted k r (upper_constant w) (amount + 12) in
    let t : nat_eq (low_12 w) 0 ≡ true = search rules in
    subst Q (sym e) (on-false (is_word_32 w) _ _ h ∙ on-true (nat_eq (low_12 w) 0) _ _ t)

pub adds_bits : (n k : ℕ) (r : Register) (w amount : ℕ) → n ≡ suc k → is_word_32 w ≡ false → (low_12 w ≡ 0 → ⊥) →
    constant_shifted n r w amount ≡ constant_shifted k r (upper_constant w) 12 ++ addi r r w ∷ shifted r amount
adds_bits n k r w amount e h z =
    let Q : ℕ → Type 0 = λ m. constant_shifted m r w amount ≡ constant_shifted k r (upper_constant w) 12 ++ addi r r w ∷ shifted r amount in
    let t : nat_eq (low_12 w) 0 ≡ false = search rules in
    subst Q (sym e) (on-false (is_word_32 w) _ _ h ∙ on-false (nat_eq (low_12 w) 0) _ _ t)

-- what is put in two goes, and then more
pub three : (old one two : List Piece) (a : List Piece) (p : Piece) (b : List Piece) → one ≡ old ++ a → two ≡ one ++ p ∷ [] → two ++ b ≡ old ++ (a ++ p ∷ b)
three old one two a p b e f = grind (arith, common_steps)
