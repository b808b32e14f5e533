-- The test whether two places are one, and the key of a place.
use Rattle.std.proofs.Common.{◌≡◌, ◌+◌, ◌*◌, ◌==◌, Bool, true, false, refl, sym, ap, subst, ◌∙◌, arith, eq-eqb, ne_eqb}
use Rattle.std.proofs.lemmas.Bool.{eqb-true, true≢false, false≢true}
use Rattle.std.proofs.lemmas.Bool.Decides.{same_from_decides, Decides-eqb, Decides-like}
use Rattle.bs_words.specs.declared.types.Loc.{Loc}
use Rattle.bs_words.specs.declared.types.Loc.TheVariants.{Unset, Machine, Slot}
use Rattle.par_moves.specs.Index.{key_of}
use Rattle.par_moves.specs.Moves.{same_place}

pub same_place-refl : (a : Loc) → same_place a a ≡ true
same_place-refl Unset = refl
same_place-refl (Machine a) = eq-eqb a a refl
same_place-refl (Slot a) = eq-eqb a a refl

pub same_place-true : (a b : Loc) → same_place a b ≡ true → a ≡ b
same_place-true Unset Unset e = refl
same_place-true Unset (Machine b) e = absurd (false≢true e)
same_place-true Unset (Slot b) e = absurd (false≢true e)
same_place-true (Machine a) Unset e = absurd (false≢true e)
same_place-true (Machine a) (Machine b) e = let h : a ≡ b = eqb-true a b e in ap Machine h
same_place-true (Machine a) (Slot b) e = absurd (false≢true e)
same_place-true (Slot a) Unset e = absurd (false≢true e)
same_place-true (Slot a) (Machine b) e = absurd (false≢true e)
same_place-true (Slot a) (Slot b) e = let h : a ≡ b = eqb-true a b e in ap Slot h

pub same_place-false : (a b : Loc) → same_place a b ≡ false → a ≡ b → ⊥
same_place-false a b e h =
    let t : same_place a b ≡ true = subst (λ (x : Loc). same_place a x ≡ true) h (same_place-refl a) in
    true≢false (sym t ∙ e)

pub same_place-apart : (a b : Loc) → (a ≡ b → ⊥) → same_place a b ≡ false
same_place-apart a b apart = by (same_place a b) refl where
  by : (t : Bool) → same_place a b ≡ t → same_place a b ≡ false
  by true e = absurd (apart (same_place-true a b e))
  by false e = e

-- the test on keys is the test on places
pub same_place-key : (a b : Loc) → (key_of a == key_of b) ≡ same_place a b
same_place-key Unset Unset = refl
same_place-key Unset (Machine b) = ne_eqb 0 (2 * b + 1) (λ e. absurd (omega arith))
same_place-key Unset (Slot b) = ne_eqb 0 (2 * b + 2) (λ e. absurd (omega arith))
same_place-key (Machine a) Unset = ne_eqb (2 * a + 1) 0 (λ e. absurd (omega arith))
same_place-key (Machine a) (Machine b) =
    same_from_decides _ _ (Decides-eqb (2 * a + 1) (2 * b + 1))
    (Decides-like _ (λ e. let h : 2 * a + 1 ≡ 2 * b + 1 = omega arith in h) (λ e. let h : a ≡ b = omega arith in h) (Decides-eqb a b))
same_place-key (Machine a) (Slot b) = ne_eqb (2 * a + 1) (2 * b + 2) (λ e. absurd (omega arith))
same_place-key (Slot a) Unset = ne_eqb (2 * a + 2) 0 (λ e. absurd (omega arith))
same_place-key (Slot a) (Machine b) = ne_eqb (2 * a + 2) (2 * b + 1) (λ e. absurd (omega arith))
same_place-key (Slot a) (Slot b) =
    same_from_decides _ _ (Decides-eqb (2 * a + 2) (2 * b + 2))
    (Decides-like _ (λ e. let h : 2 * a + 2 ≡ 2 * b + 2 = omega arith in h) (λ e. let h : a ≡ b = omega arith in h) (Decides-eqb a b))
