-- A test of what `resolve` requires, for moves that are written out.
use Rattle.std.proofs.Common.{◌≡◌, ◌≢◌, Bool, true, false, cond, [], ◌∷◌, All, AllPairs, refl, sym, ap, ◌∙◌, ◌⊎◌, inl, inr}
use Rattle.std.proofs.lemmas.Bool.{false≢true}
use Rattle.bs_words.specs.declared.types.Loc.{Loc}
use Rattle.par_moves.specs.declared.moves.Move.{Move}
use Rattle.par_moves.specs.Moves.{Moves, spare, same_place}
use Rattle.par_moves.proofs.Places.{same_place-false}
use Rattle.par_moves.proofs.Members.{In, NotTo, Apart}
use Rattle.par_moves.proofs.Whole.{all_from_In, pairs_from_apart}

abbrev pub has_no_target : Loc → Moves → Bool
has_no_target place [] = true
has_no_target place (m ∷ ms) = cond (same_place m.to place) false (has_no_target place ms)

abbrev pub targets_differ : Moves → Bool
targets_differ [] = true
targets_differ (m ∷ ms) = cond (has_no_target m.to ms) (targets_differ ms) false

pub no_target : (place : Loc) (ms : Moves) → has_no_target place ms ≡ true → NotTo place ms
no_target place [] e x h t = h
no_target place (m ∷ ms) e x h t = by (no_target place ms) (same_place m.to place) refl e h where
  by : (has_no_target place ms ≡ true → NotTo place ms) → (b : Bool) → same_place m.to place ≡ b → cond b false (has_no_target place ms) ≡ true → (x ≡ m) ⊎ In x ms → ⊥
  by later true s e h = false≢true e
  by later false s e (inl is) = same_place-false m.to place s (sym (ap (λ (y : Move). y.to) is) ∙ t)
  by later false s e (inr k) = later e x k t

differ : (ms : Moves) → targets_differ ms ≡ true → Apart ms
differ [] e = tt
differ (m ∷ ms) e = by (differ ms) (has_no_target m.to ms) refl e where
  by : (targets_differ ms ≡ true → Apart ms) → (b : Bool) → has_no_target m.to ms ≡ b → cond b (targets_differ ms) false ≡ true → NotTo m.to ms × Apart ms
  by later true s e = (no_target m.to ms s, later e)
  by later false s e = absurd (false≢true e)

pub apart_by_test : (ms : Moves) → targets_differ ms ≡ true → AllPairs (λ a b. a.to ≢ b.to) ms
apart_by_test ms e = pairs_from_apart ms (differ ms e)

pub not_spare_by_test : (ms : Moves) → has_no_target spare ms ≡ true → All (λ m. m.to ≢ spare) ms
not_spare_by_test ms e = all_from_In (λ (m : Move). m.to ≢ spare) ms (no_target spare ms e)
