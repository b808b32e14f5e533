-- Pieces that are in the code, cut in two.
use Rattle.std.proofs.Common.{◌≡◌, ℕ, ◌+◌, ◌≤◌, List, [], ◌∷◌, ◌++◌, length, take, drop, refl, ap, subst, arith}
use Rattle.rv_emit_rules.specs.Sizes.{least_words, words_at_least}
use Rattle.rv_layout_rules.specs.declared.form.Form.{Form}
use Rattle.rv_layout_rules.specs.declared.form.Form.TheVariants.{Near, Middle, Far}
use Rattle.rv_layout_rules.specs.Forms.{ReachFrom, total_words, piece_words}
use Rattle.rv_layout_rules.specs.Stands.{HasPieces}
use Rattle.rv_layout_rules.specs.Words.{NameAddresses}
use Rattle.rv_layout_rules.proofs.Rules.{branch_some, jump_some}
use Rattle.rv_pieces.specs.declared.piece.Piece.{Piece}
use Rattle.rv_pieces.specs.declared.piece.Piece.TheVariants.{Known, Label, Branch, Jump, Row, LabelAddress, Call, TailCall, SymbolAddress, ExternalNumber, Descriptor}

-- ---- words

pub words_both : (xs ys : List Piece) (fs : List Form) → total_words (xs ++ ys) fs ≡ total_words xs fs + total_words ys (drop (length xs) fs)
words_both [] ys fs = omega arith
words_both (x ∷ xs) [] [] = refl
words_both (x ∷ xs) (y ∷ ys) [] = refl
words_both (x ∷ xs) ys (f ∷ fs) = let rest = words_both xs ys fs in omega (arith, rest)

pub words_first : (xs : List Piece) (fs : List Form) → total_words xs (take (length xs) fs) ≡ total_words xs fs
words_first [] fs = refl
words_first (x ∷ xs) [] = refl
words_first (x ∷ xs) (f ∷ fs) = ap (λ k. piece_words x f + k) (words_first xs fs)

least_of : (p : Piece) (f : Form) → least_words p ≤ piece_words p f
least_of (Known i) f = omega arith
least_of (Label l) f = omega arith
least_of (Branch c a b l) f = branch_some f
least_of (Jump l) f = jump_some f
least_of (Row l) f = omega arith
least_of (LabelAddress r l) f = omega arith
least_of (Call name) Near = omega arith
least_of (Call name) Middle = omega arith
least_of (Call name) Far = omega arith
least_of (TailCall name) Near = omega arith
least_of (TailCall name) Middle = omega arith
least_of (TailCall name) Far = omega arith
least_of (SymbolAddress r name) f = omega arith
least_of (ExternalNumber r row) f = omega arith
least_of (Descriptor d) f = omega arith

module _ (code : List ℕ) (n : NameAddresses) where
  -- pieces that are there have all the words that they have in every form
  pub least : (at : ℕ) (ps : List Piece) (fs : List Form) → HasPieces code n at ps fs → words_at_least ps ≤ total_words ps fs
  least at [] fs has = omega arith
  least at (p ∷ ps) [] has = absurd has
  least at (p ∷ ps) (f ∷ fs) has = let rest = least (at + piece_words p f) ps fs has.1 in let own = least_of p f in omega (arith, rest, own)

  -- ---- the first pieces, and the others

  pub has_first : (at : ℕ) (xs ys : List Piece) (fs : List Form) → HasPieces code n at (xs ++ ys) fs → HasPieces code n at xs (take (length xs) fs)
  has_first at [] ys fs has = tt
  has_first at (x ∷ xs) ys [] has = absurd has
  has_first at (x ∷ xs) ys (f ∷ fs) has = (has.0, has_first (at + piece_words x f) xs ys fs has.1)

  pub has_second : (at : ℕ) (xs ys : List Piece) (fs : List Form) → HasPieces code n at (xs ++ ys) fs →
      HasPieces code n (at + total_words xs fs) ys (drop (length xs) fs)
  has_second at [] ys fs has = let e : at ≡ at + 0 = omega arith in subst (λ k. HasPieces code n k ys fs) e has
  has_second at (x ∷ xs) ys [] has = absurd has
  has_second at (x ∷ xs) ys (f ∷ fs) has =
      let e : at + piece_words x f + total_words xs fs ≡ at + (piece_words x f + total_words xs fs) = omega arith in
      subst (λ k. HasPieces code n k ys (drop (length xs) fs)) e (has_second (at + piece_words x f) xs ys fs has.1)

module _ (places : ℕ → ℕ) where
  pub reach_first : (at : ℕ) (xs ys : List Piece) (fs : List Form) → ReachFrom places at (xs ++ ys) fs → ReachFrom places at xs (take (length xs) fs)
  reach_first at [] ys fs reach = tt
  reach_first at (x ∷ xs) ys [] reach = absurd reach
  reach_first at (x ∷ xs) ys (f ∷ fs) reach = (reach.0, reach_first (at + piece_words x f) xs ys fs reach.1)

  pub reach_second : (at : ℕ) (xs ys : List Piece) (fs : List Form) → ReachFrom places at (xs ++ ys) fs →
      ReachFrom places (at + total_words xs fs) ys (drop (length xs) fs)
  reach_second at [] ys fs reach = let e : at ≡ at + 0 = omega arith in subst (λ k. ReachFrom places k ys fs) e reach
  reach_second at (x ∷ xs) ys [] reach = absurd reach
  reach_second at (x ∷ xs) ys (f ∷ fs) reach =
      let e : at + piece_words x f + total_words xs fs ≡ at + (piece_words x f + total_words xs fs) = omega arith in
      subst (λ k. ReachFrom places k ys (drop (length xs) fs)) e (reach_second (at + piece_words x f) xs ys fs reach.1)
