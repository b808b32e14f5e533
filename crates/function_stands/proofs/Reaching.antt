-- What reaches its label does so wherever the function is.
use Rattle.std.proofs.Common.{◌≡◌, ℕ, ◌+◌, ◌≤◌, List, [], ◌∷◌, refl, sym, ap, ◌∙◌, subst, arith}
use Rattle.std.proofs.lemmas.Grind.{common_steps}
use Rattle.rv_layout_rules.specs.declared.form.Form.{Form}
use Rattle.rv_layout_rules.specs.Forms.{ReachFrom, branch_form, branch_reaches, jal_reaches, jump_form, none_far, needed_form, form_rank, piece_words}
use Rattle.rv_pieces.specs.declared.piece.Piece.{Piece}
use Rattle.rv_pieces.specs.declared.piece.Piece.TheVariants.{Known, Label, Branch, Jump, Row, LabelAddress, Call, TailCall, SymbolAddress, ExternalNumber, Descriptor}

branch_moved : (b from to : ℕ) → branch_reaches (b + from) (b + to) ≡ branch_reaches from to
branch_moved b from to = grind (arith, common_steps)

jal_moved : (b from to k : ℕ) → jal_reaches (b + from + k) (b + to) ≡ jal_reaches (from + k) to
jal_moved b from to k = grind (arith, common_steps)

branch_form_moved : (b from to : ℕ) → branch_form (b + from) (b + to) ≡ branch_form from to
branch_form_moved b from to = rw (branch_moved b from to, jal_moved b from to 1) refl

jump_form_moved : (b from to : ℕ) → jump_form (b + from) (b + to) ≡ jump_form from to
jump_form_moved b from to = let e : b + from + 0 ≡ b + from = omega arith in let g : from + 0 ≡ from = omega arith in rw (sym e, jal_moved b from to 0, g) refl

module _ (places moved : ℕ → ℕ) (b : ℕ) (same : (l : ℕ) → moved l ≡ b + places l) where
  needed_moved : (at : ℕ) (p : Piece) → needed_form none_far moved (b + at) p ≡ needed_form none_far places at p
  needed_moved at (Known i) = refl
  needed_moved at (Label l) = refl
  needed_moved at (Branch c r s l) = ap (branch_form (b + at)) (same l) ∙ branch_form_moved b at (places l)
  needed_moved at (Jump l) = ap (jump_form (b + at)) (same l) ∙ jump_form_moved b at (places l)
  needed_moved at (Row l) = refl
  needed_moved at (LabelAddress r l) = refl
  needed_moved at (Call name) = refl
  needed_moved at (TailCall name) = refl
  needed_moved at (SymbolAddress r name) = refl
  needed_moved at (ExternalNumber r row) = refl
  needed_moved at (Descriptor d) = refl

  -- all places are later by as many words
  pub reach_moved : (at : ℕ) (ps : List Piece) (fs : List Form) → ReachFrom places at ps fs → ReachFrom moved (b + at) ps fs
  reach_moved at [] [] reach = tt
  reach_moved at [] (f ∷ fs) reach = absurd reach
  reach_moved at (p ∷ ps) [] reach = absurd reach
  reach_moved at (p ∷ ps) (f ∷ fs) reach =
      let e : b + (at + piece_words p f) ≡ b + at + piece_words p f = omega arith in (
        subst (λ g. form_rank g ≤ form_rank f) (sym (needed_moved at p)) reach.0,
        subst (λ k. ReachFrom moved k ps fs) e (reach_moved (at + piece_words p f) ps fs reach.1),
      )
