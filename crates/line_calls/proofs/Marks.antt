-- A part with a descriptor in it: what is before it and what is after it.
use Rattle.std.proofs.Common.{◌≡◌, ℕ, ◌+◌, ◌<◌, List, [], ◌∷◌, ◌++◌, append_assoc, length, Some, arith, subst}
use Rattle.rv_layout_rules.specs.declared.form.Form.{Form}
use Rattle.rv_layout_rules.specs.Forms.{ReachFrom, total_words, piece_words}
use Rattle.rv_layout_rules.specs.Laid.{address_of_place, descriptor_laid_at}
use Rattle.rv_layout_rules.specs.Stands.{HasPieces}
use Rattle.rv_layout_rules.specs.Words.{NameAddresses}
use Rattle.lin_ir.specs.declared.descr.Descr.{Descr}
use Rattle.rv_machine.specs.Frames.{descriptor_at}
use Rattle.rv_pieces.specs.declared.piece.Piece.{Piece}
use Rattle.rv_pieces.specs.declared.piece.Piece.TheVariants.{Descriptor}
use Rattle.lin_machine.specs.View.{Fixed}
use Rattle.line_stands.specs.Parts.{PartStands, label_place}
use Rattle.line_stands.proofs.Parts.{mark_none}
use Rattle.line_calls.specs.Points.{AreMarked}

module _ (s : Fixed) (n : NameAddresses) where
  pub record Marked (at to : ℕ) (xs : List Piece) (d : Descr) (ys : List Piece) : Type 0 where
    pub middle : ℕ
    pub first : PartStands s n at middle xs
    pub there : descriptor_at s.image.descs (address_of_place middle) ≡ Some (descriptor_laid_at middle d)
    pub inside : middle < length s.image.code
    pub second : PartStands s n middle to ys

  marked_by : (xs ys : List Piece) (d : Descr) (forms : List Form) (at to : ℕ) → HasPieces s.image.code n at (xs ++ Descriptor d ∷ ys) forms →
      ReachFrom (label_place n) at (xs ++ Descriptor d ∷ ys) forms → to ≡ at + total_words (xs ++ Descriptor d ∷ ys) forms →
      AreMarked s at (xs ++ Descriptor d ∷ ys) forms → Marked at to xs d ys
  marked_by [] ys d [] at to has reach past marks = absurd has
  marked_by [] ys d (f ∷ forms) at to has reach past marks = record {
    middle = at;
    first = record { forms = []; has = tt; reach = tt; past = omega arith };
    there = marks.0.0;
    inside = marks.0.1;
    second = mark_none s n at to d ys (record { forms = f ∷ forms; has = has; reach = reach; past = past });
  }
  marked_by (x ∷ xs) ys d [] at to has reach past marks = absurd has
  marked_by (x ∷ xs) ys d (f ∷ forms) at to has reach past marks =
      let rest = marked_by xs ys d forms (at + piece_words x f) to has.1 reach.1 (omega (arith, past)) marks.1 in
      let e = rest.first.past in
      record {
        middle = rest.middle;
        first = record {
          forms = f ∷ rest.first.forms;
          has = (has.0, rest.first.has);
          reach = (reach.0, rest.first.reach);
          past = omega (arith, e);
        };
        there = rest.there;
        inside = rest.inside;
        second = rest.second;
      }

  pub marked : (at to : ℕ) (xs ys : List Piece) (d : Descr) (p : PartStands s n at to (xs ++ Descriptor d ∷ ys)) →
      AreMarked s at (xs ++ Descriptor d ∷ ys) p.forms → Marked at to xs d ys
  marked at to xs ys d p marks = marked_by xs ys d p.forms at to p.has p.reach p.past marks

  -- where what is after the descriptor is written last
  pub marked_between : (at to : ℕ) (xs ys : List Piece) (d : Descr) (p : PartStands s n at to (xs ++ Descriptor d ∷ [] ++ ys)) →
      AreMarked s at (xs ++ Descriptor d ∷ [] ++ ys) p.forms → Marked at to xs d ys
  marked_between at to xs ys d p marks =
      let e = append_assoc xs (Descriptor d ∷ []) ys in
      marked_by xs ys d p.forms at to (subst (λ ps. HasPieces s.image.code n at ps p.forms) e p.has)
      (subst (λ ps. ReachFrom (label_place n) at ps p.forms) e p.reach) (subst (λ ps. to ≡ at + total_words ps p.forms) e p.past)
      (subst (λ ps. AreMarked s at ps p.forms) e marks)
