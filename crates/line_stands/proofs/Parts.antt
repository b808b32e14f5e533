-- Parts are read piece by piece.
use Rattle.std.proofs.Common.{◌≡◌, ℕ, ◌+◌, ◌≤◌, List, [], ◌∷◌, ◌++◌, arith, subst, sym}
use Rattle.rv_layout_rules.specs.Forms.{ReachFrom, none_far, needed_form, form_rank, total_words, piece_words}
use Rattle.rv_layout_rules.specs.Laid.{address_of_place}
use Rattle.rv_layout_rules.specs.Stands.{HasPieces}
use Rattle.rv_layout_rules.specs.Stands as layout
use Rattle.rv_layout_rules.specs.Words.{NameAddresses, instructions_of_piece}
use Rattle.rv_layout_rules.specs.declared.form.Form.{Form}
use Rattle.lin_ir.specs.declared.descr.Descr.{Descr}
use Rattle.rv_isa.specs.declared.instr.Instr.{Instr}
use Rattle.rv_pieces.specs.declared.piece.Piece.{Piece}
use Rattle.rv_pieces.specs.declared.piece.Piece.TheVariants.{Descriptor, Known, Label}
use Rattle.lin_machine.specs.View.{Fixed, HasCode, IsInstructionAt}
use Rattle.line_stands.specs.Parts.{PartStands, label_place}

module _ (s : Fixed) (n : NameAddresses) where
  -- instructions that are in the image's code
  pub code_stands : (at : ℕ) (is : List Instr) → layout.HasEncodings s.image.code at is → HasCode s at is
  code_stands at [] h = tt
  code_stands at (i ∷ is) h = (record { there = h.0; fits = h.1 }, code_stands (at + 1) is h.2)

  -- ---- one part after another

  -- the first pieces are up to a place, and the others from it on
  pub record Splits (at to : ℕ) (xs ys : List Piece) : Type 0 where
    pub middle : ℕ
    pub first : PartStands s n at middle xs
    pub second : PartStands s n middle to ys

  splits_by : (xs ys : List Piece) (forms : List Form) (at to : ℕ) → HasPieces s.image.code n at (xs ++ ys) forms →
      ReachFrom (label_place n) at (xs ++ ys) forms → to ≡ at + total_words (xs ++ ys) forms → Splits at to xs ys
  splits_by [] ys forms at to has reach past = record {
    middle = at;
    first = record { forms = []; has = tt; reach = tt; past = omega arith };
    second = record { forms = forms; has = has; reach = reach; past = past };
  }
  splits_by (x ∷ xs) ys [] at to has reach past = absurd has
  splits_by (x ∷ xs) ys (f ∷ forms) at to has reach past =
      let rest = splits_by xs ys forms (at + piece_words x f) to has.1 reach.1 (omega (arith, past)) in
      let e = rest.first.past in
      record {
        middle = rest.middle;
        first = record {
          forms = f ∷ rest.first.forms;
          has = (has.0, rest.first.has);
          reach = (reach.0, rest.first.reach);
          past = omega (arith, e);
        };
        second = rest.second;
      }

  pub splits : (at to : ℕ) (xs ys : List Piece) → PartStands s n at to (xs ++ ys) → Splits at to xs ys
  splits at to xs ys p = splits_by xs ys p.forms at to p.has p.reach p.past

  -- ---- one piece

  -- the first piece is in a form that reaches, and the others after it
  pub record Begins (at to : ℕ) (x : Piece) (ys : List Piece) : Type 0 where
    pub form : Form
    pub code : HasCode s at (instructions_of_piece n (address_of_place at) x form)
    pub reaches : form_rank (needed_form none_far (label_place n) at x) ≤ form_rank form
    pub rest : PartStands s n (at + piece_words x form) to ys

  begins_by : (x : Piece) (ys : List Piece) (forms : List Form) (at to : ℕ) → HasPieces s.image.code n at (x ∷ ys) forms →
      ReachFrom (label_place n) at (x ∷ ys) forms → to ≡ at + total_words (x ∷ ys) forms → Begins at to x ys
  begins_by x ys [] at to has reach past = absurd has
  begins_by x ys (f ∷ forms) at to has reach past = record {
    form = f;
    code = code_stands at (instructions_of_piece n (address_of_place at) x f) has.0;
    reaches = reach.0;
    rest = record { forms = forms; has = has.1; reach = reach.1; past = omega (arith, past) };
  }

  pub begins : (at to : ℕ) (x : Piece) (ys : List Piece) → PartStands s n at to (x ∷ ys) → Begins at to x ys
  begins at to x ys p = begins_by x ys p.forms at to p.has p.reach p.past

  -- an instruction is one word
  pub known : (at to : ℕ) (i : Instr) (ys : List Piece) → PartStands s n at to (Known i ∷ ys) → IsInstructionAt s at i × PartStands s n (at + 1) to ys
  known at to i ys p = let b = begins at to (Known i) ys p in (b.code.0, b.rest)

  -- marks have no words
  pub label_none : (at to l : ℕ) (ys : List Piece) → PartStands s n at to (Label l ∷ ys) → PartStands s n at to ys
  label_none at to l ys p =
      let b = begins at to (Label l) ys p in
      let e : at + piece_words (Label l) b.form ≡ at = omega arith in
      subst (λ k. PartStands s n k to ys) e b.rest

  pub mark_none : (at to : ℕ) (d : Descr) (ys : List Piece) → PartStands s n at to (Descriptor d ∷ ys) → PartStands s n at to ys
  mark_none at to d ys p =
      let b = begins at to (Descriptor d) ys p in
      let e : at + piece_words (Descriptor d) b.form ≡ at = omega arith in
      subst (λ k. PartStands s n k to ys) e b.rest

  -- no pieces
  nothing_by : (forms : List Form) (at to : ℕ) → HasPieces s.image.code n at [] forms → to ≡ at + total_words [] forms → to ≡ at
  nothing_by [] at to has past = omega (arith, past)
  nothing_by (f ∷ forms) at to has past = absurd has

  pub nothing_more : (at to : ℕ) → PartStands s n at to [] → to ≡ at
  nothing_more at to p = nothing_by p.forms at to p.has p.past

  -- ---- by numbers of words

  -- the first pieces have so many words, and the others so many after them
  pub record Counts (at k : ℕ) (xs ys : List Piece) : Type 0 where
    pub own : ℕ
    pub others : ℕ
    pub sum : k ≡ own + others
    pub first : PartStands s n at (at + own) xs
    pub second : PartStands s n (at + own) (at + own + others) ys

  pub counts : (at k : ℕ) (xs ys : List Piece) → PartStands s n at (at + k) (xs ++ ys) → Counts at k xs ys
  counts at k xs ys p =
      let q = splits at (at + k) xs ys p in
      let e = q.first.past in
      let f = q.second.past in
      let own : ℕ = total_words xs q.first.forms in
      let others : ℕ = total_words ys q.second.forms in
      let to : at + own + others ≡ at + k = omega (arith, e, f) in
      record {
        own = total_words xs q.first.forms;
        others = total_words ys q.second.forms;
        sum = omega (arith, e, f);
        first = subst (λ z. PartStands s n at z xs) e q.first;
        second = subst (λ z. PartStands s n z (at + own + others) ys) e (subst (λ z. PartStands s n q.middle z ys) (sym to) q.second);
      }

  -- one instruction, and so many words after it
  pub record Leads (at k : ℕ) (i : Instr) (ys : List Piece) : Type 0 where
    pub others : ℕ
    pub sum : k ≡ 1 + others
    pub code : IsInstructionAt s at i
    pub rest : PartStands s n (at + 1) (at + 1 + others) ys

  pub leads : (at k : ℕ) (i : Instr) (ys : List Piece) → PartStands s n at (at + k) (Known i ∷ ys) → Leads at k i ys
  leads at k i ys p =
      let q = known at (at + k) i ys p in
      let e = q.1.past in
      let others : ℕ = total_words ys q.1.forms in
      let to : at + 1 + others ≡ at + k = omega (arith, e) in
      record {
        others = total_words ys q.1.forms;
        sum = omega (arith, e);
        code = q.0;
        rest = subst (λ z. PartStands s n (at + 1) z ys) (sym to) q.1;
      }

  pub none_left : (at k : ℕ) → PartStands s n at (at + k) [] → k ≡ 0
  none_left at k p = let e = nothing_more at (at + k) p in omega (arith, e)

  -- the last one
  pub last : (at k : ℕ) (i : Instr) → PartStands s n at (at + k) (Known i ∷ []) → IsInstructionAt s at i × (k ≡ 1)
  last at k i p =
      let q = leads at k i [] p in
      let e = q.sum in
      let f = none_left (at + 1) q.others q.rest in
      (q.code, omega (arith, e, f))

  -- one piece, and so many words after it
  pub record Starts (at k : ℕ) (x : Piece) (ys : List Piece) : Type 0 where
    pub form : Form
    pub code : HasCode s at (instructions_of_piece n (address_of_place at) x form)
    pub reaches : form_rank (needed_form none_far (label_place n) at x) ≤ form_rank form
    pub others : ℕ
    pub sum : k ≡ piece_words x form + others
    pub rest : PartStands s n (at + piece_words x form) (at + piece_words x form + others) ys

  pub starts : (at k : ℕ) (x : Piece) (ys : List Piece) → PartStands s n at (at + k) (x ∷ ys) → Starts at k x ys
  starts at k x ys p =
      let b = begins at (at + k) x ys p in
      let e = b.rest.past in
      let others : ℕ = total_words ys b.rest.forms in
      let to : at + piece_words x b.form + others ≡ at + k = omega (arith, e) in
      record {
        form = b.form;
        code = b.code;
        reaches = b.reaches;
        others = total_words ys b.rest.forms;
        sum = omega (arith, e);
        rest = subst (λ z. PartStands s n (at + piece_words x b.form) z ys) (sym to) b.rest;
      }
