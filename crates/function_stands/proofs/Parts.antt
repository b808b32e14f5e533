-- Where the parts of a function's lines lie, one after the other.
use Rattle.std.proofs.Common.{◌≡◌, ℕ, suc, ◌+◌, ◌≤◌, Bool, true, false, cond, nat_lt, nat_eq, List, [], ◌∷◌, ◌++◌, length, take, drop, Option, Some, None, refl, sym, ap, ◌∙◌, subst, arith}
use Rattle.std.proofs.lemmas.Bool.{le-ltb, lt-ltb, ltb-false, eq-eqb}
use Rattle.rv_emit_rules.specs.Emitted.{descriptor, left_after, part_before, parts_of_lines}
use Rattle.rv_emit_rules.specs.Entry.{FrameLayout}
use Rattle.rv_layout_rules.specs.declared.form.Form.{Form}
use Rattle.rv_layout_rules.specs.Forms.{ReachFrom, total_words, piece_words}
use Rattle.rv_layout_rules.specs.Laid.{address_of_place, descriptor_laid_at}
use Rattle.rv_layout_rules.specs.Stands.{HasPieces}
use Rattle.rv_layout_rules.specs.Words.{NameAddresses}
use Rattle.lin_ir.specs.Meaning.{passes_frame}
use Rattle.lin_ir.specs.Walks.{StandsAsLine, here, below}
use Rattle.lin_ir.specs.declared.descr.Descr.{Descr}
use Rattle.lin_ir.specs.declared.lin.Line.{Line}
use Rattle.rv_machine.specs.Frames.{descriptor_at}
use Rattle.rv_pieces.specs.declared.piece.Piece.{Piece}
use Rattle.rv_pieces.specs.declared.piece.Piece.TheVariants.{Descriptor}
use Rattle.image_form.specs.Tables.{Tables}
use Rattle.lin_machine.specs.View.{Fixed}
use Rattle.line_calls.specs.Known.{PartStands, label_place}
use Rattle.lin_tidy_rules.proofs.TurningShape.{not_same}
use Rattle.function_stands.proofs.Splitting.{has_first, has_second, reach_first, reach_second, words_both, words_first}

-- ---- places

-- the part of the first of these lines
abbrev pub part_in : (traps : ℕ → ℕ) → FrameLayout → List Descr → Line → (next : List Line) → List Piece
part_in traps f ds i next = part_before (traps (length next)) f (descriptor (passes_frame i.op) ds) i next

abbrev pub left_in : List Descr → Line → List Descr
left_in ds i = left_after (passes_frame i.op) ds

-- the place of the part of the line with so many lines from it on, where the parts of these lines
-- are from `at` on
abbrev pub place_of_part : (traps : ℕ → ℕ) → FrameLayout → List Descr → List Line → List Form → (at k : ℕ) → ℕ
place_of_part traps f ds [] fs at k = at
place_of_part traps f ds (i ∷ next) fs at k =
    cond (nat_lt (length next) k) at
    (place_of_part traps f (left_in ds i) next (drop (length (part_in traps f ds i next)) fs) (at + total_words (part_in traps f ds i next) fs) k)

-- the descriptor of the line with so many lines after it
abbrev pub descriptor_of : List Descr → List Line → (k : ℕ) → Option Descr
descriptor_of ds [] k = None
descriptor_of ds (i ∷ next) k = cond (nat_eq (length next) k) (descriptor (passes_frame i.op) ds) (descriptor_of (left_in ds i) next k)

-- ---- numbers

pub shorter : {i : Line} {next code : List Line} → StandsAsLine i next code → suc (length next) ≤ length code
shorter here = omega arith
shorter (below s) = let h = shorter s in omega (arith, h)

-- ---- marks

-- each descriptor among the pieces is found in the image
abbrev pub IsFound : Tables → (at : ℕ) → Piece → Type 0
IsFound image at (Descriptor d) = descriptor_at image.descs (address_of_place at) ≡ Some (descriptor_laid_at at d)
IsFound image at _ = Unit {0}

abbrev pub AreFound : Tables → (at : ℕ) → List Piece → List Form → Type 0
AreFound image at [] fs = Unit {0}
AreFound image at (p ∷ ps) [] = Unit {0}
AreFound image at (p ∷ ps) (f ∷ fs) = IsFound image at p × AreFound image (at + piece_words p f) ps fs

module _ (image : Tables) where
  pub found_first : (at : ℕ) (xs ys : List Piece) (fs : List Form) → AreFound image at (xs ++ ys) fs → AreFound image at xs (take (length xs) fs)
  found_first at [] ys fs found = tt
  found_first at (x ∷ xs) ys [] found = tt
  found_first at (x ∷ xs) ys (f ∷ fs) found = (found.0, found_first (at + piece_words x f) xs ys fs found.1)

  found_none : (at : ℕ) (ps : List Piece) → AreFound image at ps []
  found_none at [] = tt
  found_none at (p ∷ ps) = tt

  pub found_second : (at : ℕ) (xs ys : List Piece) (fs : List Form) → AreFound image at (xs ++ ys) fs →
      AreFound image (at + total_words xs fs) ys (drop (length xs) fs)
  found_second at [] ys fs found = let e : at ≡ at + 0 = omega arith in subst (λ k. AreFound image k ys fs) e found
  found_second at (x ∷ xs) ys [] found = found_none (at + 0) ys
  found_second at (x ∷ xs) ys (f ∷ fs) found =
      let e : at + piece_words x f + total_words xs fs ≡ at + (piece_words x f + total_words xs fs) = omega arith in
      subst (λ k. AreFound image k ys (drop (length xs) fs)) e (found_second (at + piece_words x f) xs ys fs found.1)

-- ---- parts

-- the pieces are there, and their descriptors are found
pub record PartFound (s : Fixed) (n : NameAddresses) (at to : ℕ) (ps : List Piece) : Type 0 where
  pub part : PartStands s n at to ps
  pub found : AreFound s.image at ps part.forms

module _ (traps : ℕ → ℕ) (f : FrameLayout) where
  abbrev pub Place : List Descr → List Line → List Form → (at k : ℕ) → ℕ
  Place ds code fs at k = place_of_part traps f ds code fs at k

  pub place_first : (ds : List Descr) (code : List Line) (fs : List Form) (at : ℕ) → Place ds code fs at (length code) ≡ at
  place_first ds [] fs at = refl
  place_first ds (i ∷ next) fs at =
      let part = part_in traps f ds i next in
      ap (λ b. cond b at (Place (left_in ds i) next (drop (length part) fs) (at + total_words part fs) (suc (length next))))
      (lt-ltb (length next) (suc (length next)) (omega arith))

  pub place_later : (ds : List Descr) (i : Line) (next : List Line) (fs : List Form) (at k : ℕ) → k ≤ length next →
      Place ds (i ∷ next) fs at k
      ≡ Place (left_in ds i) next (drop (length (part_in traps f ds i next)) fs) (at + total_words (part_in traps f ds i next) fs) k
  place_later ds i next fs at k h =
      let part = part_in traps f ds i next in
      ap (λ b. cond b at (Place (left_in ds i) next (drop (length part) fs) (at + total_words part fs) k)) (le-ltb (length next) k h)

  -- a place lies between the first one and the end
  cond_within : (b : Bool) (low high x y : ℕ) → (low ≤ x) × (x ≤ high) → (low ≤ y) × (y ≤ high) → (low ≤ cond b x y) × (cond b x y ≤ high)
  cond_within true low high x y h k = h
  cond_within false low high x y h k = k

  pub place_within : (ds : List Descr) (code : List Line) (fs : List Form) (at k : ℕ) →
      (at ≤ Place ds code fs at k) × (Place ds code fs at k ≤ at + total_words (parts_of_lines traps f ds code) fs)
  place_within ds [] fs at k = (omega arith, omega arith)
  place_within ds (i ∷ next) fs at k =
      let part = part_in traps f ds i next in
      let rest = parts_of_lines traps f (left_in ds i) next in
      let both = words_both part rest fs in
      let later = place_within (left_in ds i) next (drop (length part) fs) (at + total_words part fs) k in
      let low = later.0 in
      let high = later.1 in
      cond_within (nat_lt (length next) k) at (at + total_words (part ++ rest) fs) at
      (Place (left_in ds i) next (drop (length part) fs) (at + total_words part fs) k)
      (omega arith, omega arith) (omega (arith, low), omega (arith, high, both))

  -- after a part without words is no other place
  pub place_stays : {i : Line} {next : List Line} (ds : List Descr) (code : List Line) (fs : List Form) (at : ℕ) → StandsAsLine i next code →
      ((d : Option Descr) (gs : List Form) → total_words (part_before (traps (length next)) f d i next) gs ≡ 0) →
      Place ds code fs at (length next) ≡ Place ds code fs at (suc (length next))
  place_stays ds [] fs at stands none = elim stands [ ]
  place_stays ds (i ∷ next) fs at here none =
      let part = part_in traps f ds i next in
      let own = none (descriptor (passes_frame i.op) ds) fs in
      let begin = place_first ds (i ∷ next) fs at in
      let later = place_later ds i next fs at (length next) (omega arith) in
      let end = place_first (left_in ds i) next (drop (length part) fs) (at + total_words part fs) in
      omega (arith, own, begin, later, end)
  place_stays {next = next} ds (j ∷ is) fs at (below stands) none =
      let part = part_in traps f ds j is in
      let h = shorter stands in
      place_later ds j is fs at (length next) (omega (arith, h))
      ∙ place_stays (left_in ds j) is (drop (length part) fs) (at + total_words part fs) stands none
      ∙ sym (place_later ds j is fs at (suc (length next)) h)

  -- the fewer lines are left, the later is the place
  pub place_rises : (ds : List Descr) (code : List Line) (fs : List Form) (at fewer more : ℕ) → fewer ≤ more →
      Place ds code fs at more ≤ Place ds code fs at fewer
  place_rises ds [] fs at fewer more h = omega arith
  place_rises ds (i ∷ next) fs at fewer more h =
      by (nat_lt (length next) more) refl (place_within ds (i ∷ next) fs at fewer).0 (place_rises (left_in ds i) next left later fewer more h)
    where
      left : List Form
      left = drop (length (part_in traps f ds i next)) fs

      later : ℕ
      later = at + total_words (part_in traps f ds i next) fs

      by : (b : Bool) → nat_lt (length next) more ≡ b → at ≤ Place ds (i ∷ next) fs at fewer →
          Place (left_in ds i) next left later more ≤ Place (left_in ds i) next left later fewer →
          cond b at (Place (left_in ds i) next left later more) ≤ Place ds (i ∷ next) fs at fewer
      by true e low rest = low
      by false e low rest =
          let few : more ≤ length next = ltb-false (length next) more e in
          let same = place_later ds i next fs at fewer (omega (arith, few, h)) in
          omega (arith, rest, same)

  -- from a later start each place is later by as much
  pub place_moved : (ds : List Descr) (code : List Line) (fs : List Form) (b at k : ℕ) → Place ds code fs (b + at) k ≡ b + Place ds code fs at k
  place_moved ds [] fs b at k = refl
  place_moved ds (i ∷ next) fs b at k = by (nat_lt (length next) k) (place_moved (left_in ds i) next left b (at + words) k)
    where
      words : ℕ
      words = total_words (part_in traps f ds i next) fs

      left : List Form
      left = drop (length (part_in traps f ds i next)) fs

      by : (t : Bool) → Place (left_in ds i) next left (b + (at + words)) k ≡ b + Place (left_in ds i) next left (at + words) k →
          cond t (b + at) (Place (left_in ds i) next left (b + at + words) k) ≡ b + cond t at (Place (left_in ds i) next left (at + words) k)
      by true e = refl
      by false e =
          let same : b + at + words ≡ b + (at + words) = omega arith in
          ap (λ x. Place (left_in ds i) next left x k) same ∙ e

module _ (s : Fixed) (n : NameAddresses) (traps : ℕ → ℕ) (f : FrameLayout) where
  -- the part of each line is from its place up to that of the next line's
  pub line_part : {i : Line} {next : List Line} (ds : List Descr) (code : List Line) (fs : List Form) (at : ℕ) → StandsAsLine i next code →
      HasPieces s.image.code n at (parts_of_lines traps f ds code) fs → ReachFrom (label_place n) at (parts_of_lines traps f ds code) fs →
      AreFound s.image at (parts_of_lines traps f ds code) fs →
      PartFound s n (Place traps f ds code fs at (suc (length next))) (Place traps f ds code fs at (length next))
      (part_before (traps (length next)) f (descriptor_of ds code (length next)) i next)
  line_part ds [] fs at stands has reach found = elim stands [ ]
  line_part ds (i ∷ next) fs at here has reach found =
      let part = part_in traps f ds i next in
      let rest = parts_of_lines traps f (left_in ds i) next in
      let it : PartFound s n at (at + total_words part fs) part = record {
        part = record {
          forms = take (length part) fs;
          has = has_first s.image.code n at part rest fs has;
          reach = reach_first (label_place n) at part rest fs reach;
          past = ap (λ k. at + k) (sym (words_first part fs));
        };
        found = found_first s.image at part rest fs found;
      } in
      let begin = place_first traps f ds (i ∷ next) fs at in
      let end = place_later traps f ds i next fs at (length next) (omega arith) ∙ place_first traps f (left_in ds i) next (drop (length part) fs) (at + total_words part fs) in
      let own : descriptor_of ds (i ∷ next) (length next) ≡ descriptor (passes_frame i.op) ds =
      ap (λ b. cond b (descriptor (passes_frame i.op) ds) (descriptor_of (left_in ds i) next (length next))) (eq-eqb (length next) (length next) refl) in
      let placed = subst (λ a. PartFound s n a (at + total_words part fs) part) (sym begin) it in
      let ended = subst (λ b. PartFound s n (Place traps f ds (i ∷ next) fs at (suc (length next))) b part) (sym end) placed in
      subst (λ d. PartFound s n (Place traps f ds (i ∷ next) fs at (suc (length next))) (Place traps f ds (i ∷ next) fs at (length next))
      (part_before (traps (length next)) f d i next)) (sym own) ended
  line_part {i} {next} ds (j ∷ is) fs at (below stands) has reach found =
      let part = part_in traps f ds j is in
      let rest = parts_of_lines traps f (left_in ds j) is in
      let left = drop (length part) fs in
      let h = shorter stands in
      let it = line_part (left_in ds j) is left (at + total_words part fs) stands (has_second s.image.code n at part rest fs has)
      (reach_second (label_place n) at part rest fs reach) (found_second s.image at part rest fs found) in
      let begin = place_later traps f ds j is fs at (suc (length next)) h in
      let end = place_later traps f ds j is fs at (length next) (omega (arith, h)) in
      let own : descriptor_of ds (j ∷ is) (length next) ≡ descriptor_of (left_in ds j) is (length next) =
      ap (λ b. cond b (descriptor (passes_frame j.op) ds) (descriptor_of (left_in ds j) is (length next))) (not_same (length is) (length next) h) in
      let line = part_before (traps (length next)) f (descriptor_of (left_in ds j) is (length next)) i next in
      let placed = subst (λ a. PartFound s n a (Place traps f (left_in ds j) is left (at + total_words part fs) (length next)) line) (sym begin) it in
      let ended = subst (λ b. PartFound s n (Place traps f ds (j ∷ is) fs at (suc (length next))) b line) (sym end) placed in
      subst (λ d. PartFound s n (Place traps f ds (j ∷ is) fs at (suc (length next))) (Place traps f ds (j ∷ is) fs at (length next))
      (part_before (traps (length next)) f d i next)) (sym own) ended
