-- The descriptors of a function's pieces are found in the image at their return addresses.
use Rattle.std.proofs.Common.{◌≡◌, ℕ, zero, suc, ◌+◌, ◌<◌, false, cond, ◌==◌, List, [], ◌∷◌, ◌++◌, Some, refl, ap, ◌∙◌, subst, arith}
use Rattle.std.specs.Prelude.{find, slice_get}
use Rattle.std.proofs.lemmas.Bool.{ne_eqb, eq-eqb}
use Rattle.image_form.specs.Image.{EachNext}
use Rattle.image_form.specs.Tables.{Desc, Tables}
use Rattle.rv_layout_rules.specs.declared.form.Form.{Form}
use Rattle.rv_layout_rules.specs.Forms.{total_words, piece_words}
use Rattle.rv_layout_rules.specs.Laid.{AllReach, descriptor_laid_at, descs_from, descs_in, function_entries_from}
use Rattle.linearise_rules.proofs.Homes.{IsIn, is_first, is_later}
use Rattle.rv_machine.specs.Frames.{descriptor_at}
use Rattle.rv_machine.specs.Memory.{code_start}
use Rattle.rv_pieces.specs.declared.piece.Piece.{Piece}
use Rattle.rv_pieces.specs.declared.piece.Piece.TheVariants.{Known, Label, Branch, Jump, Row, LabelAddress, Call, TailCall, SymbolAddress, ExternalNumber, Descriptor}
use Rattle.rv_pieces.specs.declared.piece.Pieces.{Pieces}
use Rattle.function_stands.proofs.Parts.{AreFound}

-- ---- one among those whose return addresses rise

abbrev Rising : List Desc → Type 0
Rising ds = EachNext (λ (a b : Desc). a.after < b.after) ds

above : (x : Desc) (xs : List Desc) → Rising (x ∷ xs) → (d : Desc) → IsIn d xs → x.after < d.after
above x [] rises d z = elim z [ ]
above x (y ∷ ys) rises y' is_first = rises.0
above x (y ∷ ys) rises d (is_later z) = let h = above y ys rises.1 d z in let k = rises.0 in omega (arith, h, k)

pub found_at : (ds : List Desc) (d : Desc) → Rising ds → IsIn d ds → descriptor_at ds (code_start + d.after) ≡ Some d
found_at [] d rises z = elim z [ ]
found_at (x ∷ xs) x' rises is_first =
    ap (λ b. cond b (Some x) (find (λ (e : Desc). code_start + e.after == code_start + x.after) xs)) (eq-eqb (code_start + x.after) (code_start + x.after) refl)
found_at (x ∷ xs) d rises (is_later z) =
    let less = above x xs rises d z in
    let apart : code_start + x.after == code_start + d.after ≡ false =
    ne_eqb (code_start + x.after) (code_start + d.after) (λ e. absurd (omega (arith, less, e))) in
    ap (λ b. cond b (Some x) (find (λ (e : Desc). code_start + e.after == code_start + d.after) xs)) apart ∙ found_at xs d rises.1 z

-- ---- those of pieces

module _ (image : Tables) (rises : Rising image.descs) where
  pub all_found : (at : ℕ) (ps : List Piece) (fs : List Form) → ((d : Desc) → IsIn d (descs_in at ps fs) → IsIn d image.descs) → AreFound image at ps fs
  all_found at [] fs among = tt
  all_found at (p ∷ ps) [] among = tt
  all_found at (Descriptor d ∷ ps) (f ∷ fs) among =
      let e : at ≡ at + 0 = omega arith in (
        found_at image.descs (descriptor_laid_at at d) rises (among (descriptor_laid_at at d) is_first),
        subst (λ k. AreFound image k ps fs) e (all_found at ps fs (λ x z. among x (is_later z))),
      )
  all_found at (Known i ∷ ps) (f ∷ fs) among = (tt, all_found (at + piece_words (Known i) f) ps fs among)
  all_found at (Label l ∷ ps) (f ∷ fs) among = (tt, all_found (at + piece_words (Label l) f) ps fs among)
  all_found at (Branch c a b l ∷ ps) (f ∷ fs) among = (tt, all_found (at + piece_words (Branch c a b l) f) ps fs among)
  all_found at (Jump l ∷ ps) (f ∷ fs) among = (tt, all_found (at + piece_words (Jump l) f) ps fs among)
  all_found at (Row l ∷ ps) (f ∷ fs) among = (tt, all_found (at + piece_words (Row l) f) ps fs among)
  all_found at (LabelAddress r l ∷ ps) (f ∷ fs) among = (tt, all_found (at + piece_words (LabelAddress r l) f) ps fs among)
  all_found at (Call name ∷ ps) (f ∷ fs) among = (tt, all_found (at + piece_words (Call name) f) ps fs among)
  all_found at (TailCall name ∷ ps) (f ∷ fs) among = (tt, all_found (at + piece_words (TailCall name) f) ps fs among)
  all_found at (SymbolAddress r name ∷ ps) (f ∷ fs) among = (tt, all_found (at + piece_words (SymbolAddress r name) f) ps fs among)
  all_found at (ExternalNumber r row ∷ ps) (f ∷ fs) among = (tt, all_found (at + piece_words (ExternalNumber r row) f) ps fs among)

-- ---- those of a function among those of all

-- The forms and the place of function k, and its descriptors among all.
pub record Shares (at : ℕ) (ps : List Pieces) (forms : List (List Form)) (k : ℕ) (p : Pieces) : Type 0 where
  pub of : List Form
  pub chosen : slice_get forms k ≡ Some of
  pub place : ℕ
  pub entry : slice_get (function_entries_from at ps forms) k ≡ Some place
  pub among : (d : Desc) → IsIn d (descs_in place p.code of) → IsIn d (descs_from at ps forms)

in_front : {d : Desc} (xs ys : List Desc) → IsIn d xs → IsIn d (xs ++ ys)
in_front [] ys z = elim z [ ]
in_front (x ∷ xs) ys is_first = is_first
in_front (x ∷ xs) ys (is_later z) = is_later (in_front xs ys z)

in_back : {d : Desc} (xs ys : List Desc) → IsIn d ys → IsIn d (xs ++ ys)
in_back [] ys z = z
in_back (x ∷ xs) ys z = is_later (in_back xs ys z)

pub shares : (at : ℕ) (ps : List Pieces) (forms : List (List Form)) (k : ℕ) (p : Pieces) → AllReach ps forms → slice_get ps k ≡ Some p →
    Shares at ps forms k p
shares at [] forms k p are is = cc
shares at (q ∷ ps) [] k p are is = absurd are
shares at (q ∷ ps) (g ∷ forms) zero p are is =
    let same : q ≡ p = cc in
    let it : Shares at (q ∷ ps) (g ∷ forms) zero q = record {
      of = g;
      chosen = refl;
      place = at;
      entry = refl;
      among = λ d z. in_front (descs_in at q.code g) (descs_from (at + total_words q.code g) ps forms) z;
    } in
    subst (Shares at (q ∷ ps) (g ∷ forms) zero) same it
shares at (q ∷ ps) (g ∷ forms) (suc k) p are is =
    let rest = shares (at + total_words q.code g) ps forms k p are.1 is in
    record {
      of = rest.of;
      chosen = rest.chosen;
      place = rest.place;
      entry = rest.entry;
      among = λ d z. in_back (descs_in at q.code g) (descs_from (at + total_words q.code g) ps forms) (rest.among d z);
    }
