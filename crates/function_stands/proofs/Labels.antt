-- Labels lie where the parts after their marks begin.
use Rattle.std.proofs.Common.{◌≡◌, ℕ, ◌+◌, Bool, true, false, cond, ⊎_elim, List, [], ◌∷◌, ◌++◌, length, drop, Some, refl, sym, ap, ◌∙◌, arith}
use Rattle.std.specs.List.{Contains}
use Rattle.std.proofs.lemmas.Bool.{true≢false}
use Rattle.std.proofs.lemmas.List.Elements.{Contains-append_cases}
use Rattle.rv_emit_rules.specs.Emitted.{descriptor, parts_of_lines}
use Rattle.rv_emit_rules.specs.Entry.{FrameLayout, entry_pieces}
use Rattle.rv_emit_rules.specs.Traversal.{Allows, EachPiece, each_more}
use Rattle.rv_emit_rules.proofs.Traverse.{entry-in, before-in}
use Rattle.rv_layout_rules.specs.declared.form.Form.{Form}
use Rattle.rv_layout_rules.specs.Forms.{is_label_piece, label_from, total_words, piece_words}
use Rattle.rv_layout_rules.specs.Stands.{HasPieces}
use Rattle.rv_layout_rules.specs.Words.{NameAddresses}
use Rattle.lin_ir.specs.Formed.{label_of, labels_in}
use Rattle.lin_ir.specs.Meaning.{after_label, has_label, passes_frame}
use Rattle.lin_ir.specs.declared.descr.Descr.{Descr}
use Rattle.lin_ir.specs.declared.lin.Flow.TheVariants as flow
use Rattle.lin_ir.specs.declared.lin.Line.{Line}
use Rattle.lin_ir.specs.declared.lin.LinOp.{LinOp}
use Rattle.lin_ir.specs.declared.lin.LinOp.TheVariants as lin
use Rattle.lin_ir.specs.declared.lin.Spot.{Spot}
use Rattle.lin_laws.proofs.Places.{after_within}
use Rattle.linearise_rules.proofs.Homes.{in_of}
use Rattle.rv_pieces.specs.declared.piece.Piece.{Piece}
use Rattle.lin_tidy_rules.proofs.Ends.{has_own_label}
use Rattle.function_stands.proofs.Parts.{Place, left_in, part_in, place_first, place_later}
use Rattle.function_stands.proofs.Splitting.{has_second}

-- the label is not at this piece
abbrev pub NoLabel : ℕ → Piece → Type 0
NoLabel l p = is_label_piece l p ≡ false

allows_none : (l : ℕ) (f : LinOp) (d : _) → has_label l f ≡ false → Allows (NoLabel l) f d
allows_none l f d none = record {
  known = λ j h. refl;
  place = λ k is. sym (ap (has_label l) is) ∙ none;
  branch = λ k n c a b. refl;
  jump = λ k n. refl;
  row = λ k n. refl;
  address = λ k n r. refl;
  call = λ name n. refl;
  tail_call = λ name n. refl;
  symbol = λ name n r. refl;
  external = λ row frame e r. refl;
  mark = λ e is. refl;
}

-- what has no such label is passed
pub label_past : (l at : ℕ) (xs ys : List Piece) (fs : List Form) → EachPiece (NoLabel l) xs →
    label_from l at (xs ++ ys) fs ≡ label_from l (at + total_words xs fs) ys (drop (length xs) fs)
label_past l at [] ys fs none = let e : at ≡ at + 0 = omega arith in ap (λ k. label_from l k ys fs) e
label_past l at (x ∷ xs) [] [] none = refl
label_past l at (x ∷ xs) (y ∷ ys) [] none = refl
label_past l at (x ∷ xs) ys (f ∷ fs) (each_more none rest) =
    let e : at + piece_words x f + total_words xs fs ≡ at + (piece_words x f + total_words xs fs) = omega arith in
    ap (λ b. cond b (Some at) (label_from l (at + piece_words x f) (xs ++ ys) fs)) none ∙ label_past l (at + piece_words x f) xs ys fs rest
    ∙ ap (λ k. label_from l k ys (drop (length xs) fs)) e

-- the entry has no label
pub entry_past : (l : ℕ) (f : FrameLayout) → EachPiece (NoLabel l) (entry_pieces f)
entry_past l f = entry-in (NoLabel l) (λ j h. refl) f

module _ (words : List ℕ) (n : NameAddresses) (traps : ℕ → ℕ) (f : FrameLayout) where
  -- a part with the label is its mark alone
  label_here : (l at at' : ℕ) (ds : List Descr) (g : LinOp) (args results : List Spot) (next : List Line) (fs : List Form) → has_label l g ≡ true →
      HasPieces words n at' (parts_of_lines traps f ds (record { op = g; args = args; results = results } ∷ next)) fs →
      label_from l at (parts_of_lines traps f ds (record { op = g; args = args; results = results } ∷ next)) fs
      ≡ Some (at + total_words (part_in traps f ds (record { op = g; args = args; results = results }) next) fs)
  label_here l at at' ds (lin.Flow (flow.Label k)) args results next [] e has = absurd has
  label_here l at at' ds (lin.Flow (flow.Label k)) args results next (g ∷ fs) e has =
      let h : at ≡ at + (0 + 0) = omega arith in
      ap (λ b. cond b (Some at) (label_from l (at + 0) (parts_of_lines traps f ds next) fs)) e ∙ ap Some h
  label_here l at at' ds (lin.Flow (flow.Jump k)) args results next fs e has = absurd (true≢false (sym e))
  label_here l at at' ds (lin.Flow (flow.Exit k)) args results next fs e has = absurd (true≢false (sym e))
  label_here l at at' ds (lin.Flow (flow.Branch t k)) args results next fs e has = absurd (true≢false (sym e))
  label_here l at at' ds (lin.Flow (flow.Switch ks)) args results next fs e has = absurd (true≢false (sym e))
  label_here l at at' ds (lin.Flow (flow.PushTrap k)) args results next fs e has = absurd (true≢false (sym e))
  label_here l at at' ds (lin.Flow flow.PopTrap) args results next fs e has = absurd (true≢false (sym e))
  label_here l at at' ds (lin.Flow flow.EnterTrap) args results next fs e has = absurd (true≢false (sym e))
  label_here l at at' ds (lin.Op g) args results next fs e has = absurd (true≢false (sym e))

  -- The place of a label is that of the part after its mark.
  pub label_place_is : (l at at' : ℕ) (ds : List Descr) (code : List Line) (fs : List Form) → Contains (labels_in code) l →
      HasPieces words n at' (parts_of_lines traps f ds code) fs →
      label_from l at (parts_of_lines traps f ds code) fs ≡ Some (Place traps f ds code fs at (length (after_label l code)))
  label_place_is l at at' ds [] fs c has = elim (in_of l [] c) [ ]
  label_place_is l at at' ds (i ∷ next) fs c has = by (has_label l i.op) refl
      (λ z. label_place_is l (at + total_words part fs) (at' + total_words part fs) (left_in ds i) next left z (has_second words n at' part rest fs has))
    where
      part : List Piece
      part = part_in traps f ds i next

      rest : List Piece
      rest = parts_of_lines traps f (left_in ds i) next

      left : List Form
      left = drop (length part) fs

      later : has_label l i.op ≡ false → Contains (labels_in next) l
      later e =
          let apart = λ (own : Contains (label_of i.op) l). absurd (true≢false (sym (has_own_label l i.op (in_of l (label_of i.op) own)) ∙ e)) in
          ⊎_elim apart (λ z. z) (Contains-append_cases (label_of i.op) (labels_in next) l c)

      by : (b : Bool) → has_label l i.op ≡ b →
          (Contains (labels_in next) l →
          label_from l (at + total_words part fs) rest left
          ≡ Some (Place traps f (left_in ds i) next left (at + total_words part fs) (length (after_label l next)))) →
          label_from l at (part ++ rest) fs ≡ Some (Place traps f ds (i ∷ next) fs at (length (cond b next (after_label l next))))
      by true e go =
          label_here l at at' ds i.op i.args i.results next fs e has
          ∙ ap Some (sym (place_first traps f (left_in ds i) next left (at + total_words part fs)))
          ∙ ap Some (sym (place_later traps f ds i next fs at (length next) (omega arith)))
      by false e go =
          label_past l at part rest fs (before-in (NoLabel l) (descriptor (passes_frame i.op) ds) (traps (length next)) f i next (allows_none l i.op _ e))
          ∙ go (later e)
          ∙ ap Some (sym (place_later traps f ds i next fs at (length (after_label l next)) (after_within l next)))
