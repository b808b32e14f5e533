-- The code of all functions, of the code of each.
use Rattle.std.proofs.Common.{◌≡◌, ℕ, suc, ◌+◌, List, [], ◌∷◌, ◌++◌, Some, length, map, get_or, refl, sym, ap, ap₂, subst, arith}
use Rattle.std.specs.Prelude.{slice_get}
use Rattle.std.specs.List.{flat_map}
use Rattle.assemble.specs.Code.{IsAssembledCode, IsCodeAt}
use Rattle.function_places.specs.Places.{forms_in}
use Rattle.assemble.specs.Source.{IsSource, tree_of, source_entries}
use Rattle.assemble.specs.declared.code.Code.{Code}
use Rattle.assemble.specs.declared.source.Source.{Source}
use Rattle.assemble.proofs.Bounds.{zip_length}
use Rattle.fork_join.specs.Calls.{AreGiven, AreGivenFrom}
use Rattle.image_form.specs.Image.{stub_words}
use Rattle.image_form.specs.Tables.{Desc, desc}
use Rattle.rv_layout_rules.specs.declared.form.Form.{Form}
use Rattle.rv_layout_rules.specs.Forms.{total_words}
use Rattle.rv_layout_rules.specs.Laid.{function_entries_from, code_from, descs_from}
use Rattle.rv_pieces.specs.declared.piece.Pieces.{Pieces}

-- the parts are the code of these functions, the first of which begins here
abbrev pub AreCodes : Source → ℕ → List Pieces → List (List Form) → List Code → Type 0
AreCodes s at [] [] [] = Unit {0}
AreCodes s at (p ∷ ps) (own ∷ forms) (part ∷ parts) = IsAssembledCode s at p own part × AreCodes s (at + total_words p.code own) ps forms parts
AreCodes s at _ _ _ = ⊥

-- these functions are from that number on
abbrev Stand : Source → (from at : ℕ) → List Pieces → List (List Form) → Type 0
Stand s from at ps forms =
    (k : ℕ) (p : Pieces) (own : List Form) → slice_get ps k ≡ Some p → slice_get forms k ≡ Some own →
    (slice_get s.pieces.now (from + k) ≡ Some p)
    × ((slice_get (forms_in s.places.now) (from + k) ≡ Some own) × (get_or (source_entries s) (from + k) 0 ≡ get_or (function_entries_from at ps forms) k 0))

codes_from : (s : Source) (from at : ℕ) (ps : List Pieces) (forms : List (List Form)) (parts : List Code) → Stand s from at ps forms → length forms ≡ length ps → length parts ≡ length ps →
    AreGivenFrom (IsCodeAt s) from parts → AreCodes s at ps forms parts
codes_from s from at [] [] [] stand same all given = tt
codes_from s from at [] [] (part ∷ parts) stand same all given = absurd (omega (arith, all))
codes_from s from at [] (own ∷ forms) parts stand same all given = absurd (omega (arith, same))
codes_from s from at (p ∷ ps) [] parts stand same all given = absurd (omega (arith, same))
codes_from s from at (p ∷ ps) (own ∷ forms) [] stand same all given = absurd (omega (arith, all))
codes_from s from at (p ∷ ps) (own ∷ forms) (part ∷ parts) stand same all given =
    let here : from + 0 ≡ from = omega arith in
    let it = subst
    (λ n. (slice_get s.pieces.now n ≡ Some p) × ((slice_get (forms_in s.places.now) n ≡ Some own) × (get_or (source_entries s) n 0 ≡ at))) here (stand 0 p own refl refl) in
    let past : (k : ℕ) → from + suc k ≡ from + 1 + k = λ k. omega arith in
    let next = at + total_words p.code own in
    let others : Stand s (from + 1) next ps forms = λ k q ks got of.
    subst (λ n. (slice_get s.pieces.now n ≡ Some q) × ((slice_get (forms_in s.places.now) n ≡ Some ks) × (get_or (source_entries s) n 0 ≡ get_or (function_entries_from next ps forms) k 0))) (past k)
    (stand (suc k) q ks got of) in (
      subst (λ n. IsAssembledCode s n p own part) it.1.1 (given.0 p own it.0 it.1.0),
      codes_from s (from + 1) next ps forms parts others (omega (arith, same)) (omega (arith, all)) given.1,
    )

-- as they are given
pub codes_given : (s : Source) → IsSource s → (parts : List Code) → AreGiven (IsCodeAt s) 0 (length s.pieces.now) parts →
    AreCodes s stub_words s.pieces.now (forms_in s.places.now) parts
codes_given s source parts given =
    let ps = s.pieces.now in
    let forms = forms_in s.places.now in
    let none : (k : ℕ) → k ≡ 0 + k = λ k. omega arith in
    let stand : Stand s 0 stub_words ps forms = λ k p own got of. (
      subst (λ n. slice_get ps n ≡ Some p) (none k) got,
      (subst (λ n. slice_get forms n ≡ Some own) (none k) of, ap (λ n. get_or (source_entries s) n 0) (sym (none k))),
    ) in
    codes_from s 0 stub_words ps forms parts stand (zip_length ps forms source.places.forms) given.len given.each

pub words_joined : (s : Source) (at : ℕ) (ps : List Pieces) (forms : List (List Form)) (parts : List Code) → AreCodes s at ps forms parts →
    flat_map (λ (part : Code). part.words.items) parts ≡ code_from (tree_of s) (source_entries s) at ps forms
words_joined s at [] [] [] are = refl
words_joined s at [] [] (part ∷ parts) are = absurd are
words_joined s at [] (own ∷ forms) parts are = absurd are
words_joined s at (p ∷ ps) [] parts are = absurd are
words_joined s at (p ∷ ps) (own ∷ forms) [] are = absurd are
words_joined s at (p ∷ ps) (own ∷ forms) (part ∷ parts) are =
    ap₂ (λ (xs ys : List ℕ). xs ++ ys) are.0.words (words_joined s (at + total_words p.code own) ps forms parts are.1)

pub descs_joined : (s : Source) (at : ℕ) (ps : List Pieces) (forms : List (List Form)) (parts : List Code) → AreCodes s at ps forms parts →
    flat_map (λ (part : Code). map desc part.descs.items) parts ≡ descs_from at ps forms
descs_joined s at [] [] [] are = refl
descs_joined s at [] [] (part ∷ parts) are = absurd are
descs_joined s at [] (own ∷ forms) parts are = absurd are
descs_joined s at (p ∷ ps) [] parts are = absurd are
descs_joined s at (p ∷ ps) (own ∷ forms) [] are = absurd are
descs_joined s at (p ∷ ps) (own ∷ forms) (part ∷ parts) are =
    ap₂ (λ (xs ys : List Desc). xs ++ ys) are.0.descs (descs_joined s (at + total_words p.code own) ps forms parts are.1)
