-- The functions of an image: each is at its entry, and together they fill the code.
use Rattle.std.proofs.Common.{◌≡◌, ℕ, zero, suc, ◌+◌, ◌*◌, ◌^◌, ◌<◌, ◌≤◌, List, [], ◌∷◌, ◌++◌, length, Some, refl, subst, length-append, append_assoc, arith}
use Rattle.std.specs.Prelude.{slice_get}
use Rattle.std.specs.List.{AllByRecursion}
use Rattle.std.proofs.lemmas.Option.{same_Some}
use Rattle.cmm_tree.specs.Tree.{FunctionTree, FileTree, functions}
use Rattle.correctness.specs.Bounds.{FillCode}
use Rattle.image_form.specs.Image.{stub, stub_words, code_limit}
use Rattle.image_form.specs.Tables.{Func, Tables}
use Rattle.rv_layout_rules.specs.declared.form.Form.{Form}
use Rattle.rv_layout_rules.specs.Conditions.{HasAlignedTarget, IsFunctionLaid, CanBeLaid}
use Rattle.rv_layout_rules.specs.Forms.{piece_words, total_words, ReachFrom, Reach, label_word_offset}
use Rattle.rv_layout_rules.specs.Laid.{address_of_place, function_entries_from, addresses_named_at, function_words, code_from, rows_from, laid_out, AllReach, AreAllForms, IsLaid, IsLaidOut}
use Rattle.rv_layout_rules.specs.Stands.{FunctionStandsAt, IsFunctionInImage}
use Rattle.rv_layout_rules.specs.Words.{target_of}
use Rattle.rv_layout_rules.proofs.Standing.{words_length, pieces_stand}
use Rattle.rv_pieces.specs.declared.piece.Piece.{Piece}
use Rattle.rv_pieces.specs.declared.piece.Piece.TheVariants.{Known, Label, Branch, Jump, Row, LabelAddress, Call, TailCall, SymbolAddress, ExternalNumber, Descriptor}
use Rattle.rv_pieces.specs.declared.piece.Pieces.{Pieces}

-- there are as many forms as pieces
pub forms_length : (places : ℕ → ℕ) (at : ℕ) (ps : List Piece) (fs : List Form) → ReachFrom places at ps fs → length fs ≡ length ps
forms_length places at [] [] reach = refl
forms_length places at [] (f ∷ fs) reach = absurd reach
forms_length places at (p ∷ ps) [] reach = absurd reach
forms_length places at (p ∷ ps) (f ∷ fs) reach =
    let rest = forms_length places (at + piece_words p f) ps fs reach.1 in omega (arith, rest)

-- labels lie at multiples of 4
pub names_lead : (file : FileTree) (entries : List ℕ) (at : ℕ) (ps : List Piece) (fs : List Form) (p : Piece) → HasAlignedTarget (target_of (addresses_named_at file entries at ps fs) p) p
names_lead file entries at ps fs (Known i) = tt
names_lead file entries at ps fs (Label l) = tt
names_lead file entries at ps fs (Branch c a b l) = omega arith
names_lead file entries at ps fs (Jump l) = omega arith
names_lead file entries at ps fs (Row l) = tt
names_lead file entries at ps fs (LabelAddress r l) = tt
names_lead file entries at ps fs (Call name) = tt
names_lead file entries at ps fs (TailCall name) = tt
names_lead file entries at ps fs (SymbolAddress r name) = tt
names_lead file entries at ps fs (ExternalNumber r row) = tt
names_lead file entries at ps fs (Descriptor d) = tt

-- A function, its forms, and its row where it is.
pub record Found (file : FileTree) (entries starts code : List ℕ) (forms : List (List Form)) (k : ℕ) (p : Pieces) (row : Func) : Type 0 where
  pub of : List Form
  pub chosen : slice_get forms k ≡ Some of
  pub reach : Reach p.code of
  pub place : ℕ
  pub entry : slice_get starts k ≡ Some place
  pub stands : FunctionStandsAt file entries code place p of row

pub function_length : (file : FileTree) (entries : List ℕ) (at : ℕ) (p : Pieces) (fs : List Form) → length (function_words file entries at p.code fs) ≡ total_words p.code fs
function_length file entries at p fs = words_length (addresses_named_at file entries at p.code fs) (address_of_place at) p.code fs

pub found : (file : FileTree) (entries : List ℕ) (fs : List FunctionTree) (ps : List Pieces) (forms : List (List Form)) (pre : List ℕ) (at k : ℕ) (p : Pieces) (row : Func) →
    at ≡ length pre → stub_words ≤ at → AllReach ps forms → AllByRecursion (IsFunctionLaid file) ps →
    address_of_place (length (pre ++ code_from file entries at ps forms)) + 4 < 2 ^ 32 →
    slice_get ps k ≡ Some p → slice_get (rows_from at fs ps forms) k ≡ Some row →
    Found file entries (function_entries_from at ps forms) (pre ++ code_from file entries at ps forms) forms k p row
found file entries fs [] forms pre at k p row e behind are laid low is row_is = cc
found file entries fs (q ∷ ps) [] pre at k p row e behind are laid low is row_is = absurd are
found file entries [] (q ∷ ps) (g ∷ forms) pre at k p row e behind are laid low is row_is = cc
found file entries (f ∷ fs) (q ∷ ps) (g ∷ forms) pre at zero p row e behind are laid low is row_is =
    let same : q ≡ p = same_Some _ _ is in
    let same_row = same_Some _ _ row_is in
    let words = function_words file entries at q.code g in
    let rest = code_from file entries (at + total_words q.code g) ps forms in
    let code = pre ++ (words ++ rest) in
    let long = length-append pre (words ++ rest) in
    let both = length-append words rest in
    let own = function_length file entries at q g in
    let inside : at + total_words q.code g ≤ length code = omega (arith, e, long, both, own) in
    let below : address_of_place (at + total_words q.code g) + 4 < 2 ^ 32 = omega (arith, inside, low) in
    let length-forms = forms_length (label_word_offset q.code g) 0 q.code g are.0 in
    let has = pieces_stand (addresses_named_at file entries at q.code g) q.code g pre rest at e length-forms below laid.0.fits (names_lead file entries at q.code g) in
    let here : Found file entries (at ∷ function_entries_from (at + total_words q.code g) ps forms) code (g ∷ forms) zero q row = record {
      of = g;
      chosen = refl;
      reach = are.0;
      place = at;
      entry = refl;
      stands = subst (λ r. FunctionStandsAt file entries code at q g r) same_row (record {
        offset = refl;
        words = refl;
        frame = refl;
        behind = behind;
        within = inside;
        has = has;
      });
    } in
    subst (λ p. Found file entries (at ∷ function_entries_from (at + total_words q.code g) ps forms) code (g ∷ forms) zero p row) same here
found file entries (f ∷ fs) (q ∷ ps) (g ∷ forms) pre at (suc k) p row e behind are laid low is row_is =
    let words = function_words file entries at q.code g in
    let next = at + total_words q.code g in
    let rest = code_from file entries next ps forms in
    let own = function_length file entries at q g in
    let place : next ≡ length (pre ++ words) = omega (arith, e, length-append pre words, own) in
    let assoc = append_assoc pre words rest in
    let below : address_of_place (length ((pre ++ words) ++ rest)) + 4 < 2 ^ 32 = rw assoc low in
    let later = found file entries fs ps forms (pre ++ words) next k p row place (omega (arith, behind)) are.1 laid.1 below is row_is in
    record {
      of = later.of;
      chosen = later.chosen;
      reach = later.reach;
      place = later.place;
      entry = later.entry;
      stands = subst (λ code. FunctionStandsAt file entries code later.place p later.of row) assoc later.stands;
    }

-- ---- the functions fill the code

pub fill_code : (file : FileTree) (entries : List ℕ) (fs : List FunctionTree) (ps : List Pieces) (forms : List (List Form)) (at : ℕ) →
    length ps ≡ length fs → AllReach ps forms →
    FillCode (4 * at) (4 * (at + length (code_from file entries at ps forms))) (rows_from at fs ps forms)
fill_code file entries [] [] [] at same are = omega arith
fill_code file entries [] [] (g ∷ forms) at same are = absurd are
fill_code file entries (f ∷ fs) [] forms at same are = absurd (omega (arith, same))
fill_code file entries [] (q ∷ ps) forms at same are = absurd (omega (arith, same))
fill_code file entries (f ∷ fs) (q ∷ ps) [] at same are = absurd are
fill_code file entries (f ∷ fs) (q ∷ ps) (g ∷ forms) at same are =
    let next = at + total_words q.code g in
    let words = function_words file entries at q.code g in
    let rest = code_from file entries next ps forms in
    let later = fill_code file entries fs ps forms next (omega (arith, same)) are.1 in
    let begin : 4 * next ≡ 4 * at + 4 * total_words q.code g = omega arith in
    let end : 4 * (next + length rest) ≡ 4 * (at + length (words ++ rest)) = omega (arith, length-append words rest, function_length file entries at q g) in (
      refl,
      subst (λ to. FillCode (4 * at + 4 * total_words q.code g) to (rows_from next fs ps forms)) end
          (subst (λ from. FillCode from (4 * (next + length rest)) (rows_from next fs ps forms)) begin later),
    )

-- ---- the whole

row_there : (fs : List FunctionTree) (ps : List Pieces) (forms : List (List Form)) (at k : ℕ) (p : Pieces) → length ps ≡ length fs → AllReach ps forms → slice_get ps k ≡ Some p →
    (row : Func) × (slice_get (rows_from at fs ps forms) k ≡ Some row)
row_there fs [] forms at k p same are is = cc
row_there [] (q ∷ ps) forms at k p same are is = absurd (omega (arith, same))
row_there (f ∷ fs) (q ∷ ps) [] at k p same are is = absurd are
row_there (f ∷ fs) (q ∷ ps) (g ∷ forms) at zero p same are is = (_, refl)
row_there (f ∷ fs) (q ∷ ps) (g ∷ forms) at (suc k) p same are is =
    row_there fs ps forms (at + total_words q.code g) k p (omega (arith, same)) are.1 is

-- Each function is in the image, where its code keeps its limit.
pub stands : (file : FileTree) (ps : List Pieces) (forms : List (List Form)) (k : ℕ) (p : Pieces) → CanBeLaid file ps → AllReach ps forms →
    4 * length (laid_out file ps forms).code ≤ code_limit → slice_get ps k ≡ Some p →
    IsFunctionInImage file (function_entries_from stub_words ps forms) forms (laid_out file ps forms) k p
stands file ps forms k p can are short is =
    let entries = function_entries_from stub_words ps forms in
    let there = row_there (functions file) ps forms stub_words k p can.each_one are is in
    let it = found file entries (functions file) ps forms stub stub_words k p there.0 refl (omega arith) are can.each (omega (arith, short)) is there.1 in
    record { forms = it.of; chosen = it.chosen; reach = it.reach; place = it.place; entry = it.entry; row = there.0; row_is = there.1; stands = it.stands }

-- The code is the stub and the functions' words.
pub filled : (file : FileTree) (ps : List Pieces) (forms : List (List Form)) → CanBeLaid file ps → AllReach ps forms →
    FillCode (4 * stub_words) (4 * length (laid_out file ps forms).code) (laid_out file ps forms).funcs
filled file ps forms can are =
    let entries = function_entries_from stub_words ps forms in
    let code = code_from file entries stub_words ps forms in
    let end : 4 * (stub_words + length code) ≡ 4 * length (stub ++ code) = omega (arith, length-append stub code) in
    subst (λ to. FillCode (4 * stub_words) to (rows_from stub_words (functions file) ps forms)) end
    (fill_code file entries (functions file) ps forms stub_words can.each_one are)

-- The least forms reach.
pub all_reach : (ps : List Pieces) (forms : List (List Form)) → AreAllForms ps forms → AllReach ps forms
all_reach [] [] are = tt
all_reach [] (f ∷ forms) are = are
all_reach (p ∷ ps) [] are = are
all_reach (p ∷ ps) (f ∷ forms) are = (are.0.suffice, all_reach ps forms are.1)

pub laid : (file : FileTree) (ps : List Pieces) (t : Tables) → IsLaidOut file ps t → IsLaid file ps t
laid file ps t l = record { forms = l.forms; reach = all_reach ps l.forms l.are; is = l.is }
