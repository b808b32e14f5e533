-- The image of a roomy file is never too large.
use Rattle.std.proofs.Common.{◌≡◌, ℕ, ◌+◌, ◌*◌, ◌≤◌, List, [], ◌∷◌, ◌++◌, length, flat_map, All, None, refl, sym, ap, subst, length-append, le-ltb, arith}
use Rattle.std.specs.Prelude.{sum_by}
use Rattle.std.specs.List.{AllByRecursion, AllZip}
use Rattle.std.proofs.lemmas.List.{length-map}
use Rattle.std.proofs.lemmas.List.Elements.{All-head, All-tail}
use Rattle.std.proofs.lemmas.List.Sums.{sum_by-cons}
use Rattle.std.proofs.lemmas.Nat.{mul-le}
use Rattle.bs_words.specs.Fits.{data_limit}
use Rattle.bs_fault.specs.declared.large.Section.TheVariants as section
use Rattle.cmm_front.specs.FileOf.{IsFileOf}
use Rattle.cmm_tree.specs.Tree.{Parameter, FunctionTree, FileTree, functions}
use Rattle.correctness.specs.Bounds.{most_words, most_desc_bytes, IsRoomy}
use Rattle.correctness.specs.Measures.{frame_points}
use Rattle.image_form.specs.Image.{func_bytes, desc_bytes, table_limit, code_limit, stub, stub_words}
use Rattle.image_form.specs.Tables.{Tables}
use Rattle.assemble_rules.proofs.Limits.{AreShort}
use Rattle.assemble_rules.proofs.Whole.{all_length, length_of_data}
use Rattle.rv_layout_rules.specs.declared.form.Form.{Form}
use Rattle.rv_layout_rules.specs.Conditions.{IsRowLaid, CanBeLaid}
use Rattle.rv_layout_rules.specs.Forms.{piece_words, total_words, all_words}
use Rattle.rv_layout_rules.specs.Laid.{function_entries_from, code_from, row_at, rows_from, descriptor_laid_at, descs_in, descs_from, laid_out, IsLaid}
use Rattle.rv_layout_rules.specs.TooLarge.{section_bytes_of, first_too_large}
use Rattle.lin_ir.specs.declared.descr.Descr.{Descr}
use Rattle.rv_pieces.specs.Named.{marks_in}
use Rattle.rv_pieces.specs.declared.piece.Piece.{Piece}
use Rattle.rv_pieces.specs.declared.piece.Piece.TheVariants.{Descriptor}
use Rattle.rv_pieces.specs.declared.piece.Pieces.{Pieces}
use Rattle.text_sizes.proofs.Whole.{text_held}
use Rattle.code_bounds.specs.Kept.{KeepsTo}
use Rattle.code_bounds.proofs.Bodies.{func_length, desc_length, table_length}
use Rattle.code_bounds.proofs.Calls.{extcs_short}
use Rattle.code_bounds.proofs.Data.{data_short, syms_short, roots_short}
use Rattle.code_bounds.proofs.Few.{IsModest, all_modest}
use Rattle.code_bounds.proofs.Image.{pieces_few}

-- ---- functions

rows_few : (at : ℕ) (fs : List FunctionTree) (ps : List Pieces) (forms : List (List Form)) → AllByRecursion IsRowLaid fs → AllByRecursion IsModest fs →
    length (flat_map func_bytes (rows_from at fs ps forms)) ≤ sum_by most_words fs
rows_few at [] ps forms rows modest = omega arith
rows_few at (f ∷ fs) [] forms rows modest = omega arith
rows_few at (f ∷ fs) (p ∷ ps) [] rows modest = omega arith
rows_few at (f ∷ fs) (p ∷ ps) (k ∷ forms) rows modest =
    let next = at + total_words p.code k in
    let own = func_length (row_at at f p k) in
    let name = rows.0.name.1 in
    let params = rows.0.few in
    let same = length-map f.params (λ (p : Parameter). p.comp) in
    let some = modest.0.some in
    let others = rows_few next fs ps forms rows.1 modest.1 in
    let split = sum_by-cons most_words f fs in
    omega (arith, own, name, params, same, some, others, split, length-append (func_bytes (row_at at f p k)) (flat_map func_bytes (rows_from next fs ps forms)))

-- ---- code

words_few : (fs : List FunctionTree) (ps : List Pieces) (forms : List (List Form)) → AllZip KeepsTo fs ps → all_words ps forms ≤ sum_by most_words fs
words_few [] [] forms keeps = omega arith
words_few [] (p ∷ ps) forms keeps = absurd keeps
words_few (f ∷ fs) [] forms keeps = absurd keeps
words_few (f ∷ fs) (p ∷ ps) [] keeps = omega arith
words_few (f ∷ fs) (p ∷ ps) (k ∷ forms) keeps =
    let own = pieces_few p.code k in
    let most = keeps.0.bounded.words in
    let others = words_few fs ps forms keeps.1 in
    let split = sum_by-cons most_words f fs in
    omega (arith, own, most, others, split)

-- ---- descriptors

abbrev marks_bytes : List Descr → ℕ
marks_bytes [] = 0
marks_bytes (d ∷ ds) = 12 + 4 * length d.entries + marks_bytes ds

own_bytes : (at : ℕ) (ps : List Piece) (fs : List Form) → length (flat_map (desc_bytes 2) (descs_in at ps fs)) ≤ marks_bytes (marks_in ps)
own_bytes at [] fs = omega arith
own_bytes at (p ∷ ps) [] = omega arith
own_bytes at (Descriptor d ∷ ps) (f ∷ fs) =
    let here = desc_length (descriptor_laid_at at d) in
    let others = own_bytes at ps fs in
    omega (arith, here, others, length-append (desc_bytes 2 (descriptor_laid_at at d)) (flat_map (desc_bytes 2) (descs_in at ps fs)))
own_bytes at (p ∷ ps) (f ∷ fs) = own_bytes (at + piece_words p f) ps fs

marks_few : (tokens : ℕ) (ds : List Descr) → All (λ (d : Descr). length d.entries ≤ 21 + 2 * tokens) ds → marks_bytes ds ≤ length ds * (8 * tokens + 156)
marks_few tokens [] all = omega arith
marks_few tokens (d ∷ ds) all =
    let here : length d.entries ≤ 21 + 2 * tokens = All-head (λ (d : Descr). length d.entries ≤ 21 + 2 * tokens) d ds all in
    let others = marks_few tokens ds (All-tail (λ (d : Descr). length d.entries ≤ 21 + 2 * tokens) d ds all) in
    omega (arith, here, others)

function_descs : (f : FunctionTree) (p : Pieces) (at : ℕ) (k : List Form) → KeepsTo f p →
    length (flat_map (desc_bytes 2) (descs_in at p.code k)) ≤ most_desc_bytes f
function_descs f p at k keeps =
    let own = own_bytes at p.code k in
    let carried = ap marks_bytes keeps.carried in
    let marks = marks_few f.tokens keeps.descrs keeps.bounded.entries in
    let product = mul-le (length keeps.descrs) (8 * f.tokens + 156) (frame_points f) (8 * f.tokens + 156) keeps.bounded.points (omega arith) in
    whole (length (flat_map (desc_bytes 2) (descs_in at p.code k))) (marks_bytes (marks_in p.code)) (marks_bytes keeps.descrs) _ (most_desc_bytes f) own carried marks product
  where
    whole : (a b c d e : ℕ) → a ≤ b → b ≡ c → c ≤ d → d ≤ e → a ≤ e
    whole a b c d e p q r s = omega (arith, p, q, r, s)

flat_both : {A : Type 0} (row : A → List ℕ) (xs ys : List A) → length (flat_map row (xs ++ ys)) ≡ length (flat_map row xs) + length (flat_map row ys)
flat_both row [] ys = omega arith
flat_both row (x ∷ xs) ys =
    let others = flat_both row xs ys in
    omega (arith, others, length-append (row x) (flat_map row (xs ++ ys)), length-append (row x) (flat_map row xs))

descs_few : (at : ℕ) (fs : List FunctionTree) (ps : List Pieces) (forms : List (List Form)) → AllZip KeepsTo fs ps →
    length (flat_map (desc_bytes 2) (descs_from at ps forms)) ≤ sum_by most_desc_bytes fs
descs_few at [] [] forms keeps = omega arith
descs_few at [] (p ∷ ps) forms keeps = absurd keeps
descs_few at (f ∷ fs) [] forms keeps = absurd keeps
descs_few at (f ∷ fs) (p ∷ ps) [] keeps = omega arith
descs_few at (f ∷ fs) (p ∷ ps) (k ∷ forms) keeps =
    let next = at + total_words p.code k in
    let own = function_descs f p at k keeps.0 in
    let others = descs_few next fs ps forms keeps.1 in
    let split = sum_by-cons most_desc_bytes f fs in
    let both = flat_both (desc_bytes 2) (descs_in at p.code k) (descs_from next ps forms) in
    sums (length (flat_map (desc_bytes 2) (descs_in at p.code k))) (length (flat_map (desc_bytes 2) (descs_from next ps forms))) (most_desc_bytes f)
    (sum_by most_desc_bytes fs) _ _ own others both split
  where
    sums : (a b c d e g : ℕ) → a ≤ c → b ≤ d → e ≡ a + b → g ≡ c + d → e ≤ g
    sums a b c d e g p q r s = omega (arith, p, q, r, s)

-- ---- all sections

pub short_fits : (t : Tables) → AreShort t → first_too_large t ≡ None
short_fits t s =
    rw (
      le-ltb table_limit (section_bytes_of t section.Func) s.funcs,
      le-ltb code_limit (section_bytes_of t section.Code) s.code,
      le-ltb data_limit (section_bytes_of t section.Data) s.bytes,
      le-ltb table_limit (section_bytes_of t section.Syms) s.syms,
      le-ltb table_limit (section_bytes_of t section.Root) s.roots,
      le-ltb table_limit (section_bytes_of t section.Extc) s.extcs,
      le-ltb table_limit (section_bytes_of t section.Desc) s.descs,
    )
    refl

laid_short : (text : List ℕ) (file : FileTree) (ps : List Pieces) (forms : List (List Form)) → IsFileOf text file → CanBeLaid file ps →
    AllZip KeepsTo (functions file) ps → IsRoomy file → AreShort (laid_out file ps forms)
laid_short text file ps forms is can keeps roomy =
    let entries = function_entries_from stub_words ps forms in
    let held = text_held text file is in
    let short = held.short in
    let names = held.names in
    let few_data = data_short file can.of_file.no_fault in
    let modest = all_modest text file is in
    let funcs = table_length func_bytes (rows_from stub_words (functions file) ps forms) in
    let rows = rows_few stub_words (functions file) ps forms can.of_file.rows modest in
    let room = roomy.code in
    let code = length-append stub (code_from file entries stub_words ps forms) in
    let same = all_length file entries stub_words ps forms in
    let words = words_few (functions file) ps forms keeps in
    let bytes = length_of_data file entries in
    let descs = table_length (desc_bytes 2) (descs_from stub_words ps forms) in
    let marks = descs_few stub_words (functions file) ps forms keeps in
    let desc_room = roomy.descs in
    record {
      funcs = omega (arith, funcs, rows, room);
      code = omega (arith, code, same, words, room);
      bytes = omega (arith, bytes, few_data);
      syms = syms_short file can.of_file.symbols (omega (arith, short, names));
      roots = roots_short file few_data;
      extcs = extcs_short file (omega (arith, short, names));
      descs = omega (arith, descs, marks, desc_room);
    }

-- The image of a roomy file fits.
pub roomy_fits : (text : List ℕ) (file : FileTree) (ps : List Pieces) (image : Tables) → IsFileOf text file → CanBeLaid file ps → IsLaid file ps image →
    AllZip KeepsTo (functions file) ps → IsRoomy file → first_too_large image ≡ None
roomy_fits text file ps image is can laid keeps roomy =
    subst (λ t. first_too_large t ≡ None) (sym laid.is) (short_fits (laid_out file ps laid.forms) (laid_short text file ps laid.forms is can keeps roomy))
