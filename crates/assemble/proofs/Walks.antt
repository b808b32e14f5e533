-- One function after the other: its place, its words and its row.
use Rattle.std.proofs.Common.{◌≡◌, ℕ, zero, suc, ◌+◌, ◌*◌, ◌^◌, ◌<◌, ◌≤◌, List, [], ◌∷◌, ◌++◌, length, map, get_or, drop, None, refl, sym, ap, ap₂, ◌∙◌, subst, append_assoc, arith}
use Rattle.std.proofs.lemmas.List.{length-map}
use Rattle.function_places.specs.Places.{forms_in, size_of, IsLaidFunction}
use Rattle.assemble.specs.Source.{IsSource, tree_of, source_entries, laid_of, addresses_named_by}
use Rattle.function_places.specs.declared.places.Laid.{Laid}
use Rattle.assemble.specs.declared.source.Source.{Source}
use Rattle.assemble.proofs.Bounds.{each_most, zip_length, zip_same, end_is, end_short}
use Rattle.assemble.proofs.Steps.{here, laid_at, all_at, form_at}
use Rattle.function_places.proofs.Starts.{own_forms}
use Rattle.cmm_tree.specs.Tree.{FunctionTree, functions_among}
use Rattle.cmm_tree.specs.View.{function_view, item_view}
use Rattle.cmm_tree.specs.declared.file.DataList.{DataList}
use Rattle.cmm_tree.specs.declared.file.Function.{Function}
use Rattle.cmm_tree.specs.declared.file.Item.{Item}
use Rattle.cmm_tree.specs.declared.file.Item.TheVariants as item
use Rattle.cmm_types.specs.Typing.{AreItemsAnnotated}
use Rattle.image_form.specs.Image.{code_limit, stub_words}
use Rattle.image_form.specs.Tables.{Func}
use Rattle.rv_layout_rules.specs.declared.form.Form.{Form}
use Rattle.rv_layout_rules.specs.Conditions.{IsFunctionLaid, HasAlignedTarget, AllLead}
use Rattle.rv_layout_rules.specs.Forms.{total_words, place_or_entry, all_words}
use Rattle.rv_layout_rules.specs.Laid.{function_entries_from, address_of_place, function_words, row_at, rows_from, addresses_named_at}
use Rattle.rv_layout_rules.specs.TooLarge.{first_too_large}
use Rattle.rv_layout_rules.specs.Words.{NameAddresses, target_of, words_to}
use Rattle.rv_layout_rules.proofs.Standing.{words_by_targets}
use Rattle.mach_ir.specs.Acts.{external_row}
use Rattle.rv_layout.specs.Tables.{words_of_labels, IsLabelTable}
use Rattle.rv_layout.specs.declared.labels.LabelOffsets.{LabelOffsets}
use Rattle.rv_pieces.specs.declared.piece.Piece.{Piece}
use Rattle.rv_pieces.specs.declared.piece.Piece.TheVariants.{Known, Label, Branch, Jump, Row, LabelAddress, Call, TailCall, SymbolAddress, ExternalNumber, Descriptor}
use Rattle.rv_pieces.specs.declared.piece.Pieces.{Pieces}
use Rattle.bs_words.proofs.Lists.{drop_step}

-- Function i of a file is these pieces, laid out so, and its entry is here.
pub record At (s : Source) (i : ℕ) (p : Pieces) (own : Laid) (entry : ℕ) : Type 0 where
  pub laid : IsFunctionLaid (tree_of s) p
  pub is : IsLaidFunction p own
  pub few : size_of p < 2 ^ 48
  pub same : length own.forms.items ≡ length p.code
  pub inside : entry + total_words p.code own.forms.items ≤ s.places.now.end
  pub short : 4 * s.places.now.end ≤ code_limit
  pub pieces : drop i s.pieces.now ≡ p ∷ drop (i + 1) s.pieces.now
  pub forms : drop i (forms_in s.places.now) ≡ own.forms.items ∷ drop (i + 1) (forms_in s.places.now)
  pub place : entry + total_words p.code own.forms.items + all_words (drop (i + 1) s.pieces.now) (drop (i + 1) (forms_in s.places.now)) ≡ s.places.now.end

pub forms_long : (s : Source) → IsSource s → length s.places.now.forms.items ≡ length s.pieces.now
forms_long s source =
    let long = length-map s.places.now.forms.items own_forms in
    let same = zip_length s.pieces.now (forms_in s.places.now) source.places.forms in
    omega (arith, long, same)

pub function_at : (s : Source) → IsSource s → first_too_large (laid_of s) ≡ None → (i : ℕ) (p : Pieces) (own : Laid) (entry : ℕ) →
    i < length s.pieces.now → p ≡ get_or s.pieces.now i p → own ≡ get_or s.places.now.forms.items i own →
    entry + all_words (drop i s.pieces.now) (drop i (forms_in s.places.now)) ≡ s.places.now.end → At s i p own entry
function_at s source fits i p own entry h is of place =
    let ps = s.pieces.now in
    let forms = s.places.now.forms.items in
    let long = forms_long s source in
    let within : i < length forms = omega (arith, h, long) in
    let rest = drop_step ps i p h is in
    let others = here own_forms forms i own within of in
    let opened : entry + (total_words p.code own.forms.items + all_words (drop (i + 1) ps) (drop (i + 1) (map own_forms forms))) ≡ s.places.now.end =
    ap (λ (n : ℕ). entry + n) (sym (ap₂ all_words rest others)) ∙ place in
    record {
      laid = all_at (IsFunctionLaid (tree_of s)) ps i p source.can.each h is;
      is = laid_at ps forms i p own source.places.each h is of;
      few = omega (arith, each_most ps i p h is, source.can.few);
      same = zip_same ps (forms_in s.places.now) i p own.forms.items source.places.forms h is (form_at forms i own within of);
      inside = omega (arith, opened);
      short = end_short s source fits;
      pieces = rest;
      forms = others;
      place = omega (arith, opened);
    }

-- ---- what grows with each function

pub rows_more : (s : Source) (i : ℕ) (p q : Pieces) (f : FunctionTree) (fs : List FunctionTree) (own ks : Laid) (entry entry' : ℕ) (rows rows' all : List Func) → At s i p own entry → q ≡ p →
    ks ≡ own → entry' ≡ entry + total_words p.code own.forms.items → rows' ≡ rows ++ row_at entry f q ks.forms.items ∷ [] →
    rows ++ rows_from entry (f ∷ fs) (drop i s.pieces.now) (drop i (forms_in s.places.now)) ≡ all →
    rows' ++ rows_from entry' fs (drop (i + 1) s.pieces.now) (drop (i + 1) (forms_in s.places.now)) ≡ all
rows_more s i p q f fs own ks entry entry' rows rows' all at e d g k so_far =
    let ps = drop (i + 1) s.pieces.now in
    let others = drop (i + 1) (forms_in s.places.now) in
    let mine = row_at entry f p own.forms.items in
    let made : rows' ≡ rows ++ mine ∷ [] = k ∙ ap₂ (λ (x : Pieces) (y : Laid). rows ++ row_at entry f x y.forms.items ∷ []) e d in
    ap₂ (λ (ds : List Func) (n : ℕ). ds ++ rows_from n fs ps others) made g
    ∙ (append_assoc rows (mine ∷ []) (rows_from (entry + total_words p.code own.forms.items) fs ps others)
    ∙ (ap₂ (λ (x : List Pieces) (y : List (List Form)). rows ++ rows_from entry (f ∷ fs) x y) (sym at.pieces) (sym at.forms) ∙ so_far))

-- ---- the entry of each function

entry_there : (at : ℕ) (ps : List Pieces) (forms : List (List Form)) (i : ℕ) → i < length ps → length forms ≡ length ps →
    get_or (function_entries_from at ps forms) i 0 + all_words (drop i ps) (drop i forms) ≡ at + all_words ps forms
entry_there at [] forms i h same = absurd (omega (arith, h))
entry_there at (p ∷ ps) [] i h same = absurd (omega (arith, same))
entry_there at (p ∷ ps) (f ∷ forms) zero h same = refl
entry_there at (p ∷ ps) (f ∷ forms) (suc i) h same =
    let later = entry_there (at + total_words p.code f) ps forms i (omega (arith, h)) (omega (arith, same)) in
    omega (arith, later)

entries_many : (at : ℕ) (ps : List Pieces) (forms : List (List Form)) → length forms ≡ length ps → length (function_entries_from at ps forms) ≡ length ps
entries_many at [] forms same = refl
entries_many at (p ∷ ps) [] same = absurd (omega (arith, same))
entries_many at (p ∷ ps) (f ∷ forms) same = ap suc (entries_many (at + total_words p.code f) ps forms (omega (arith, same)))

pub entries_long : (s : Source) → IsSource s → length s.places.now.entries.items ≡ length s.pieces.now
entries_long s source =
    ap length source.places.entries ∙ entries_many stub_words s.pieces.now (forms_in s.places.now) (zip_length s.pieces.now (forms_in s.places.now) source.places.forms)

-- the function of this number, whose entry is read from the table
pub function_there : (s : Source) → IsSource s → first_too_large (laid_of s) ≡ None → (i : ℕ) (p : Pieces) (own : Laid) →
    i < length s.pieces.now → p ≡ get_or s.pieces.now i p → own ≡ get_or s.places.now.forms.items i own → At s i p own (get_or s.places.now.entries.items i 0)
function_there s source fits i p own h is of =
    let ps = s.pieces.now in
    let forms = forms_in s.places.now in
    let there = entry_there stub_words ps forms i h (zip_length ps forms source.places.forms) in
    let same = ap (λ (l : List ℕ). get_or l i 0) source.places.entries in
    function_at s source fits i p own (get_or s.places.now.entries.items i 0) h is of (omega (arith, there, same, end_is s source))

-- ---- the words of one function

target_same : (n m : NameAddresses) → ((l : ℕ) → n.label l ≡ m.label l) → ((name : List ℕ) → n.symbol name ≡ m.symbol name) → ((e : _) → n.external e ≡ m.external e) →
    (p : Piece) → target_of n p ≡ target_of m p
target_same n m e f g (Known i) = refl
target_same n m e f g (Label l) = refl
target_same n m e f g (Branch c a b l) = e l
target_same n m e f g (Jump l) = e l
target_same n m e f g (Row l) = e l
target_same n m e f g (LabelAddress r l) = e l
target_same n m e f g (Call name) = f name
target_same n m e f g (TailCall name) = f name
target_same n m e f g (SymbolAddress r name) = f name
target_same n m e f g (ExternalNumber r row) = g (external_row row)
target_same n m e f g (Descriptor d) = refl

targets_same : (n m : NameAddresses) → ((p : Piece) → target_of n p ≡ target_of m p) → (ps : List Piece) → map (target_of n) ps ≡ map (target_of m) ps
targets_same n m e [] = refl
targets_same n m e (p ∷ ps) = ap₂ (λ (t : ℕ) (ts : List ℕ). t ∷ ts) (e p) (targets_same n m e ps)

pub words_placed : (s : Source) (entry at : ℕ) (targets : List ℕ) (labels : LabelOffsets) (code' code : List Piece) (fs : List Form) → at ≡ address_of_place entry →
    targets ≡ map (target_of (addresses_named_by s entry (words_of_labels labels))) code' → code' ≡ code → IsLabelTable code' fs labels →
    words_to at targets code' fs ≡ function_words (tree_of s) (source_entries s) entry code fs
words_placed s entry at targets labels code' code fs e f g table =
    let n = addresses_named_by s entry (words_of_labels labels) in
    let m = addresses_named_at (tree_of s) (source_entries s) entry code' fs in
    let place : (l : ℕ) → n.label l ≡ m.label l = λ l. ap (λ (o : _). address_of_place (entry + place_or_entry o)) (table.each l) in
    let same = target_same n m place (λ name. refl) (λ row. refl) in
    ap₂ (λ (a : ℕ) (ts : List ℕ). words_to a ts code' fs) e (f ∙ targets_same n m same code')
    ∙ (words_by_targets m (address_of_place entry) code' fs ∙ ap (λ (c : List Piece). function_words (tree_of s) (source_entries s) entry c fs) g)

leads_by : (s : Source) (entry : ℕ) (places : ℕ → ℕ) (p : Piece) → HasAlignedTarget (target_of (addresses_named_by s entry places) p) p
leads_by s entry places (Known i) = tt
leads_by s entry places (Label l) = tt
leads_by s entry places (Branch c a b l) = omega arith
leads_by s entry places (Jump l) = omega arith
leads_by s entry places (Row l) = tt
leads_by s entry places (LabelAddress r l) = tt
leads_by s entry places (Call name) = tt
leads_by s entry places (TailCall name) = tt
leads_by s entry places (SymbolAddress r name) = tt
leads_by s entry places (ExternalNumber r row) = tt
leads_by s entry places (Descriptor d) = tt

pub all_lead : (s : Source) (entry : ℕ) (places : ℕ → ℕ) (ps : List Piece) → AllLead (map (target_of (addresses_named_by s entry places)) ps) ps
all_lead s entry places [] = tt
all_lead s entry places (p ∷ ps) = (leads_by s entry places p, all_lead s entry places ps)

-- ---- items of the file

pub function_here : (items : List Item) (i : ℕ) (x : Item) (f : Function) → i < length items → x ≡ get_or items i x → x ≡ item.Function f →
    functions_among (map item_view (drop i items)) ≡ function_view f ∷ functions_among (map item_view (drop (i + 1) items))
function_here items i x f h is own =
    ap (λ (l : List Item). functions_among (map item_view l)) (drop_step items i x h is) ∙ ap (λ (y : Item). functions_among (map item_view (y ∷ drop (i + 1) items))) own

pub data_here : (items : List Item) (i : ℕ) (x : Item) (d : DataList) → i < length items → x ≡ get_or items i x → x ≡ item.Data d →
    functions_among (map item_view (drop i items)) ≡ functions_among (map item_view (drop (i + 1) items))
data_here items i x d h is own =
    ap (λ (l : List Item). functions_among (map item_view l)) (drop_step items i x h is) ∙ ap (λ (y : Item). functions_among (map item_view (y ∷ drop (i + 1) items))) own

pub typed_next : (items : List Item) (i : ℕ) (x : Item) → i < length items → x ≡ get_or items i x → AreItemsAnnotated (drop i items) → AreItemsAnnotated (drop (i + 1) items)
typed_next items i x h is typed = (subst AreItemsAnnotated (drop_step items i x h is) typed).1
