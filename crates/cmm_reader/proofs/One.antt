-- A text has one file, or one fault that is reported, and not both.
use Rattle.std.proofs.Common.{◌≡◌, ℕ, Bool, true, false, cond, List, [], ◌∷◌, length, Option, Some, None, Result, Ok, Err, refl, sym, ap, ◌∙◌, subst, arith}
use Rattle.bs_fault.specs.declared.fault.Fault.{Fault}
use Rattle.bs_fault.specs.declared.fault.Fault.TheVariants.{IntRange, DataTooLarge, DataItem}
use Rattle.cmm_lex.specs.Lexing.{first_range, is_out_of_range}
use Rattle.cmm_lex.specs.Token.{TokenTree}
use Rattle.cmm_lex.proofs.Unique.{one-split}
use Rattle.cmm_lex.proofs.Languages.{AreBytes}
use Rattle.cmm_tree.specs.Tree.{ItemTree, FileTree}
use Rattle.cmm_data.specs.Placement.{PlacedItem, placed_items}
use Rattle.cmm_data.specs.Faults.{data_fault_of, first_fault, or_later, fault_on, passes_limit, keeps_rule}
use Rattle.cmm_limits.proofs.Plain.{Plain, AllPlain, plain-both, plain-of, limits-plain, one-leftmost}
use Rattle.cmm_grammar.specs.Reading.{ReadOutcome, Read, Stops, items_at}
use Rattle.cmm_grammar.specs.Spelling.{nesting}
use Rattle.cmm_reader.specs.Text.{read_file_faults, ReadsAs}
use Rattle.cmm_reader.specs.Telling.{TellsFile, TellsItems, Tells, IsReading, too_long, by_tokens}
use Rattle.cmm_reader.proofs.Telling.{said_reading}

some-same : {A : Type 0} (a b : A) → Some a ≡ Some b → a ≡ b
some-same a b e = cc

none-some : {A G : Type 0} (a : A) → None ≡ Some a → G
none-some a e = cc

range-plain : (tokens : List TokenTree) (f : Fault) → first_range tokens ≡ Some f → Plain f
range-plain [] f e = none-some f e
range-plain (t ∷ tokens) f e = by_test (is_out_of_range t.kind t.text) (range-plain tokens f) e
  where
    by_test : (b : Bool) → (first_range tokens ≡ Some f → Plain f) → cond b (Some (IntRange t.at)) (first_range tokens) ≡ Some f → Plain f
    by_test true more h = subst Plain (some-same (IntRange t.at) f h) tt
    by_test false more h = more h

data-plain-on : (i : PlacedItem) (f : Fault) → fault_on i ≡ Some f → Plain f
data-plain-on i f e = by_limit (passes_limit i) e
  where
    by_rule : (b : Bool) → cond b None (Some (DataItem i.at)) ≡ Some f → Plain f
    by_rule true h = none-some f h
    by_rule false h = subst Plain (some-same (DataItem i.at) f h) tt

    by_limit : (b : Bool) → cond b (Some (DataTooLarge i.at)) (cond (keeps_rule i.address i.datum) None (Some (DataItem i.at))) ≡ Some f → Plain f
    by_limit true h = subst Plain (some-same (DataTooLarge i.at) f h) tt
    by_limit false h = by_rule (keeps_rule i.address i.datum) h

data-plain : (items : List PlacedItem) (f : Fault) → first_fault items ≡ Some f → Plain f
data-plain [] f e = none-some f e
data-plain (i ∷ items) f e = by_first (fault_on i) refl (data-plain items f) e
  where
    by_first : (o : Option Fault) → fault_on i ≡ o → (first_fault items ≡ Some f → Plain f) → or_later o (first_fault items) ≡ Some f → Plain f
    by_first None h more k = more k
    by_first (Some g) h more k = data-plain-on i f (h ∙ k)

faults-plain : (tokens : List TokenTree) (file : FileTree) → AllPlain (read_file_faults (first_range tokens) file)
faults-plain tokens file =
    plain-both _ _ (limits-plain file)
    (plain-both _ _ (plain-of (first_range tokens) (range-plain tokens)) (plain-of (data_fault_of file) (data-plain (placed_items file))))

file-same : (tokens : List TokenTree) (file : FileTree) (r s : Result FileTree Fault)
    → TellsFile (first_range tokens) file r
    → TellsFile (first_range tokens) file s
    → r ≡ s
file-same tokens file (Ok x) (Ok y) h k = ap Ok (h.0 ∙ sym k.0)
file-same tokens file (Ok x) (Err f) h k = absurd (h.1 f k.is_fault)
file-same tokens file (Err f) (Ok y) h k = absurd (k.1 f h.is_fault)
file-same tokens file (Err f) (Err g) h k = ap Err (one-leftmost (read_file_faults (first_range tokens) file) f g (faults-plain tokens file) h k)

items-same : (tokens : List TokenTree) (lexing : Option Fault) (items : List ItemTree) (r s : Result FileTree Fault)
    → TellsItems tokens lexing items r
    → TellsItems tokens lexing items s
    → r ≡ s
items-same tokens (Some f) items r s h k = h ∙ sym k
items-same tokens None items r s h k = file-same tokens (record { items = items }) r s h k

tells-same : (size : ℕ) (tokens : List TokenTree) (lexing : Option Fault) (o : ReadOutcome (List ItemTree)) (r s : Result FileTree Fault)
    → Tells size tokens lexing o r
    → Tells size tokens lexing o s
    → r ≡ s
tells-same size tokens lexing (Stops why left) r s h k = h ∙ sym k
tells-same size tokens lexing (Read items rest) r s h k = items-same tokens lexing items r s h k

-- reading reports one thing
one-told : (text : List ℕ) (r s : Result FileTree Fault) → AreBytes text → IsReading text r → IsReading text s → r ≡ s
one-told text _ _ are (too_long l) (too_long m) = refl
one-told text _ s are (too_long l) (by_tokens tokens lexing _ short cut tells) = absurd (omega (arith, l, short))
one-told text r _ are (by_tokens tokens lexing _ short cut tells) (too_long m) = absurd (omega (arith, m, short))
one-told text r s are (by_tokens tokens lexing _ short cut tells) (by_tokens others other _ short' cut' tells') =
    let same = one-split 0 text tokens others lexing other are cut cut' in
    let P : List TokenTree → Type 0 = λ v. Tells (length text) v other (items_at nesting v) s in
    let Q : Option Fault → Type 0 = λ v. Tells (length text) tokens v (items_at nesting tokens) s in
    tells-same (length text) tokens lexing (items_at nesting tokens) r s tells (subst Q (sym same.1) (subst P (sym same.0) tells'))

-- what reading a text gives is determined
pub one-reading : (text : List ℕ) (r s : Result FileTree Fault) → AreBytes text → ReadsAs text r → ReadsAs text s → r ≡ s
one-reading text r s are h k = one-told text r s are (said_reading text r h) (said_reading text s k)
