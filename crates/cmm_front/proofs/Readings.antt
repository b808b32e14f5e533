-- A text is read in one way.
use Rattle.std.proofs.Common.{◌≡◌, ℕ, ◌≤◌, List, length, Option, Some, None, Result, Ok, Err, refl, sym, subst}
use Rattle.bs_fault.specs.declared.fault.Fault.{Fault}
use Rattle.cmm_grammar.specs.Reading.{ReadOutcome, Read, Stops, items_at}
use Rattle.cmm_lex.specs.Lexing.{Splits, first_range}
use Rattle.cmm_lex.specs.Token.{TokenTree}
use Rattle.cmm_lex.proofs.Languages.{AreBytes}
use Rattle.bs_fault.specs.Reported.{Faultless, second}
use Rattle.bs_fault.proofs.Reported.{no_fault}
use Rattle.cmm_tree.specs.Tree.{ItemTree, FileTree}
use Rattle.cmm_grammar.specs.Spelling.{nesting}
use Rattle.cmm_data.specs.Faults.{data_fault_of}
use Rattle.bs_fault.specs.Limits.{longest_text}
use Rattle.cmm_reader.specs.Text.{read_file_faults, ReadsAs}
use Rattle.cmm_reader.specs.Telling.{Tells, IsReading, too_long, by_tokens}
use Rattle.cmm_reader.proofs.One.{one-reading}
use Rattle.cmm_reader.proofs.Telling.{said_reading}

pub one_file_read : (text : List ℕ) (file other : FileTree) → AreBytes text → ReadsAs text (Ok file) → ReadsAs text (Ok other) → file ≡ other
one_file_read text file other are h g =
    let same = one-reading text (Ok file) (Ok other) are h g in
    cc

pub read_or_told : (text : List ℕ) (file : FileTree) (told : Fault) → AreBytes text → ReadsAs text (Ok file) → ReadsAs text (Err told) → ⊥
read_or_told text file told are h g =
    let same = one-reading text (Ok file) (Err told) are h g in
    cc

pub one_fault_told : (text : List ℕ) (a b : Fault) → AreBytes text → ReadsAs text (Err a) → ReadsAs text (Err b) → a ≡ b
one_fault_told text a b are h g =
    let same = one-reading text (Err a) (Err b) are h g in
    cc

-- What is known of a text that is read as a file.
pub record IsRead (text : List ℕ) (file : FileTree) : Type 0 where
  pub short : length text ≤ longest_text
  pub tokens : List TokenTree
  pub rest : List TokenTree
  pub cut : Splits 0 text tokens None
  pub items : items_at nesting tokens ≡ Read file.items rest
  pub faultless : Faultless (read_file_faults (first_range tokens) file)

read_by : (text : List ℕ) (tokens : List TokenTree) (lexing : Option Fault) (file : FileTree) (o : ReadOutcome (List ItemTree))
    → length text ≤ longest_text
    → Splits 0 text tokens lexing
    → items_at nesting tokens ≡ o
    → Tells (length text) tokens lexing o (Ok file)
    → IsRead text file
read_by text tokens lexing file (Stops why left) short cut is tells = absurd (cc)
read_by text tokens (Some fault) file (Read items rest) short cut is tells = absurd (cc)
read_by text tokens None file (Read items rest) short cut is tells =
    let made : FileTree = record { items = items } in
    let whole : IsRead text made = record {
      short = short;
      tokens = tokens;
      rest = rest;
      cut = cut;
      items = is;
      faultless = tells.1;
    } in
    subst (λ (v : FileTree). IsRead text v) (sym tells.0) whole

read_of : (text : List ℕ) (result : Result FileTree Fault) (file : FileTree) → IsReading text result → result ≡ Ok file → IsRead text file
read_of text _ file (too_long h) same = absurd (cc)
read_of text _ file (by_tokens tokens lexing result short cut tells) same =
    read_by text tokens lexing file (items_at nesting tokens) short cut refl
    (subst (λ (v : Result FileTree Fault). Tells (length text) tokens lexing (items_at nesting tokens) v) same tells)

pub is_read : (text : List ℕ) (file : FileTree) → ReadsAs text (Ok file) → IsRead text file
is_read text file h = read_of text (Ok file) file (said_reading text (Ok file) h) refl

-- the data of a text that is read has a place
pub is_placed : (text : List ℕ) (file : FileTree) → ReadsAs text (Ok file) → data_fault_of file ≡ None
is_placed text file h =
    no_fault (data_fault_of file) (λ told among. (is_read text file h).faultless told (second _ _ (second _ _ among)))
