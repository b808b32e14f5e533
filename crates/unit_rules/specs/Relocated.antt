-- The code of a unit at its place in an image: its words there are its own words, once the entries
-- of its relocation table are applied to them.
--
-- Here an entry that patches a pair has its place in words from the start of the code, and the
-- number that the pair gets there. Which target of a unit a number comes of is not said here.
use Rattle.std.specs.Prelude.{◌≡◌, ℕ, zero, suc, ◌+◌, ◌*◌, ◌%◌, ◌^◌, Bool, cond, List, [], ◌∷◌, ◌++◌, bytes_eq, ⊤}
use Rattle.std.specs.List.{AllZip}
use Rattle.bs_words.specs.External.{External}
use Rattle.bs_words.specs.Symbol.{caml_bound_error}
use Rattle.cmm_data.specs.Placement.{value_of_symbol}
use Rattle.cmm_tree.specs.Tree.{FileTree}
use Rattle.mach_ir.specs.Acts.{external_row}
use Rattle.rv_emit_rules.specs.Instructions.{low_12}
use Rattle.rv_layout_rules.specs.declared.form.Form.{Form}
use Rattle.rv_layout_rules.specs.declared.form.Form.TheVariants.{Near, Middle, Far}
use Rattle.rv_layout_rules.specs.Forms.{piece_words, label_word_offset, total_words, Suffice}
use Rattle.rv_layout_rules.specs.Laid.{address_of_place, address_of_value}
use Rattle.rv_layout_rules.specs.Words.{NameAddresses, upper, words_from}
use Rattle.rv_pieces.specs.declared.piece.Piece.{Piece}
use Rattle.rv_pieces.specs.declared.piece.Piece.TheVariants.{Call, TailCall, SymbolAddress, ExternalNumber}
use Rattle.rv_pieces.specs.declared.piece.Pieces.{Pieces}

-- ---- code by what its names stand for

-- what the pieces of a function name, whose entry is at this word, where it is known what symbols
-- and external calls stand for
abbrev pub names_by : (symbol : List ℕ → ℕ) → (external : External → ℕ) → (at : ℕ) → List Piece →
    List Form → NameAddresses
names_by symbol external at ps forms = record {
  label = λ l. address_of_place (at + label_word_offset ps forms l);
  symbol = symbol;
  external = external;
}

-- the words of functions one after the other, the first of which begins at this word
abbrev pub code_by : (symbol : List ℕ → ℕ) → (external : External → ℕ) → (at : ℕ) → List Pieces →
    List (List Form) → List ℕ
code_by symbol external at [] forms = []
code_by symbol external at (p ∷ ps) [] = []
code_by symbol external at (p ∷ ps) (f ∷ forms) =
    words_from (names_by symbol external at p.code f) (address_of_place at) p.code f
    ++ code_by symbol external (at + total_words p.code f) ps forms

-- what symbols stand for in the image of a file whose functions have these entries
abbrev pub symbol_addresses : FileTree → (entries : List ℕ) → List ℕ → ℕ
symbol_addresses file entries name = address_of_value entries (value_of_symbol file name)

-- ---- one entry

-- A lui keeps its low 12 bits, an addi its low 20: which instruction it is, and its registers. So a
-- pair is patched without being decoded.
abbrev pub with_upper : (n word : ℕ) → ℕ
with_upper n word = word % 2 ^ 12 + 2 ^ 12 * upper n

abbrev pub with_lower : (n word : ℕ) → ℕ
with_lower n word = word % 2 ^ 20 + 2 ^ 20 * low_12 n

-- the first two words get a number
abbrev pub set_pair : (n : ℕ) → List ℕ → List ℕ
set_pair n (a ∷ b ∷ rest) = with_upper n a ∷ with_lower n b ∷ rest
set_pair n words = words

-- the two words after so many get a number
abbrev pub set_pair_at : (k n : ℕ) → List ℕ → List ℕ
set_pair_at zero n words = set_pair n words
set_pair_at (suc k) n [] = []
set_pair_at (suc k) n (w ∷ words) = w ∷ set_pair_at k n words

-- a pair's place, in words, and the number that it gets
pub record PairEntry : Type 0 where
  pub place : ℕ
  pub number : ℕ

-- words to which entries are applied, in their order
abbrev pub entries_applied : List PairEntry → List ℕ → List ℕ
entries_applied [] words = words
entries_applied (e ∷ entries) words =
    entries_applied entries (set_pair_at e.place e.number words)

-- ---- the entries of pieces

-- What names caml_bound_error has no entry: it has the same address in every image, which is
-- written at once.
abbrev pub symbol_entry : (place address : ℕ) → (name : List ℕ) → List PairEntry
symbol_entry place address name =
    cond (bytes_eq name caml_bound_error) [] (record { place = place; number = address } ∷ [])

-- a call by distance has none
abbrev pub call_entry : (place address : ℕ) → (name : List ℕ) → Form → List PairEntry
call_entry place address name Near = []
call_entry place address name Middle = symbol_entry place address name
call_entry place address name Far = symbol_entry place address name

abbrev pub entries_of_piece : NameAddresses → (place : ℕ) → Piece → Form → List PairEntry
entries_of_piece n place (SymbolAddress r name) form = symbol_entry place (n.symbol name) name
entries_of_piece n place (ExternalNumber r row) form =
    record { place = place; number = n.external (external_row row) } ∷ []
entries_of_piece n place (Call name) form = call_entry place (n.symbol name) name form
entries_of_piece n place (TailCall name) form = call_entry place (n.symbol name) name form
entries_of_piece n place _ form = []

abbrev pub entries_of_pieces : NameAddresses → (place : ℕ) → List Piece → List Form → List PairEntry
entries_of_pieces n place [] forms = []
entries_of_pieces n place (p ∷ ps) [] = []
entries_of_pieces n place (p ∷ ps) (f ∷ forms) =
    entries_of_piece n place p f ++ entries_of_pieces n (place + piece_words p f) ps forms

-- those of functions one after the other, the first of which begins at this word
abbrev pub entries_of_code : (symbol : List ℕ → ℕ) → (external : External → ℕ) → (at : ℕ) →
    List Pieces → List (List Form) → List PairEntry
entries_of_code symbol external at [] forms = []
entries_of_code symbol external at (p ∷ ps) [] = []
entries_of_code symbol external at (p ∷ ps) (f ∷ forms) =
    entries_of_pieces (names_by symbol external at p.code f) at p.code f
    ++ entries_of_code symbol external (at + total_words p.code f) ps forms

-- ---- what moves with the code

-- a callee that is called by distance is moved by as many bytes as its caller
abbrev pub CalleeMoves : (d from to : ℕ) → Form → Type 0
CalleeMoves d from to Near = to ≡ from + d
CalleeMoves d from to Middle = ⊤
CalleeMoves d from to Far = ⊤

abbrev pub CallMoves : (d : ℕ) → (symbol named : List ℕ → ℕ) → Piece → Form → Type 0
CallMoves d symbol named (Call name) form = CalleeMoves d (symbol name) (named name) form
CallMoves d symbol named (TailCall name) form = CalleeMoves d (symbol name) (named name) form
CallMoves d symbol named _ form = ⊤

abbrev pub CallsMove : (d : ℕ) → (symbol named : List ℕ → ℕ) → List Piece → List Form → Type 0
CallsMove d symbol named [] forms = ⊤
CallsMove d symbol named (p ∷ ps) [] = ⊤
CallsMove d symbol named (p ∷ ps) (f ∷ forms) =
    CallMoves d symbol named p f × CallsMove d symbol named ps forms

-- the callees of all functions, where a symbol lies at the first address before and at the second
-- after
abbrev pub AllCallsMove : (d : ℕ) → (symbol named : List ℕ → ℕ) → List Pieces →
    List (List Form) → Type 0
AllCallsMove d symbol named [] forms = ⊤
AllCallsMove d symbol named (p ∷ ps) [] = ⊤
AllCallsMove d symbol named (p ∷ ps) (f ∷ forms) =
    CallsMove d symbol named p.code f × AllCallsMove d symbol named ps forms

-- the functions are in forms in which each branch and jump reaches its label, and each call of what
-- is far goes by address
abbrev pub AllSuffice : (far : List ℕ → Bool) → List Pieces → List (List Form) → Type 0
AllSuffice far ps forms = AllZip (λ (p : Pieces) f. Suffice far p.code f) ps forms
